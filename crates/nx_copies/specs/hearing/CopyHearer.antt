-- What a receiver keeps but its memory, and after which elements: the layer below what is printed.
-- A hearer turns elements into copies, each with the moment and the selection in force at its
-- second digit (this profile).
use Rattle.std.specs.Prelude.{◌≡◌, ℕ, ◌+◌, ◌≤◌, Bool, true, false}
use Rattle.std.specs.Prelude.{List, [], ◌∷◌, ◌++◌, length, map, take, Option, Some, None}
use Rattle.std.specs.Prelude.{slice_index_or}
use Rattle.std.specs.List.{All}
use Rattle.nx_sync.specs.Synchroniser.{StandsAfter}
use Rattle.nx_sync.specs.Locks.{Lock, Now, hunting, locked, IsNow}
use Rattle.nx_sync.specs.Words.{word_of_lock, first_role, whole_words}
use Rattle.nx_sync.specs.declared.step.Role.{Role}
use Rattle.nx_envelope.specs.Copies.{Copy, open_headers}
use Rattle.nx_envelope.specs.Finder.{HasReady, is_ready}
use Rattle.nx_envelope.specs.declared.found.HeldCopy.{HeldCopy}
use Rattle.nx_envelope.specs.declared.found.HeldCopy.TheVariants as held
use Rattle.nx_envelope.specs.declared.identity.Identity.{Identity}
use Rattle.nx_memory.specs.Selection.{admits}
use Rattle.nx_copies.specs.declared.copy_taker.Over.{Over}
use Rattle.nx_copies.specs.declared.copy_taker.Over.TheVariants as over
use Rattle.nx_copies.specs.declared.copy_taker.CopyTag.{CopyTag}
use Rattle.nx_copies.specs.Events.{Setting}
use Rattle.nx_copies.specs.LockReader.{ReadsLock}
use Rattle.nx_copies.specs.hearing.CopyHearing.{CopyHearing, in_force}
use Rattle.nx_copies.specs.LockReader.{LockReading}
use Rattle.nx_copies.specs.copies.LockText.{PlacedByte, bytes_of}
use Rattle.nx_copies.specs.copies.FoundCopies.{FoundCopy, place_of_header, ended_in, past_text, past_copies}
use Rattle.nx_copies.specs.copies.FoundCopies.{standing_text, ended_so_far, TaggedCopy}
use Rattle.nx_copies.specs.copies.FoundCopies.{tag}

-- what a copy of the identity bears of what is in force at its second digit
abbrev pub tag_of : Setting → Identity → CopyTag
tag_of setting identity =
    record { moment = setting.moment; is_selected = admits setting.refused identity }

-- what is in force at the element with this index, of what is in force at each
abbrev pub setting_in : Setting → List Setting → ℕ → Setting
setting_in first settings place = slice_index_or settings place first

-- copies with what is in force at the second digit of each, by what is in force at each element
unfoldable pub copies_by : Setting → List Setting → List FoundCopy → List TaggedCopy
copies_by first settings copies =
    map (λ copy. tag (setting_in first settings copy.place) copy) copies

-- the tag is that of each copy that stands open in the text; there is at most one
unfoldable pub HasTag : Setting → List Setting → List PlacedByte → CopyTag → Type 0
HasTag first settings text kept =
    All
    (λ header. kept
    ≡ tag_of (setting_in first settings (place_of_header text header)) header.identity)
    (open_headers (bytes_of text))

-- the reader stands after no word of a lock, whichever lock comes
pub record IsFresh (reader : LockReading) : Type 0 where
  pub fresh : (first : Role) (words : ℕ → ℕ) → ReadsLock reader first words 0

-- the reader stands after the words that were heard whole of the lock that stands, if one does
abbrev pub ReadsNow : LockReading → List Bool → Now → Type 0
ReadsNow reader bits (hunting p) = IsFresh reader
ReadsNow reader bits (locked p t) =
    ReadsLock reader (first_role bits t) (word_of_lock bits t) (whole_words bits t)

-- After these elements, with what is in force at each, these copies have ended, in order.
pub record HasEnded (first : Setting) (bits : List Bool) (settings : List Setting)
    (copies : List TaggedCopy) : Type 0 where
  pub locks : List Lock
  pub now : Now
  pub stands : IsNow bits locks now
  pub ended : copies ≡ copies_by first settings (ended_so_far bits locks now)

-- The reader and the tag stand after these elements: those copies have ended, the reader stands
-- after the words of the lock that stands, and the tag is that of the copy that stands open.
pub record ReadsOver (first : Setting) (reader : LockReading) (kept : CopyTag) (bits : List Bool)
    (settings : List Setting) (copies : List TaggedCopy) : Type 0 where
  pub locks : List Lock
  pub now : Now
  pub stands : IsNow bits locks now
  pub many : length settings ≡ length bits
  pub ended : copies ≡ copies_by first settings (ended_so_far bits locks now)
  pub reads : ReadsNow reader bits now
  pub has_tag : HasTag first settings (standing_text bits now) kept

-- The hearer stands after these elements, with what is in force at each: these copies have ended.
pub record HearerStands (first : Setting) (hearer : CopyHearing) (bits : List Bool)
    (settings : List Setting) (copies : List TaggedCopy) : Type 0 where
  pub synchroniser : StandsAfter hearer.synchroniser bits
  pub reads : ReadsOver first hearer.reader hearer.tag bits settings copies

-- The last of these elements released a lock. The words of its text were read, but its end wasn't:
-- these copies ended before it, and the tag is that of the copy that stands open there.
pub record LockIsOver (first : Setting) (hearer : CopyHearing) (bits : List Bool)
    (settings : List Setting) (copies : List TaggedCopy) : Type 0 where
  pub synchroniser : StandsAfter hearer.synchroniser bits
  pub lock : Lock
  pub older : List Lock
  pub from : ℕ
  pub stands : IsNow bits (lock ∷ older) (hunting from)
  pub many : length settings ≡ length bits
  pub ended :
      copies ≡ copies_by first settings (past_copies bits older ++ ended_in (past_text bits lock))
  pub reads :
      ReadsLock hearer.reader (first_role bits lock.at) (word_of_lock bits lock.at) (lock.last + 1)
  pub has_tag : HasTag first settings (past_text bits lock) hearer.tag

-- a copy that the finder has, with its tag
abbrev pub ready_copy : Copy → CopyTag → TaggedCopy
ready_copy copy kept = record {
  identity = copy.header.identity;
  how = copy.how;
  text = copy.text;
  moment = kept.moment;
  selected = kept.is_selected;
}

-- a copy has ended, which can be taken, and the hearer stands after the elements with it
pub record CopyIsOver (first : Setting) (hearer : CopyHearing) (bits : List Bool)
    (settings : List Setting) (copies : List TaggedCopy) : Type 0 where
  pub copy : Copy
  pub ready : HasReady hearer.reader.finder copy
  pub stands : HearerStands first hearer bits settings (copies ++ ready_copy copy hearer.tag ∷ [])

-- a copy has ended, which can be taken, and the same element released the lock
pub record BothAreOver (first : Setting) (hearer : CopyHearing) (bits : List Bool)
    (settings : List Setting) (copies : List TaggedCopy) : Type 0 where
  pub copy : Copy
  pub ready : HasReady hearer.reader.finder copy
  pub lock : LockIsOver first hearer bits settings (copies ++ ready_copy copy hearer.tag ∷ [])

-- what is over with the last of these elements, before which these copies had ended
abbrev pub IsOver : Setting → CopyHearing → List Bool → List Setting → List TaggedCopy → Option Over
    → Type 0
IsOver first hearer bits settings copies None = HearerStands first hearer bits settings copies
IsOver first hearer bits settings copies (Some over.Copy) =
    CopyIsOver first hearer bits settings copies
IsOver first hearer bits settings copies (Some over.Lock) =
    LockIsOver first hearer bits settings copies
IsOver first hearer bits settings copies (Some over.CopyAndLock) =
    BothAreOver first hearer bits settings copies

-- what is in force at each of these elements, where it doesn't change
unfoldable pub all_in_force : CopyHearing → List Bool → List Setting
all_in_force hearer bits = map (λ bit. in_force hearer) bits

-- The hearer heard these elements after others, and this is what is over with the last of them;
-- with none before it any copy ended.
pub record HearsBits (first : Setting) (old new : CopyHearing) (bits : List Bool)
    (settings : List Setting) (copies : List TaggedCopy) (heard : List Bool)
    (answer : Option Over) : Type 0 where
  pub brings : IsOver first new (bits ++ heard) (settings ++ all_in_force old heard) copies answer
  pub none_before : (k : ℕ) → k + 1 ≤ length heard
      → HasEnded first (bits ++ take k heard) (settings ++ all_in_force old (take k heard)) copies

-- whatever a hearer heard before, it hears these after that, and this is over with the last
pub record HearsAll (old new : CopyHearing) (heard : List Bool) (answer : Option Over)
    : Type 0 where
  pub hears : (first : Setting) (bits : List Bool) (settings : List Setting)
      (copies : List TaggedCopy) → HearerStands first old bits settings copies
      → HearsBits first old new bits settings copies heard answer

-- the copy that can be taken, of what a finder holds, with its tag; none where none can
abbrev pub ready_in : HeldCopy → List ℕ → CopyTag → List TaggedCopy
ready_in held.Nothing text kept = []
ready_in (held.Open identity fresh) text kept = []
ready_in (held.Ready identity how) text kept =
    record {
      identity = identity;
      how = how;
      text = text;
      moment = kept.moment;
      selected = kept.is_selected;
    } ∷ []

-- the same of the finder of a hearer
abbrev pub ready_copies : CopyHearing → List TaggedCopy
ready_copies hearer = ready_in hearer.reader.finder.copy hearer.reader.finder.text hearer.tag

-- what is over with a word, by whether a copy is and whether the word brings a change
abbrev pub over_with : Bool → Bool → Option Over
over_with false false = None
over_with true false = Some over.Copy
over_with false true = Some over.Lock
over_with true true = Some over.CopyAndLock

-- what is over where the finder has a copy that can be taken or none, by whether the lock is over
abbrev pub over_now : CopyHearing → Bool → Option Over
over_now hearer is_lock_over = over_with (is_ready hearer.reader.finder) is_lock_over

-- the moment of the tag is as it was, or the one in force; all else that is in force stays
pub data TagGoesOn (old new : CopyHearing) : Type 0 where
  as_it_was : new.tag ≡ old.tag → TagGoesOn old new
  now_in_force : new.tag.moment ≡ old.moment → TagGoesOn old new
