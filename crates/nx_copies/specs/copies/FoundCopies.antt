-- The copies of messages in the bits that a receiver has heard: those in the texts of its locks
-- (the form of a message is that of ITU-R M.540). No copy reaches from one lock into another, since
-- each lock has a text of its own (this profile). Then tagged: a copy bears the moment and the
-- selection that are in force at the place of its second digit.
use Rattle.std.specs.Prelude.{◌≡◌, ℕ, ◌+◌, ◌-◌, Bool, true, List, [], ◌∷◌, ◌++◌, map}
use Rattle.std.specs.Prelude.{slice_get, unwrap_or}
use Rattle.std.specs.Option.{option_map}
use Rattle.nx_envelope.specs.Header.{Header}
use Rattle.nx_envelope.specs.Copies.{Copy, ended_copies, open_headers, closed_copy, copies}
use Rattle.nx_envelope.specs.declared.found.Found.{Found}
use Rattle.nx_envelope.specs.declared.found.How.{How}
use Rattle.nx_envelope.specs.declared.identity.Identity.{Identity}
use Rattle.nx_memory.specs.Selection.{admits}
use Rattle.nx_sync.specs.Locks.{IsNow, Lock, Now, hunting, locked}
use Rattle.nx_sync.specs.Words.{whole_words}
use Rattle.nx_copies.specs.declared.entry.Entry.{Entry}
use Rattle.nx_copies.specs.declared.entry.EntryHead.{EntryHead}
use Rattle.nx_copies.specs.Events.{Event, Setting, elements_among, setting_at}
use Rattle.nx_copies.specs.copies.LockText.{PlacedByte, bytes_of, lock_text}

-- a copy that is found: its identity, how it ended, its text, and its place, which is that of its
-- second digit
pub record FoundCopy : Type 0 where
  pub identity : Identity
  pub how : How
  pub text : List ℕ
  pub place : ℕ

-- the place of the byte of this index
unfoldable pub place_in : List PlacedByte → ℕ → ℕ
place_in text i = unwrap_or (option_map (λ b. b.place) (slice_get text i)) 0

-- the place of a header: that of its second digit, the byte before the index behind it
abbrev pub place_of_header : List PlacedByte → Header → ℕ
place_of_header text header = place_in text (header.behind - 1)

-- a copy of the text of a lock, with its place: that of the second digit of its header, the byte
-- before the index behind it
unfoldable pub found_copy : List PlacedByte → Copy → FoundCopy
found_copy text copy = record {
  identity = copy.header.identity;
  how = copy.how;
  text = copy.text;
  place = place_in text (copy.header.behind - 1);
}

-- the copies that have ended in the text, in the order of their headers
abbrev pub ended_in : List PlacedByte → List FoundCopy
ended_in text = map (found_copy text) (ended_copies (bytes_of text))

-- the copy that stands open after the text, as it is if the text ends there; there is at most one
abbrev pub open_in : List PlacedByte → List FoundCopy
open_in text =
    map (λ header. found_copy text (closed_copy (bytes_of text) header))
    (open_headers (bytes_of text))

-- all copies of a text that is at its end, in the order of their headers
abbrev pub all_in : List PlacedByte → List FoundCopy
all_in text = map (found_copy text) (copies (bytes_of text))

-- the text of a lock that was released: all its words print, the releasing one too
abbrev pub past_text : List Bool → Lock → List PlacedByte
past_text bits lock = lock_text bits lock.at (lock.last + 1)

-- the copies of the locks that were released, which stand newest first; the text of each is at its
-- end
unfoldable pub past_copies : List Bool → List Lock → List FoundCopy
past_copies bits [] = []
past_copies bits (lock ∷ older) = past_copies bits older ++ all_in (past_text bits lock)

-- the text of the lock that stands, if one does: that of the words that were heard whole
abbrev pub standing_text : List Bool → Now → List PlacedByte
standing_text bits (hunting p) = []
standing_text bits (locked p t) = lock_text bits t (whole_words bits t)

-- the copies that have ended after these bits, where these locks are past and this stands
unfoldable pub ended_so_far : List Bool → List Lock → Now → List FoundCopy
ended_so_far bits locks now = past_copies bits locks ++ ended_in (standing_text bits now)

-- the copy that stands open after these bits, cut there; there is at most one
abbrev pub open_so_far : List Bool → Now → List FoundCopy
open_so_far bits now = open_in (standing_text bits now)

-- the copies where the bits end: the text of the lock that stands ends with them
unfoldable pub found_to_end : List Bool → List Lock → Now → List FoundCopy
found_to_end bits locks now = past_copies bits locks ++ all_in (standing_text bits now)

-- these are all copies that are found where these events are all: the end closes the one that
-- stands open
pub record AreFoundIn (events : List Event) (copies : List FoundCopy) : Type 0 where
  pub locks : List Lock
  pub now : Now
  pub stands : IsNow (elements_among events) locks now
  pub whole : copies ≡ found_to_end (elements_among events) locks now

-- a copy with its moment, and whether it is selected
pub record TaggedCopy : Type 0 where
  pub identity : Identity
  pub how : How
  pub text : List ℕ
  pub moment : ℕ
  pub selected : Bool

-- the copy with what is in force at its second digit: it is selected where its station and its
-- subject aren't refused
unfoldable pub tag : Setting → FoundCopy → TaggedCopy
tag setting copy = record {
  identity = copy.identity;
  how = copy.how;
  text = copy.text;
  moment = setting.moment;
  selected = admits setting.refused copy.identity;
}

-- copies with what is in force at the second digit of each, in the same order
unfoldable pub tagged_copies : Setting → List Event → List FoundCopy → List TaggedCopy
tagged_copies first events copies =
    map (λ copy. tag (setting_at first events copy.place) copy) copies

-- what the finder hands out, with a moment and whether it is selected
abbrev pub tagged_found : Found → ℕ → Bool → TaggedCopy
tagged_found found moment selected = record {
  identity = found.identity;
  how = found.how;
  text = found.text.items;
  moment = moment;
  selected = selected;
}

-- the copy that an entry prints, which was selected
abbrev pub copy_of : Entry → TaggedCopy
copy_of entry = record {
  identity = entry.identity;
  how = entry.how;
  text = entry.text.items;
  moment = entry.moment;
  selected = true;
}

-- the copy of a head and a text, selected or not
abbrev pub headed_copy : EntryHead → List ℕ → Bool → TaggedCopy
headed_copy head text selected = record {
  identity = head.identity;
  how = head.how;
  text = text;
  moment = head.moment;
  selected = selected;
}
