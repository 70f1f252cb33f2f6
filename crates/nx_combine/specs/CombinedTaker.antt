-- What a taker of copies and of their positions does with what the elements bring that a
-- synchroniser hears (this profile). `first` is the role of word 0 of a lock, and `words` gives
-- each word's number.
use Rattle.std.specs.Prelude.{◌≡◌, ℕ, ◌+◌, Bool, List, [], ◌∷◌, ◌++◌, take, drop}
use Rattle.std.specs.Prelude.{Option, Some, None}
use Rattle.nx_code.specs.Reading.{Reception}
use Rattle.nx_envelope.specs.Copies.{Copy, open_headers}
use Rattle.nx_envelope.specs.Finder.{Ends}
use Rattle.nx_envelope.specs.Header.{Header}
use Rattle.nx_sync.specs.Locks.{IsNow, Lock, Now, hunting, locked}
use Rattle.nx_sync.specs.Synchroniser.{Held, StandsAfter}
use Rattle.nx_sync.specs.Words.{first_role, whole_words, word_of_lock}
use Rattle.nx_sync.specs.declared.step.Change.{Change}
use Rattle.nx_sync.specs.declared.step.Change.TheVariants.{LostLock}
use Rattle.nx_sync.specs.declared.step.Role.{Role}
use Rattle.nx_copies.specs.LockReader.{ReadsLock}
use Rattle.nx_copies.specs.copies.AlikeWords.{alike}
use Rattle.nx_copies.specs.copies.LockText.{positions, text_after}
use Rattle.nx_copies.specs.declared.copy_taker.Over.{Over}
use Rattle.nx_copies.specs.declared.copy_taker.Over.TheVariants as over
use Rattle.nx_copies.specs.hearing.CopyHearer.{IsFresh}
use Rattle.nx_copies.specs.hearing.CopyTaker.{Hears as HearsCopies}
use Rattle.nx_combine.specs.CopyPositions.{LockPositions, behind_header, lock_positions}
use Rattle.nx_combine.specs.CopyPositions.{positions_for, sure_count}
use Rattle.nx_combine.specs.Notes.{IsNoted, Noting, noted}
use Rattle.nx_combine.specs.declared.taker.CombinedTaker.{CombinedTaker}

-- the positions that the first n words of a lock complete
abbrev pub positions_after : Role → (ℕ → ℕ) → ℕ → LockPositions
positions_after first words n =
    record { taken = positions first words n; alike = alike first words n }

-- The notes stand after the first n words of a lock. They began behind the header of the copy that
-- stands open, if one does.
pub record NotesLock (notes : Noting) (first : Role) (words : ℕ → ℕ) (n : ℕ) : Type 0 where
  pub from : ℕ
  pub noted : IsNoted notes (positions_after first words n) from
  pub behind : (header : Header) → open_headers (text_after first words n) ≡ header ∷ []
      → from ≡ positions_for (positions first words n) header.behind

-- the reader and the notes stand after the first n words of a lock
pub record TakesLock (taker : CombinedTaker) (first : Role) (words : ℕ → ℕ) (n : ℕ) : Type 0 where
  pub reads : ReadsLock taker.copies.reader first words n
  pub notes : NotesLock taker.notes first words n

-- The same after the words that were heard whole of the lock that stands. Where none stands, the
-- reader stands after no word, and the notes are what is left of an earlier lock.
abbrev pub TakesNow : CombinedTaker → List Bool → Now → Type 0
TakesNow taker bits (hunting p) = IsFresh taker.copies.reader
TakesNow taker bits (locked p t) =
    TakesLock taker (first_role bits t) (word_of_lock bits t) (whole_words bits t)

-- after these elements
pub record TakesAt (taker : CombinedTaker) (bits : List Bool) : Type 0 where
  pub locks : List Lock
  pub now : Now
  pub stands : IsNow bits locks now
  pub takes : TakesNow taker bits now

-- the synchroniser and the taker stand after these elements
pub record TakerStands (held : Held) (taker : CombinedTaker) (bits : List Bool) : Type 0 where
  pub synchroniser : StandsAfter held bits
  pub at : TakesAt taker bits

-- a copy ended with word n of a lock, and its positions were noted: those behind its header
pub record CopyNoted (notes : Noting) (first : Role) (words : ℕ → ℕ) (n : ℕ) : Type 0 where
  pub copy : Copy
  pub byte : ℕ
  pub grows : text_after first words (n + 1) ≡ text_after first words n ++ byte ∷ []
  pub ends : Ends (text_after first words n) byte copy
  pub noted :
      notes.positions ≡ noted (behind_header (positions first words (n + 1)) copy.header)

-- The last of these elements completed a word of a lock with which a copy ended.
pub record CopyTaken (held : Held) (taker : CombinedTaker) (bits : List Bool) : Type 0 where
  pub synchroniser : StandsAfter held bits
  pub locks : List Lock
  pub from : ℕ
  pub at : ℕ
  pub word : ℕ
  pub stands : IsNow bits locks (locked from at)
  pub whole : whole_words bits at ≡ word + 1
  pub takes : TakesLock taker (first_role bits at) (word_of_lock bits at) (word + 1)
  pub copy : CopyNoted taker.notes (first_role bits at) (word_of_lock bits at) word

-- The positions of a copy that stands open where its lock was released so: those behind its header;
-- in a lock that was lost, up to the last two in a row whose words count alike.
abbrev pub open_positions : Change → LockPositions → Header → List Reception
open_positions LostLock lock header =
    drop (positions_for lock.taken header.behind) (take (sure_count lock.alike) lock.taken)
open_positions how lock header = behind_header lock.taken header

-- The last of these elements released a lock. The words of its text were taken, but its end wasn't.
pub record LockTaken (held : Held) (taker : CombinedTaker) (bits : List Bool) : Type 0 where
  pub synchroniser : StandsAfter held bits
  pub lock : Lock
  pub older : List Lock
  pub from : ℕ
  pub stands : IsNow bits (lock ∷ older) (hunting from)
  pub reads : ReadsLock taker.copies.reader (first_role bits lock.at) (word_of_lock bits lock.at)
      (lock.last + 1)
  pub noted : (header : Header)
      → open_headers (text_after (first_role bits lock.at) (word_of_lock bits lock.at)
      (lock.last + 1)) ≡ header ∷ []
      → taker.notes.positions
      ≡ noted (open_positions lock.how (lock_positions bits lock.at (lock.last + 1)) header)

-- The last of these elements released a lock, and completed the word with which a copy ended.
pub record BothTaken (held : Held) (taker : CombinedTaker) (bits : List Bool) : Type 0 where
  pub lock : LockTaken held taker bits
  pub copy : CopyNoted taker.notes (first_role bits lock.lock.at) (word_of_lock bits lock.lock.at)
      lock.lock.last

-- what is over with the last of these elements
abbrev pub TakerOver : Held → CombinedTaker → List Bool → Option Over → Type 0
TakerOver held taker bits None = TakerStands held taker bits
TakerOver held taker bits (Some over.Copy) = CopyTaken held taker bits
TakerOver held taker bits (Some over.Lock) = LockTaken held taker bits
TakerOver held taker bits (Some over.CopyAndLock) = BothTaken held taker bits

-- A synchroniser that held the first and a taker heard these elements, and this is over with the
-- last of them, if anything is. Its taker of copies heard them, and whatever elements both stood
-- after, the notes are those of the copy that stands open, or that is over.
pub record Hears (old : Held) (before : CombinedTaker) (heard : List Bool) (new : Held)
    (after : CombinedTaker) (answer : Option Over) : Type 0 where
  pub copies : HearsCopies old before.copies heard new after.copies answer
  pub takes : (bits : List Bool) → TakerStands old before bits
      → TakerOver new after (bits ++ heard) answer
