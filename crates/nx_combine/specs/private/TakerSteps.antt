-- What a taker of copies and of their positions does with a word of a lock, and with a step.
use Rattle.std.specs.Prelude.{◌≡◌, ℕ, ◌+◌, Bool, true, false, not, ◌&&◌, if◌then◌else◌, is_some}
use Rattle.std.specs.Prelude.{[], ◌++◌, length, take, Option, Some, None}
use Rattle.std.specs.Option.{option_map, option_to_list}
use Rattle.nx_code.specs.Classes.{reception_of_class}
use Rattle.nx_envelope.specs.Finder.{is_over}
use Rattle.nx_envelope.specs.declared.found.TextEvent.{TextEvent}
use Rattle.nx_envelope.specs.declared.found.TextEvent.TheVariants as events
use Rattle.nx_sync.specs.Words.{role_of}
use Rattle.nx_sync.specs.declared.step.Change.{Change}
use Rattle.nx_sync.specs.declared.step.Change.TheVariants.{LostLock}
use Rattle.nx_sync.specs.declared.step.Role.{Role}
use Rattle.nx_sync.specs.declared.step.Role.TheVariants.{Dx, Rx}
use Rattle.nx_sync.specs.declared.step.Step.{Step}
use Rattle.nx_copies.specs.LockReader.{ReadsLock}
use Rattle.nx_copies.specs.ReaderWords.{HearsNext}
use Rattle.nx_copies.specs.declared.copy_taker.Over.{Over}
use Rattle.nx_copies.specs.declared.lock_printer.ReadPosition.{ReadPosition}
use Rattle.nx_copies.specs.hearing.CopyHearer.{over_with}
use Rattle.nx_copies.specs.hearing.CopyTaker.{setting_of, tag_after}
use Rattle.nx_combine.specs.CombinedTaker.{positions_after}
use Rattle.nx_combine.specs.CopyPositions.{LockPositions}
use Rattle.nx_combine.specs.Notes.{IsNoted, Noting}
use Rattle.nx_combine.specs.declared.taker.CombinedTaker.{CombinedTaker}

-- the positions with the one that was read, if one was
abbrev pub with_read : LockPositions → Option ReadPosition → LockPositions
with_read lock read = record {
  taken = lock.taken
      ++ option_to_list (option_map (λ position. reception_of_class position.class) read);
  alike = lock.alike ++ option_to_list (option_map (λ position. position.is_alike) read);
}

-- a copy begins with this event
abbrev pub begins : TextEvent → Bool
begins events.Nothing = false
begins (events.Header identity) = true
begins events.CopyOver = false

-- where the notes begin after an event behind so many positions
abbrev pub from_after : TextEvent → ℕ → ℕ → ℕ
from_after event count from = if begins event then count else from

-- the lock is lost
abbrev pub is_lost : Option Change → Bool
is_lost (Some LostLock) = true
is_lost change = false

-- what is left of the notes where a word brings this change: what is not sure is left out where the
-- lock is lost, and no copy ended with the word
abbrev pub left_by : Option Change → TextEvent → Noting → Noting
left_by change event notes =
    if is_lost change && not (is_over event)
    then record notes { positions = take notes.sure notes.positions }
    else notes

-- a word was read, and the position that it completes was noted
pub record NotesWord (old new : CombinedTaker) (word : ℕ) (role : Role) (event : TextEvent) : Type 0
  where
    pub reads : HearsNext old.copies.reader new.copies.reader word role event
    pub notes : (first : Role) (words : ℕ → ℕ) (n from : ℕ)
        → ReadsLock old.copies.reader first words n → words n ≡ word → role ≡ role_of first n
        → IsNoted old.notes (positions_after first words n) from
        → IsNoted new.notes (positions_after first words (n + 1))
        (from_after event (length (positions_after first words (n + 1)).taken) from)

-- a word was taken: it was read, and this is over with it
pub record TakesWord (old new : CombinedTaker) (word : ℕ) (role : Role) (change : Option Change)
    (answer : Option Over) : Type 0 where
  pub event : TextEvent
  pub mid : CombinedTaker
  pub read : NotesWord old mid word role event
  pub copies : new.copies ≡ record old.copies {
    reader = mid.copies.reader;
    tag = tag_after (setting_of old.copies) old.copies.tag event;
  }
  pub left : new.notes ≡ left_by change event mid.notes
  pub is : answer ≡ over_with (is_over event) (is_some change)

-- a step without a word was taken: the notes begin anew where it finds a lock
pub record TakesNone (old new : CombinedTaker) (change : Option Change) (answer : Option Over)
    : Type 0 where
  pub copies : new.copies ≡ old.copies
  pub is : answer ≡ None
  pub kept : is_some change ≡ false → new.notes ≡ old.notes
  pub anew : is_some change ≡ true → IsNoted new.notes (record { taken = []; alike = [] }) 0

-- a step was taken
pub record TakesStep (old new : CombinedTaker) (step : Step) (answer : Option Over) : Type 0 where
  pub none : step.word ≡ None → TakesNone old new step.change answer
  pub some : (word : ℕ) (role : Role) → step.word ≡ Some (word, role)
      → TakesWord old new word role step.change answer

-- two words were taken, a DX word and an RX word, and this is over with the second
pub record TakesPair (old new : CombinedTaker) (dx rx : ℕ) (answer : Option Over) : Type 0 where
  pub event : TextEvent
  pub mid : CombinedTaker
  pub first : NotesWord old mid dx Dx event
  pub kept : mid.copies ≡ record old.copies { reader = mid.copies.reader }
  pub second : TakesWord mid new rx Rx None answer
