-- What only private contracts and proofs cite, beside hearing.CopyTaker (this profile).
use Rattle.std.specs.Prelude.{◌≡◌, ℕ, ◌+◌, Bool, is_some}
use Rattle.std.specs.Prelude.{Option, Some, None}
use Rattle.nx_sync.specs.Words.{role_of}
use Rattle.nx_sync.specs.declared.step.Step.{Step}
use Rattle.nx_sync.specs.declared.step.Role.{Role}
use Rattle.nx_envelope.specs.Finder.{is_over}
use Rattle.nx_envelope.specs.declared.found.TextEvent.{TextEvent}
use Rattle.nx_copies.specs.declared.copy_taker.Over.{Over}
use Rattle.nx_copies.specs.declared.copy_taker.CopyTaker.{CopyTaker}
use Rattle.nx_copies.specs.LockReader.{ReadsLock}
use Rattle.nx_copies.specs.ReaderWords.{IsBrought}
use Rattle.nx_copies.specs.copies.LockText.{text_after}
use Rattle.nx_copies.specs.hearing.CopyHearer.{over_with}
use Rattle.nx_copies.specs.hearing.CopyTaker.{setting_of, tag_after}

-- a word was read, whichever lock it is of: what it brings to the text, what is over, and the tag
pub record ReadsWord (old new : CopyTaker) (word : ℕ) (role : Role) (is_changed : Bool)
    (answer : Option Over) : Type 0 where
  pub event : TextEvent
  pub stands : (first : Role) (words : ℕ → ℕ) (n : ℕ) → ReadsLock old.reader first words n
      → words n ≡ word → role ≡ role_of first n → ReadsLock new.reader first words (n + 1)
  pub hears : (first : Role) (words : ℕ → ℕ) (n : ℕ) → ReadsLock old.reader first words n
      → words n ≡ word → role ≡ role_of first n
      → IsBrought (text_after first words n) (text_after first words (n + 1))
      new.reader.finder event
  pub kept : new.tag ≡ tag_after (setting_of old) old.tag event
  pub force : setting_of new ≡ setting_of old
  pub is : answer ≡ over_with (is_over event) is_changed

-- what a step brings is read: nothing where it completes no word
pub record ReadsStep (old new : CopyTaker) (step : Step) (answer : Option Over) : Type 0 where
  pub none : step.word ≡ None → (new ≡ old) × (answer ≡ None)
  pub some : (word : ℕ) (role : Role) → step.word ≡ Some (word, role)
      → ReadsWord old new word role (is_some step.change) answer
