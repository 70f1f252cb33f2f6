-- What prints the words of a lock, and after which of them it stands (ITU-R M.625, mode B, and
-- M.476 for what is printed). `first` is the role of word 0 of the lock, and `words` gives each
-- word's number.
use Rattle.std.specs.Prelude.{◌≡◌, ℕ, ◌+◌, List, ◌++◌}
use Rattle.nx_code.specs.Reading.{shift_after_all}
use Rattle.nx_code.specs.declared.shifts.Shift.TheVariants.{Letters}
use Rattle.nx_fec.specs.emissions.Pairing.{IsLatest}
use Rattle.nx_sync.specs.declared.step.Role.{Role}
use Rattle.nx_copies.specs.declared.lock_printer.LockPrinter.{LockPrinter}
use Rattle.nx_copies.specs.copies.LockText.{dx_words, positions, text_after}

-- The printer stands after the first n words of a lock: it has the latest three DX words among
-- them, and the shift that their positions leave.
pub record PrintsLock (printer : LockPrinter) (first : Role) (words : ℕ → ℕ) (n : ℕ) : Type 0 where
  pub latest : IsLatest printer.diversity (dx_words first words n)
  pub shift : printer.printer ≡ shift_after_all (positions first words n) Letters

-- after the first n words and `count` more the printer stands so, and these bytes are what the
-- `count` words print
pub record HasPrintedWords (printer : LockPrinter) (first : Role) (words : ℕ → ℕ) (n count : ℕ)
    (bytes : List ℕ) : Type 0 where
  pub stands : PrintsLock printer first words (n + count)
  pub grows : text_after first words (n + count) ≡ text_after first words n ++ bytes
