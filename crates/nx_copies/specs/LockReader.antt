-- A reader of the text of a lock, which is given its words, and after which words it stands (ITU-R
-- M.625, mode B, and M.476 for what is printed). That each lock has a text of its own, from
-- letters, is this profile's. `first` is the role of word 0 of the lock, and `words` gives each
-- word's number.
use Rattle.std.specs.Prelude.{◌≡◌, ℕ, ◌+◌, List, ◌++◌, length}
use Rattle.nx_code.specs.Reading.{shift_after_all}
use Rattle.nx_code.specs.declared.shifts.Shift.TheVariants.{Letters}
use Rattle.nx_fec.specs.emissions.Pairing.{IsLatest}
use Rattle.nx_sync.specs.declared.step.Role.{Role}
use Rattle.nx_code.specs.declared.printing.Printer.{Printer}
use Rattle.nx_fec.specs.declared.emissions.diversity.Diversity.{Diversity}
use Rattle.nx_envelope.specs.declared.finder.Finder.{Finder}
use Rattle.nx_envelope.specs.Finder.{BringNothing, StandsAfter}
use Rattle.nx_copies.specs.copies.LockText.{AreNext, dx_words, positions, text_after}

-- what contracts see of a reader: what arrived of the latest three DX words, the shift in force,
-- and the finder of the copies in the text
pub record LockReading : Type 0 where
  pub diversity : Diversity
  pub printer : Printer
  pub finder : Finder

-- The reader stands after the first n words of a lock: it has the latest three DX words among them,
-- the shift that their positions leave, and the copies of their text.
pub record ReadsLock (reader : LockReading) (first : Role) (words : ℕ → ℕ) (n : ℕ) : Type 0 where
  pub latest : IsLatest reader.diversity (dx_words first words n)
  pub shift : reader.printer ≡ shift_after_all (positions first words n) Letters
  pub finder : StandsAfter reader.finder (text_after first words n)

-- after the first n words and `count` more the reader stands so, and these bytes are what the
-- `count` words print
pub record HasReadWords (reader : LockReading) (first : Role) (words : ℕ → ℕ) (n count : ℕ)
    (bytes : List ℕ) : Type 0 where
  pub stands : ReadsLock reader first words (n + count)
  pub grows : text_after first words (n + count) ≡ text_after first words n ++ bytes

-- The reader read these words, the first of which is a DX word, after whichever words of a lock it
-- stood. They print these bytes, none of which begins or ends a copy.
pub record ReadsWords (old new : LockReading) (next bytes : List ℕ) : Type 0 where
  pub reads : (first : Role) (words : ℕ → ℕ) (n : ℕ) → ReadsLock old first words n
      → AreNext first words n next → HasReadWords new first words n (length next) bytes
  pub nothing : (first : Role) (words : ℕ → ℕ) (n : ℕ) → ReadsLock old first words n
      → AreNext first words n next → BringNothing (text_after first words n) bytes
