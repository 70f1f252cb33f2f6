-- Notes of the positions of the copy that stands open, and after which positions of a lock they
-- stand (this profile).
use Rattle.std.specs.Prelude.{◌≡◌, ℕ, ◌+◌, ◌-◌, ◌≤◌, min, Bool, false}
use Rattle.std.specs.Prelude.{List, length, take, drop, slice_get, unwrap_or}
use Rattle.nx_code.specs.Reading.{Reception}
use Rattle.nx_combine.specs.CopyPositions.{LockPositions, sure_count}
use Rattle.nx_combine.specs.Families.{most_positions}

-- what contracts see of the notes: the positions that were noted, how many of these stand up to the
-- last two in a row whose words count alike, and whether the words of the last one do
pub record Noting : Type 0 where
  pub positions : List Reception
  pub sure : ℕ
  pub was_alike : Bool

-- how many positions are noted at most: one more than a copy has that has a family
abbrev pub most_noted : ℕ
most_noted = most_positions + 1

-- what is noted of so many positions: those beyond the most are left out
abbrev pub noted : List Reception → List Reception
noted positions = take most_noted positions

-- whether the last of the positions has two words that count alike
abbrev pub last_alike : List Bool → Bool
last_alike marks = unwrap_or (slice_get marks (length marks - 1)) false

-- The notes stand after these positions of a lock, and began behind so many of them.
pub record IsNoted (notes : Noting) (lock : LockPositions) (from : ℕ) : Type 0 where
  pub within : from ≤ length lock.taken
  pub as_many : length lock.alike ≡ length lock.taken
  pub positions : notes.positions ≡ noted (drop from lock.taken)
  pub sure : notes.sure ≡ min most_noted (sure_count lock.alike - from)
  pub last : notes.was_alike ≡ last_alike lock.alike
