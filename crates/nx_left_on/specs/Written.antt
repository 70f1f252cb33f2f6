-- A kept log that is written of the entries of another (this profile).
use Rattle.std.specs.Prelude.{◌≡◌, ℕ, List, [], ◌∷◌}
use Rattle.nx_copies.specs.copies.Shares.{MarkedCopy}
use Rattle.nx_left_on.specs.ReadBack.{IsAsPut}

-- The file is a kept log of these entries as it is written: as `put` leaves it, or empty where
-- there are none.
abbrev pub IsWrittenOf : List MarkedCopy → List ℕ → Type 0
IsWrittenOf [] file = file ≡ []
IsWrittenOf (one ∷ entries) file = IsAsPut (one ∷ entries) file
