-- A set of letters, each by its byte, A to Z, that is kept as one flag for each letter.
use Rattle.std.specs.Prelude.{ℕ, ◌+◌, zero, suc, Bool, true, false, List, [], ◌∷◌}
use Rattle.std.specs.Ordering.{nat_cmp}
use Rattle.std.specs.FinSet as set
use Rattle.nx_code.specs.Reading.{capital_a, capitals}

-- the letters whose flags are set, where the first flag is that of `first` and the next that of the
-- letter after it
abbrev pub letters_from : ℕ → List Bool → set.FinSet nat_cmp
letters_from first [] = set.empty
letters_from first (true ∷ flags) = set.insert (letters_from (first + 1) flags) first
letters_from first (false ∷ flags) = letters_from (first + 1) flags

-- the same where the first flag is that of A
unfoldable pub letters_of : List Bool → set.FinSet nat_cmp
letters_of flags = letters_from capital_a flags

-- a flag for each of n letters, from the first on: whether it is in the set
abbrev pub flags_from : ℕ → ℕ → set.FinSet nat_cmp → List Bool
flags_from first zero letters = []
flags_from first (suc n) letters = set.contains letters first ∷ flags_from (first + 1) n letters

-- the same for A to Z
unfoldable pub flags_of : set.FinSet nat_cmp → List Bool
flags_of letters = flags_from capital_a capitals letters
