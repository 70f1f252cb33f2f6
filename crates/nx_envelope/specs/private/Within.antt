-- The end of a raw text within any number of characters, for lemmas; the rule is `ending_of`,
-- within 4,100.
use Rattle.std.specs.Prelude.{ℕ, nat_le, if◌then◌else◌, Option, Some, None, List, [], ◌∷◌, length, take}
use Rattle.std.specs.Option.{option_or}
use Rattle.nx_envelope.specs.Copies.{Ending, beginnings, ending_by_marker}
use Rattle.nx_envelope.specs.declared.found.How.TheVariants.{Long}

-- what the first item gives that gives something
abbrev pub first_value : {A B : Type 0} → (A → Option B) → List A → Option B
first_value f [] = None
first_value f (x ∷ xs) = option_or (f x) (first_value f xs)

-- where so many characters stand, they are the text of a long copy
unfoldable pub long_within : ℕ → List ℕ → Option Ending
long_within most raw =
    if nat_le most (length raw) then Some (record { how = Long; text = take most raw }) else None

-- the end at the least of the beginnings, within so many characters, that ends with a marker; where
-- there is none, but so many characters stand there, it is long
unfoldable pub ending_within : ℕ → List ℕ → Option Ending
ending_within most raw =
    option_or (first_value ending_by_marker (beginnings (take most raw))) (long_within most raw)
