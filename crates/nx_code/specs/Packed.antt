-- Elements packed into numbers of 64 bits: element i of the list is bit i % 64 of number
-- i / 64.
use Rattle.std.specs.Prelude.{ℕ, Bool, List, [], ◌∷◌, ◌++◌, take, drop}
use Rattle.nx_code.specs.Word.{elements_from}

-- how many elements a packed number has
abbrev pub packed_elements : ℕ
packed_elements = 64

-- The elements of packed numbers, in the order of sending: 64 of each number, the least place
-- first, 1 is B.
unfoldable pub elements_of_numbers : List ℕ → List Bool
elements_of_numbers [] = []
elements_of_numbers (number ∷ numbers) =
    elements_from packed_elements number ++ elements_of_numbers numbers

-- the elements of packed numbers from a place on, so many of them
abbrev pub packed_part : List ℕ → ℕ → ℕ → List Bool
packed_part numbers from count = take count (drop from (elements_of_numbers numbers))
