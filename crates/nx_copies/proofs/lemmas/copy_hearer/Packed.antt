-- The elements of a line that are packed: those behind a place.
use Rattle.std.proofs.Common.{◌≡◌, ℕ, ◌+◌, ◌-◌, ◌≤◌, Bool, List, length, take}
use Rattle.std.proofs.Common.{drop, sym, ap, ◌∙◌, arith, length-drop}
use Rattle.std.proofs.lemmas.List.{drop-take, take_all}
use Rattle.nx_code.specs.Packed.{elements_of_numbers, packed_part}

-- the elements behind a place among the first so many
rest_of : (all : List Bool) (many place : ℕ) → place ≤ many
    → drop place (take many all) ≡ take (many - place) (drop place all)
rest_of all many place h =
    let e : many ≡ place + (many - place) = omega arith in
    ap (λ n. drop place (take n all)) e ∙ drop-take place (many - place) all

-- all packed elements behind a place are those of the elements
pub all_is : (bits : List Bool) (numbers : List ℕ) (place : ℕ)
    → bits ≡ take (length bits) (elements_of_numbers numbers) → place ≤ length bits
    → packed_part numbers place (length bits - place) ≡ drop place bits
all_is bits numbers place is room =
    sym (ap (drop place) is ∙ rest_of (elements_of_numbers numbers) (length bits) place room)

-- the piece of the elements from the place on
pub rest_is : (bits : List Bool) (at : ℕ) → take (length bits - at) (drop at bits) ≡ drop at bits
rest_is bits at = let long = length-drop at bits in
    take_all (length bits - at) (drop at bits) (omega arith)
