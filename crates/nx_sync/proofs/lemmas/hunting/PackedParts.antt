-- Parts of packed elements that are parts of others, or stand in one number.
use Rattle.std.proofs.Common.{◌≡◌, ℕ, ◌+◌, ◌-◌, ◌*◌, ◌/◌, ◌%◌, ◌^◌, ◌<◌, ◌≤◌, List, length, take}
use Rattle.std.proofs.Common.{◌++◌, drop, get_or, Bool, sym, ap, ◌∙◌, arith, length-drop, length-take}
use Rattle.std.proofs.Common.{drop-drop, take-take}
use Rattle.std.proofs.lemmas.List.{drop-take}
use lib.Seq.{take-add}
use Rattle.nx_code.specs.Word.{elements_from}
use Rattle.nx_code.specs.Packed.{elements_of_numbers, packed_part}
use Rattle.nx_code.proofs.lemmas.Packed.{length-numbers, part_here}

-- a part of a part
pub part_of_part : (ws : List ℕ) (from count at n : ℕ) → at + n ≤ count
    → take n (drop at (packed_part ws from count)) ≡ packed_part ws (from + at) n
part_of_part ws from count at n h =
    let e : at + (count - at) ≡ count = omega arith in
    let bits : List Bool = drop from (elements_of_numbers ws) in
    ap (λ k. take n (drop at (take k (drop from (elements_of_numbers ws))))) (sym e)
    ∙ (ap (take n) (drop-take at (count - at) (drop from (elements_of_numbers ws)))
    ∙ (take-take n (count - at) (drop at (drop from (elements_of_numbers ws))) (omega arith)
    ∙ ap (take n) (drop-drop at from (elements_of_numbers ws))))

pub first_part : (ws : List ℕ) (from count n : ℕ) → n ≤ count
    → take n (packed_part ws from count) ≡ packed_part ws from n
first_part ws from count n h = take-take n count (drop from (elements_of_numbers ws)) h

-- the elements of one number, from a place of it on
pub rest_of_number : (ws : List ℕ) (place count n : ℕ) → n ≤ count → place + count ≤ 64 * length ws
    → 0 < n → place % 64 + n ≤ 64
    → elements_from n (get_or ws (place / 64) 0 / 2 ^ (place % 64))
    ≡ take n (packed_part ws place count)
rest_of_number ws place count n fits room some here =
    let e : 64 * (place / 64) + place % 64 ≡ place = omega arith in
    sym (first_part ws place count n fits
    ∙ (ap (λ p. take n (drop p (elements_of_numbers ws))) (sym e)
    ∙ part_here ws (place / 64) (place % 64) n (omega arith) here))

-- and those of a whole one
pub whole_number : (ws : List ℕ) (first count at : ℕ) → first + count ≤ length ws → at < count
    → elements_from 64 (get_or ws (first + at) 0)
    ≡ take 64 (drop (64 * at) (packed_part ws (64 * first) (64 * count)))
whole_number ws first count at room h =
    let e : 64 * (first + at) + 0 ≡ 64 * first + 64 * at = omega arith in
    let d : get_or ws (first + at) 0 / 2 ^ 0 ≡ get_or ws (first + at) 0 = omega arith in
    sym (part_of_part ws (64 * first) (64 * count) (64 * at) 64 (omega arith)
    ∙ (ap (λ p. take 64 (drop p (elements_of_numbers ws))) (sym e)
    ∙ (part_here ws (first + at) 0 64 (omega arith) (omega arith) ∙ ap (elements_from 64) d)))

pub length-part : (ws : List ℕ) (from count : ℕ) → from + count ≤ 64 * length ws
    → length (packed_part ws from count) ≡ count
length-part ws from count h = simp (length-take, length-drop) (omega (arith, length-numbers ws))

-- the elements of a part, and those behind it
pub more_parts : (ws : List ℕ) (from n more : ℕ)
    → packed_part ws from (n + more) ≡ packed_part ws from n ++ packed_part ws (from + n) more
more_parts ws from n more =
    let bits : List Bool = drop from (elements_of_numbers ws) in
    take-add n more bits
    ∙ ap (λ l. take n bits ++ take more l) (drop-drop n from (elements_of_numbers ws))
