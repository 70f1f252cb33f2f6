-- The digits of elements at the front of bytes.
use Rattle.std.proofs.Common.{◌≡◌, ℕ, zero, suc, ◌+◌, ◌-◌, ◌*◌, ◌^◌, ◌<◌, ◌≤◌, ◌==◌, set, cond}
use Rattle.std.proofs.Common.{Bool, true, false, List, [], ◌∷◌, length, map, take, get_or, max}
use Rattle.std.proofs.Common.{◌||◌, ◌&&◌, refl, sym, ap, ◌∙◌, arith, bit_or, w64}
use Rattle.std.specs.Int.{bit_at, trailing_ones}
use Rattle.std.specs.Simd.Lanes.{mask_l}
use Rattle.std.proofs.lemmas.Bool.{cases_lt}
use Rattle.std.proofs.lemmas.List.{get_or-take, get_or_past, length-map, length-take-le, take-map}
use Rattle.std.proofs.lemmas.List.{take-take}
use Rattle.std.proofs.lemmas.Nat.Bits.{bit_at-trailing_ones, bit_at_ones, bit_at_or}
use Rattle.std.proofs.lemmas.Simd.{bit_mask_l}
use Rattle.std.proofs.Math.ListN.{get_or-map}
use Rattle.std.proofs.Math.Logic.{⊎_elim}
use Rattle.nx_code.specs.Packed.{elements_of_numbers}
use Rattle.nx_code.specs.Word.{elements_from}
use Rattle.nx_code.proofs.lemmas.Packed.{elements_from-take}
use Rattle.nx_fec.specs.private.Packing.{are_elements, is_element, is_one}
use Rattle.nx_fec.proofs.lemmas.packed.Packed.{elements-mask, numbers-set}

-- bytes of which each is a digit
elements-to : (bytes : List ℕ) (n : ℕ)
    → ((i : ℕ) → i < n → i < length bytes → is_element (get_or bytes i 0) ≡ true)
    → are_elements (take n bytes) ≡ true
elements-to [] zero h = refl
elements-to [] (suc n) h = refl
elements-to (b ∷ bytes) zero h = refl
elements-to (b ∷ bytes) (suc n) h =
    ap (λ x. x && are_elements (take n bytes)) (h 0 (omega arith) (omega arith))
    ∙ elements-to bytes n (λ i below within. h (suc i) (omega arith) (omega arith))

-- a bit of either mask
bit-tells : (a b : Bool) → max (cond a 1 0) (cond b 1 0) ≡ 1 → (b || a) ≡ true
bit-tells true true h = refl
bit-tells true false h = refl
bit-tells false true h = refl
bit-tells false false h = absurd (omega (arith, h))

pub digits-front : (bytes : List ℕ) (size ones noughts count : ℕ) → size ≤ length bytes
    → ones ≡ mask_l (map is_one (take size bytes))
    → noughts ≡ mask_l (map (λ digit. digit == 48) (take size bytes))
    → count ≤ size → ((i : ℕ) → i < count → bit_at (bit_or ones noughts) i ≡ 1)
    → are_elements (take count bytes) ≡ true
digits-front bytes size ones noughts count long o z within each =
    elements-to bytes count (λ i below inside.
    let same : get_or (take size bytes) i 0 ≡ get_or bytes i 0 =
    get_or-take size bytes i 0 (omega (arith, below, within)) in
    let one : bit_at ones i ≡ cond (is_one (get_or bytes i 0)) 1 0 =
    ap (λ m. bit_at m i) o ∙ bit_mask_l (map is_one (take size bytes)) i
    ∙ ap (λ b. cond b 1 0) (get_or-map is_one (take size bytes) i 0)
    ∙ ap (λ d. cond (is_one d) 1 0) same in
    let nought : bit_at noughts i ≡ cond (get_or bytes i 0 == 48) 1 0 =
    ap (λ m. bit_at m i) z ∙ bit_mask_l (map (λ digit. digit == 48) (take size bytes)) i
    ∙ ap (λ b. cond b 1 0) (get_or-map (λ digit. digit == 48) (take size bytes) i 0)
    ∙ ap (λ d. cond (d == 48) 1 0) same in
    bit-tells (is_one (get_or bytes i 0)) (get_or bytes i 0 == 48)
    (ap (λ a. max a (cond (get_or bytes i 0 == 48) 1 0)) (sym one)
    ∙ ap (λ b. max (bit_at ones i) b) (sym nought)
    ∙ sym (bit_at_or ones noughts i) ∙ each i below))

-- the first elements of the mask of the bytes that are 1
pub ones-front : (bytes : List ℕ) (size ones count : ℕ) → size ≤ length bytes → size ≤ 64
    → ones ≡ mask_l (map is_one (take size bytes)) → count ≤ size
    → take count (elements_from 64 ones) ≡ map is_one (take count bytes)
ones-front bytes size ones count long few o within =
    let bits = map is_one (take size bytes) in
    let wide : length bits ≡ size =
    length-map (take size bytes) is_one ∙ length-take-le size bytes long in
    let whole : elements_from size ones ≡ bits =
    ap (elements_from size) o ∙ ap (λ n. elements_from n (mask_l bits)) (sym wide)
    ∙ elements-mask bits in
    elements_from-take count 64 ones (omega (arith, within, few))
    ∙ sym (elements_from-take count size ones within)
    ∙ ap (take count) whole
    ∙ take-map is_one count (take size bytes)
    ∙ ap (map is_one) (take-take count size bytes within)

-- the first number is set
pub number-put : (numbers : List ℕ) (number count : ℕ) → 0 < length numbers → count ≤ 64
    → take count (elements_of_numbers (set numbers 0 number)) ≡ take count (elements_from 64 number)
number-put numbers number count some few =
    let here : 64 * 0 + count ≡ count = omega arith in
    ap (λ n. take n (elements_of_numbers (set numbers 0 number))) (sym here)
    ∙ numbers-set numbers 0 number count some few

-- a mask of fewer places has none set at a place behind them
mask-ends : (bits : List Bool) (i : ℕ) → length bits ≤ i → bit_at (mask_l bits) i ≡ 0
mask-ends bits i past =
    bit_mask_l bits i ∙ ap (λ b. cond b 1 0) (get_or_past bits i false past)

pub near-ends : (bytes : List ℕ) (ones noughts : ℕ) → 32 ≤ length bytes
    → ones ≡ mask_l (map is_one (take 32 bytes))
    → noughts ≡ mask_l (map (λ digit. digit == 48) (take 32 bytes))
    → bit_at (bit_or ones noughts) 32 ≡ 0
near-ends bytes ones noughts long o z =
    let front = take 32 bytes in
    let size = length-take-le 32 bytes long in
    bit_at_or ones noughts 32
    ∙ ap (λ a. max a (bit_at noughts 32)) (ap (λ m. bit_at m 32) o
    ∙ mask-ends (map is_one front) 32 (omega (arith, size, length-map front is_one)))
    ∙ ap (λ b. max 0 b) (ap (λ m. bit_at m 32) z
    ∙ mask-ends (map (λ digit. digit == 48) front) 32
    (omega (arith, size, length-map front (λ digit. digit == 48))))

-- so those that are set from the lowest on are at most 32
near-below : (marks : ℕ) → bit_at marks 32 ≡ 0 → marks < 2 ^ 64 → marks + 1 < 2 ^ 64
near-below marks none fits =
    ⊎_elim (λ below. omega (arith, below))
    (λ past. let all : marks ≡ 2 ^ 64 - 1 = omega (arith, past, fits) in
    absurd (omega (arith, none, ap (λ m. bit_at m 32) all, bit_at_ones 64 32 (omega arith))))
    (cases_lt marks (2 ^ 64 - 1))

pub near-marks : (marks : ℕ) → bit_at marks 32 ≡ 0 → marks < 2 ^ 64
    → (trailing_ones w64 marks ≤ 32)
    × ((i : ℕ) → i < trailing_ones w64 marks → bit_at marks i ≡ 1)
near-marks marks none fits =
    let h = bit_at-trailing_ones w64 marks (near-below marks none fits) in (
      ⊎_elim (λ past. absurd (omega (arith, none, h.2 32 past))) (λ few. omega (arith, few))
          (cases_lt 32 (trailing_ones w64 marks)),
      h.2,
    )

-- where all are set, each is
pub all-marks : (marks : ℕ) → marks ≡ 18446744073709551615 → (i : ℕ) → i < 64
    → bit_at marks i ≡ 1
all-marks marks all i below = ap (λ m. bit_at m i) all ∙ bit_at_ones 64 i below
