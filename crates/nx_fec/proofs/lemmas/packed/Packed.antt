-- Elements that are packed into numbers of 64 bits, and the digits that they are read from.
use Rattle.std.proofs.Common.{◌≡◌, ℕ, zero, suc, ◌+◌, ◌*◌, ◌/◌, ◌%◌, ◌<◌, ◌≤◌, ◌==◌, cond, Bool}
use Rattle.std.proofs.Common.{true, false, List, [], ◌∷◌, ◌++◌, length, map, take, drop, set}
use Rattle.std.proofs.Common.{replicate, ◌&&◌, ◌||◌, ◌^◌, ◌-◌, ◌≢◌, IsTrue, refl, sym, ap, ◌∙◌}
use Rattle.std.proofs.Common.{subst, arith, append_assoc, length-append, take-append-drop}
use mir.Val.{bool_byte}
use Rattle.std.specs.Simd.Lanes.{mask_l}
use Rattle.std.specs.Cmp.{both_ways}
use Rattle.std.proofs.lemmas.Bool.{eq-eqb, eqb-true}
use Rattle.std.proofs.lemmas.List.{length-drop, length-map, length-take-le, map-append, set_split}
use Rattle.std.proofs.lemmas.List.{take-append-le, take_all, take_rest}
use Rattle.std.proofs.lemmas.List.Folds.{list_all-append}
use Rattle.std.proofs.lemmas.Simd.{mask_l-lt}
use Rattle.std.proofs.Math.Nat.{pow-le-pow_right, pow-suc}
use Rattle.std.proofs.Math.Seq.{take-add, take-append-add, take-append_seam}
use Rattle.nx_code.specs.Packed.{elements_of_numbers}
use Rattle.nx_code.specs.Word.{elements_from}
use Rattle.nx_code.proofs.lemmas.Packed.{elements_from-take, length-elements_from, length-numbers}
use Rattle.nx_fec.specs.air_files.AirFile.{element_digit}
use Rattle.nx_fec.specs.private.Packing.{are_elements, is_element, is_one}

-- the elements of a mask are its list
pub elements-mask : (bits : List Bool) → elements_from (length bits) (mask_l bits) ≡ bits
unfolding elements_from
elements-mask [] = refl
elements-mask (true ∷ bits) =
    let low : (1 + 2 * mask_l bits) % 2 ≡ 1 = omega arith in
    let half : (1 + 2 * mask_l bits) / 2 ≡ mask_l bits = omega arith in
    ap (λ n. (n == 1) ∷ elements_from (length bits) ((1 + 2 * mask_l bits) / 2)) low
    ∙ ap (λ n. true ∷ elements_from (length bits) n) half ∙ ap (λ l. true ∷ l) (elements-mask bits)
elements-mask (false ∷ bits) =
    let low : (0 + 2 * mask_l bits) % 2 ≡ 0 = omega arith in
    let half : (0 + 2 * mask_l bits) / 2 ≡ mask_l bits = omega arith in
    ap (λ n. (n == 1) ∷ elements_from (length bits) ((0 + 2 * mask_l bits) / 2)) low
    ∙ ap (λ n. false ∷ elements_from (length bits) n) half
    ∙ ap (λ l. false ∷ l) (elements-mask bits)

-- the elements of numbers, one list of numbers after the other
numbers-append : (a b : List ℕ)
    → elements_of_numbers (a ++ b) ≡ elements_of_numbers a ++ elements_of_numbers b
unfolding elements_of_numbers
numbers-append [] b = refl
numbers-append (w ∷ a) b = ap (λ l. elements_from 64 w ++ l) (numbers-append a b)
    ∙ sym (append_assoc (elements_from 64 w) (elements_of_numbers a) (elements_of_numbers b))

-- one number first
numbers-first : (w : ℕ) (numbers : List ℕ) (n : ℕ) → n ≤ 64
    → take n (elements_of_numbers (w ∷ numbers)) ≡ take n (elements_from 64 w)
unfolding elements_of_numbers
numbers-first w numbers n few =
    take-append-le n (elements_from 64 w) (elements_of_numbers numbers)
    (omega (arith, few, length-elements_from 64 w))

-- a number that is set leaves the elements before it, and its own come then
pub numbers-set : (numbers : List ℕ) (at w n : ℕ) → at < length numbers → n ≤ 64
    → take (64 * at + n) (elements_of_numbers (set numbers at w))
    ≡ take (64 * at) (elements_of_numbers numbers) ++ take n (elements_from 64 w)
numbers-set numbers at w n below few =
    let front = take at numbers in
    let size : length (elements_of_numbers front) ≡ 64 * at =
    omega (arith, length-numbers front, length-take-le at numbers (omega (arith, below))) in
    let split = ap elements_of_numbers (set_split numbers at w below)
    ∙ numbers-append front (w ∷ drop (suc at) numbers) in
    let same : elements_of_numbers numbers
    ≡ elements_of_numbers front ++ elements_of_numbers (drop at numbers) =
    ap elements_of_numbers (sym (take-append-drop at numbers))
    ∙ numbers-append front (drop at numbers) in
    let before : take (64 * at) (elements_of_numbers numbers) ≡ elements_of_numbers front =
    ap (take (64 * at)) same ∙ ap
    (λ k. take k (elements_of_numbers front ++ elements_of_numbers (drop at numbers))) (sym size)
    ∙ take-append_seam (elements_of_numbers front) (elements_of_numbers (drop at numbers)) in
    ap (take (64 * at + n)) split
    ∙ ap (λ k. take (k + n) (elements_of_numbers front
    ++ elements_of_numbers (w ∷ drop (suc at) numbers))) (sym size)
    ∙ take-append-add (elements_of_numbers front)
    (elements_of_numbers (w ∷ drop (suc at) numbers)) n
    ∙ ap (λ l. elements_of_numbers front ++ l) (numbers-first w (drop (suc at) numbers) n few)
    ∙ ap (λ l. l ++ take n (elements_from 64 w)) (sym before)

-- ---- the masks of the digits 0 and 1

-- so far two masks have no place in common, and all places exactly where each test is met
abbrev Fill : Bool → ℕ → ℕ → ℕ → Type 0
Fill right noughts marks places =
    (noughts + marks + 1 ≤ places) × (right ≡ true → noughts + marks + 1 ≡ places)
    × (noughts + marks + 1 ≡ places → right ≡ true)

Fill-step : (zero_here one_here right : Bool) (noughts marks places : ℕ)
    → (zero_here ≡ true → one_here ≡ true → ⊥) → Fill right noughts marks places
    → Fill ((zero_here || one_here) && right) (cond zero_here 1 0 + 2 * noughts)
    (cond one_here 1 0 + 2 * marks) (2 * places)
Fill-step true true right noughts marks places apart h = absurd (apart refl refl)
Fill-step true false right noughts marks places apart h =
    (omega (arith, h.0), λ e. omega (arith, h.1 e), λ e. h.2 (omega (arith, e)))
Fill-step false true right noughts marks places apart h =
    (omega (arith, h.0), λ e. omega (arith, h.1 e), λ e. h.2 (omega (arith, e)))
Fill-step false false right noughts marks places apart h =
    (omega (arith, h.0), λ e. cc, λ e. absurd (omega (arith, e, h.0)))

digits-Fill : (digits : List ℕ)
    → Fill (are_elements digits) (mask_l (map (λ digit. digit == 48) digits))
    (mask_l (map is_one digits)) (2 ^ length digits)
digits-Fill [] = (omega arith, λ e. refl, λ e. refl)
digits-Fill (d ∷ digits) =
    let both : d == 48 ≡ true → d == 49 ≡ true → ⊥ =
    λ x y. absurd (omega (arith, eqb-true d 48 x, eqb-true d 49 y)) in
    let twice : 2 ^ length (d ∷ digits) ≡ 2 * 2 ^ length digits =
    omega (arith, pow-suc 2 (length digits)) in
    subst (Fill (are_elements (d ∷ digits)) (mask_l (map (λ digit. digit == 48) (d ∷ digits)))
    (mask_l (map is_one (d ∷ digits)))) (sym twice)
    (Fill-step (d == 48) (d == 49) (are_elements digits) _ _ (2 ^ length digits) both
    (digits-Fill digits))

pub masks-full : (digits : List ℕ) (noughts marks : ℕ) → length digits ≡ 64
    → noughts ≡ mask_l (map (λ digit. digit == 48) digits) → marks ≡ mask_l (map is_one digits)
    → (noughts == 18446744073709551615 - marks) ≡ are_elements digits
masks-full digits noughts marks size z o =
    let h = digits-Fill digits in
    let places : 2 ^ length digits ≡ 18446744073709551616 = ap (λ n. 2 ^ n) size in
    both_ways (noughts == 18446744073709551615 - marks) (are_elements digits)
    (λ e. h.2 (omega (arith, eqb-true noughts (18446744073709551615 - marks) e, z, o, places, h.0)))
    (λ e. eq-eqb noughts (18446744073709551615 - marks) (omega (arith, h.1 e, z, o, places)))

pub elements-ones : (digits : List ℕ) (ones : ℕ) → length digits ≡ 64
    → ones ≡ mask_l (map is_one digits) → elements_from 64 ones ≡ map is_one digits
elements-ones digits ones size o =
    let long : length (map is_one digits) ≡ 64 = length-map digits is_one ∙ size in
    ap (elements_from 64) o ∙ ap (λ n. elements_from n (mask_l (map is_one digits))) (sym long)
    ∙ elements-mask (map is_one digits)

-- ---- the numbers of more digits

pub packed-more : (digits numbers : List ℕ) (place w n : ℕ) → place < length numbers → n ≤ 64
    → take (64 * place) (elements_of_numbers numbers) ≡ map is_one (take (64 * place) digits)
    → take n (elements_from 64 w)
    ≡ map is_one (take n (take (length digits - 64 * place) (drop (64 * place) digits)))
    → take (64 * place + n) (elements_of_numbers (set numbers place w))
    ≡ map is_one (take (64 * place + n) digits)
packed-more digits numbers place w n below few before here =
    numbers-set numbers place w n below few
    ∙ ap (λ l. l ++ take n (elements_from 64 w)) before
    ∙ ap (λ l. map is_one (take (64 * place) digits) ++ l)
    (here ∙ ap (λ l. map is_one (take n l)) (take_rest digits (64 * place)))
    ∙ sym (simp map-append)
    ∙ ap (map is_one) (sym (take-add (64 * place) n digits))

pub right-more : (digits : List ℕ) (at n : ℕ) (before here : Bool)
    → before ≡ are_elements (take at digits)
    → here ≡ are_elements (take n (take (length digits - at) (drop at digits)))
    → (before && here) ≡ are_elements (take (at + n) digits)
right-more digits at n before here b h =
    ap (λ x. x && here) b ∙ ap (λ x. are_elements (take at digits) && x)
    (h ∙ ap (λ l. are_elements (take n l)) (take_rest digits at))
    ∙ sym (list_all-append is_element (take at digits) (take n (drop at digits)))
    ∙ ap are_elements (sym (take-add at n digits))

rest-size : (digits : List ℕ) (at : ℕ)
    → length (take (length digits - at) (drop at digits)) ≡ length digits - at
rest-size digits at = ap length (take_rest digits at) ∙ length-drop at digits

-- and those of the last digits, which don't fill a number
pub packed-last : (digits numbers : List ℕ) (place w : ℕ) → place < length numbers
    → length digits ≤ 64 * place + 64 → 64 * place ≤ length digits
    → take (64 * place) (elements_of_numbers numbers) ≡ map is_one (take (64 * place) digits)
    → take (length (take (length digits - 64 * place) (drop (64 * place) digits)))
    (elements_from 64 w) ≡ map is_one
    (take (length digits - 64 * place) (drop (64 * place) digits))
    → take (length digits) (elements_of_numbers (set numbers place w)) ≡ map is_one digits
packed-last digits numbers place w below few within before here =
    let rest = take (length digits - 64 * place) (drop (64 * place) digits) in
    let size = rest-size digits (64 * place) in
    let whole : 64 * place + length rest ≡ length digits = omega (arith, size, within) in
    ap (λ n. take n (elements_of_numbers (set numbers place w))) (sym whole)
    ∙ packed-more digits numbers place w (length rest) below (omega (arith, size, few)) before
    (here ∙ ap (map is_one) (sym (take_all (length rest) rest (omega arith))))
    ∙ ap (λ n. map is_one (take n digits)) whole
    ∙ ap (map is_one) (take_all (length digits) digits (omega arith))

pub right-last : (digits : List ℕ) (at : ℕ) (before here : Bool) → at ≤ length digits
    → before ≡ are_elements (take at digits)
    → here ≡ are_elements (take (length digits - at) (drop at digits))
    → (before && here) ≡ are_elements digits
right-last digits at before here within b h =
    let rest = take (length digits - at) (drop at digits) in
    let size = rest-size digits at in
    let whole : at + length rest ≡ length digits = omega (arith, size, within) in
    right-more digits at (length rest) before here b
    (h ∙ ap are_elements (sym (take_all (length rest) rest (omega arith))))
    ∙ ap (λ n. are_elements (take n digits)) whole
    ∙ ap are_elements (take_all (length digits) digits (omega arith))

-- digits that are followed by zeros
zeros-right : (n m : ℕ) → are_elements (drop n (replicate m 48)) ≡ true
zeros-right zero zero = refl
zeros-right zero (suc m) = zeros-right zero m
zeros-right (suc n) zero = refl
zeros-right (suc n) (suc m) = zeros-right n m

and-true : (a : Bool) → (a && true) ≡ a
and-true true = refl
and-true false = refl

-- the last digits, with zeros up to 64
filled-size : (digits : List ℕ) → length digits < 64
    → length (digits ++ drop (length digits) (replicate 64 48)) ≡ 64
filled-size digits few = omega (
  arith,
  few,
  length-append digits (drop (length digits) (replicate 64 48)),
  length-drop {A = ℕ}
      (length digits) (replicate 64 48),
)

pub filled-right : (digits : List ℕ) → length digits < 64
    → are_elements (take 64 (digits ++ drop (length digits) (replicate 64 48)))
    ≡ are_elements digits
filled-right digits few =
    let whole = digits ++ drop (length digits) (replicate 64 48) in
    ap are_elements (take_all 64 whole (omega (arith, filled-size digits few)))
    ∙ list_all-append is_element digits (drop (length digits) (replicate 64 48))
    ∙ ap (λ x. are_elements digits && x) (zeros-right (length digits) 64)
    ∙ and-true (are_elements digits)

pub filled-ones : (digits : List ℕ) → length digits < 64
    → take (length digits) (map is_one (take 64 (digits ++ drop (length digits) (replicate 64 48))))
    ≡ map is_one digits
filled-ones digits few =
    let behind = drop (length digits) (replicate 64 48) in
    ap (λ l. take (length digits) (map is_one l))
    (take_all 64 (digits ++ behind) (omega (arith, filled-size digits few)))
    ∙ ap (take (length digits)) (map-append is_one digits behind)
    ∙ ap (λ n. take n (map is_one digits ++ map is_one behind)) (sym (length-map digits is_one))
    ∙ take-append_seam (map is_one digits) (map is_one behind)

-- ---- digits and the elements that they stand for

digit-of : (byte : ℕ) (zeroed one : Bool) → (byte == 48) ≡ zeroed → (byte == 49) ≡ one
    → (zeroed || one) ≡ true → byte ≡ element_digit one
digit-of byte true true z o h = eqb-true byte 49 o
digit-of byte true false z o h = eqb-true byte 48 z
digit-of byte false true z o h = eqb-true byte 49 o
digit-of byte false false z o h = cc

and-left : (a b : Bool) → (a && b) ≡ true → a ≡ true
and-left true b h = refl
and-left false b h = cc

and-right : (a b : Bool) → (a && b) ≡ true → b ≡ true
and-right true b h = h
and-right false b h = cc

pub digits-spelled : (digits : List ℕ) → are_elements digits ≡ true
    → digits ≡ map element_digit (map is_one digits)
digits-spelled [] h = refl
digits-spelled (d ∷ digits) h =
    ap (λ x. x ∷ digits) (digit-of d (d == 48) (d == 49) refl refl
    (and-left (is_element d) (are_elements digits) h))
    ∙ ap (λ l. element_digit (is_one d) ∷ l)
    (digits-spelled digits (and-right (is_element d) (are_elements digits) h))

pub spelled-right : (bits : List Bool) → are_elements (map element_digit bits) ≡ true
spelled-right [] = refl
spelled-right (true ∷ bits) = spelled-right bits
spelled-right (false ∷ bits) = spelled-right bits

pub ones-spelled : (bits : List Bool) → map is_one (map element_digit bits) ≡ bits
ones-spelled [] = refl
ones-spelled (true ∷ bits) = ap (λ l. true ∷ l) (ones-spelled bits)
ones-spelled (false ∷ bits) = ap (λ l. false ∷ l) (ones-spelled bits)

-- bytes of which one is no digit stand for no elements
pub wrong-digits : (digits : List ℕ) (bits : List Bool) → are_elements digits ≡ false
    → digits ≡ map element_digit bits → ⊥
wrong-digits digits bits h same =
    absurd (let both : false ≡ true = sym h ∙ ap are_elements same ∙ spelled-right bits in cc)

-- what was read of the digits of at most 512 elements is these elements
pub packed-bits : (digits : List ℕ) (bits packed : List Bool) (right : Bool)
    → digits ≡ map element_digit bits → length bits ≤ 512
    → (IsTrue right → (0 < length packed) × (length packed ≤ 512)
    × (digits ≡ map element_digit packed))
    → (right ≡ false → (elements : List Bool) → 0 < length elements → length elements ≤ 512
    → digits ≢ map element_digit elements)
    → (right ≡ false → packed ≡ [])
    → packed ≡ bits
packed-bits digits bits packed true spelled few found none unread =
    sym (ones-spelled packed) ∙ ap (map is_one) (sym (found refl).2 ∙ spelled) ∙ ones-spelled bits
packed-bits digits [] packed false spelled few found none unread = unread refl
packed-bits digits (b ∷ bits) packed false spelled few found none unread =
    absurd (none refl (b ∷ bits) (omega arith) few spelled)

-- ---- a few digits, the last one first

pub few-elements : (digits : List ℕ) (ones : ℕ) → length digits ≤ 64
    → ones ≡ mask_l (map is_one digits)
    → take (length digits) (elements_from 64 ones) ≡ map is_one digits
few-elements digits ones few o =
    elements_from-take (length digits) 64 ones few
    ∙ ap (λ n. elements_from n ones) (sym (length-map digits is_one))
    ∙ ap (elements_from (length (map is_one digits))) o ∙ elements-mask (map is_one digits)

pub few-ones-small : (digits : List ℕ) (at : ℕ) → length digits < 16
    → mask_l (map is_one (drop at digits)) < 32768
few-ones-small digits at few =
    let ones = map is_one (drop at digits) in
    let size : length ones ≤ 15 =
    omega (arith, few, length-map (drop at digits) is_one, length-drop at digits) in
    let most : 2 ^ length ones ≤ 2 ^ 15 =
    pow-le-pow_right {n = 2} (omega arith) {i = length ones} {j = 15} size in
    omega (arith, most, mask_l-lt ones)

pub bit-small : (bit : Bool) → bool_byte bit ≤ 1
bit-small true = omega arith
bit-small false = omega arith
