-- Packed elements and parts of them: those of one number of 64 bits, and those that go on in the
-- next one; and the words of a number.
use Rattle.std.proofs.Common.{◌≡◌, ℕ, zero, suc, ◌+◌, ◌-◌, ◌*◌, ◌/◌, ◌%◌, ◌^◌, ◌<◌, ◌≤◌, ◌==◌, List}
use Rattle.std.proofs.Common.{[], ◌∷◌, ◌++◌, length, take, drop, get_or, Bool, refl, sym, ap, ap₂}
use Rattle.std.proofs.Common.{subst, ◌∙◌, inl, inr, arith, length-append, length-drop, drop-drop}
use Rattle.std.proofs.Common.{take-take}
use Rattle.std.specs.List.{flat_map}
use Rattle.std.proofs.Math.Nat.{pow-succ', pow-le-pow_right, mod-lt, mul_assoc, mul-mod_left}
use Rattle.std.proofs.Math.Pow.{shr_lt}
use Rattle.std.proofs.Math.Seq.{drop-cons, drop-append-add, take-append-add}
use Rattle.std.proofs.lemmas.Bool.{cases_eq, ne_eqb}
use Rattle.std.proofs.lemmas.Nat.{shr-shr, shl-shr, mod-pow-add, pow_pos}
use Rattle.std.proofs.lemmas.List.{drop-append-le, take-append-le, take-append-drop}
use Rattle.nx_code.specs.Word.{elements, elements_from, number_of, value_of}
use Rattle.nx_code.specs.Packed.{elements_of_numbers, packed_part}
use Rattle.nx_code.proofs.lemmas.Word.{number_of-lt}

-- bits of which others come after
pub number_of-append : (xs ys : List Bool)
    → number_of (xs ++ ys) ≡ number_of xs + 2 ^ length xs * number_of ys
unfolding number_of
number_of-append [] ys = omega arith
number_of-append (x ∷ xs) ys =
    let e : 2 ^ suc (length xs) * number_of ys ≡ 2 * (2 ^ length xs * number_of ys) =
    rw pow-succ' (mul_assoc 2 (2 ^ length xs) (number_of ys)) in
    omega (arith, number_of-append xs ys, e)

-- a number has the elements of itself
pub length-elements_from : (n x : ℕ) → length (elements_from n x) ≡ n
unfolding elements_from
length-elements_from zero x = refl
length-elements_from (suc n) x = omega (arith, length-elements_from n (x / 2))

-- a word has seven elements
pub length-elements : (word : ℕ) → length (elements word) ≡ 7
unfolding elements
length-elements word = length-elements_from 7 word

pub value_of-odd : (x : ℕ) → value_of (x % 2 == 1) ≡ x % 2
value_of-odd x = elim (cases_eq (x % 2) 1) [
  | inl one ↦ rw one refl
  | inr other ↦ rw (ne_eqb (x % 2) 1 other) (omega arith)
]

pub number_of-elements_from : (n x : ℕ) → x < 2 ^ n → number_of (elements_from n x) ≡ x
unfolding number_of elements_from
number_of-elements_from zero x h = omega arith
number_of-elements_from (suc n) x h =
    let e : 2 ^ suc n ≡ 2 * 2 ^ n = pow-succ' 2 n in
    omega (arith, e, number_of-elements_from n (x / 2) (omega (arith, e)), value_of-odd x)

-- fewer of a number's elements, those behind the first ones, and those of its lowest places
pub elements_from-take : (n m x : ℕ) → n ≤ m → take n (elements_from m x) ≡ elements_from n x
unfolding elements_from
elements_from-take zero m x h = refl
elements_from-take (suc n) zero x h = absurd (omega arith)
elements_from-take (suc n) (suc m) x h =
    ap (λ l. (x % 2 == 1) ∷ l) (elements_from-take n m (x / 2) (omega arith))

pub elements_from-drop : (n m x : ℕ)
    → drop n (elements_from (n + m) x) ≡ elements_from m (x / 2 ^ n)
unfolding elements_from
elements_from-drop zero m x =
    let e : 0 + m ≡ m = omega arith in
    let d : x ≡ x / 2 ^ 0 = omega arith in
    ap (λ k. elements_from k x) e ∙ ap (elements_from m) d
elements_from-drop (suc n) m x =
    let e : suc n + m ≡ suc (n + m) = omega arith in
    let s : 1 + n ≡ suc n = omega arith in
    ap (λ k. drop (suc n) (elements_from k x)) e
    ∙ (elements_from-drop n m (x / 2)
    ∙ ap (elements_from m) (shr-shr x 1 n ∙ ap (λ k. x / 2 ^ k) s))

pub elements_from-mod : (n x : ℕ) → elements_from n (x % 2 ^ n) ≡ elements_from n x
unfolding elements_from
elements_from-mod zero x = refl
elements_from-mod (suc n) x =
    let s : n + 1 ≡ suc n = omega arith in
    let e : x % 2 ^ suc n ≡ (x / 2 ^ 1 % 2 ^ n) * 2 ^ 1 + x % 2 ^ 1 =
    ap (λ k. x % 2 ^ k) (sym s) ∙ mod-pow-add x n 1 in
    let low : x % 2 ^ suc n % 2 ≡ x % 2 = omega (arith, e) in
    let high : x % 2 ^ suc n / 2 ≡ x / 2 % 2 ^ n = omega (arith, e) in
    ap₂ (λ b l. (b == 1) ∷ l) low (ap (elements_from n) high ∙ elements_from-mod n (x / 2))

-- two numbers side by side
pub elements_from-join : (a b x y : ℕ) → x < 2 ^ a
    → elements_from (a + b) (x + 2 ^ a * y) ≡ elements_from a x ++ elements_from b y
unfolding elements_from
elements_from-join zero b x y h =
    let e : 0 + b ≡ b = omega arith in
    let d : x + 2 ^ 0 * y ≡ y = omega arith in
    ap (λ k. elements_from k (x + 2 ^ 0 * y)) e ∙ ap (elements_from b) d
elements_from-join (suc a) b x y h =
    let e : suc a + b ≡ suc (a + b) = omega arith in
    let p : 2 ^ suc a ≡ 2 * 2 ^ a = pow-succ' 2 a in
    let t : 2 ^ suc a * y ≡ 2 * (2 ^ a * y) = ap (λ k. k * y) p ∙ omega arith in
    let low : (x + 2 ^ suc a * y) % 2 ≡ x % 2 = omega (arith, t) in
    let high : (x + 2 ^ suc a * y) / 2 ≡ x / 2 + 2 ^ a * y = omega (arith, t) in
    ap (λ k. elements_from k (x + 2 ^ suc a * y)) e
    ∙ ap₂ (λ v l. (v == 1) ∷ l) low
    (ap (elements_from (a + b)) high ∙ elements_from-join a b (x / 2) y (omega (arith, p)))

pub length-numbers : (ws : List ℕ) → length (elements_of_numbers ws) ≡ 64 * length ws
unfolding elements_of_numbers
length-numbers [] = refl
length-numbers (w ∷ ws) = simp length-append
    (omega (arith, length-elements_from 64 w, length-numbers ws))

-- packed numbers from one of them on
drop-numbers : (i : ℕ) (ws : List ℕ) → i ≤ length ws
    → drop (64 * i) (elements_of_numbers ws) ≡ elements_of_numbers (drop i ws)
unfolding elements_of_numbers
drop-numbers zero ws h = refl
drop-numbers (suc i) [] h = absurd (omega arith)
drop-numbers (suc i) (w ∷ ws) h =
    let e : 64 * suc i ≡ length (elements_from 64 w) + 64 * i =
    omega (arith, length-elements_from 64 w) in
    ap (λ k. drop k (elements_from 64 w ++ elements_of_numbers ws)) e
    ∙ (drop-append-add (elements_from 64 w) (elements_of_numbers ws) (64 * i)
    ∙ drop-numbers i ws (omega arith))

-- the elements from a place of a number on
from_place : (ws : List ℕ) (i s : ℕ) → i < length ws → s ≤ 64
    → drop (64 * i + s) (elements_of_numbers ws)
    ≡ elements_from (64 - s) (get_or ws i 0 / 2 ^ s) ++ elements_of_numbers (drop (suc i) ws)
unfolding elements_of_numbers
from_place ws i s h low =
    let w : ℕ = get_or ws i 0 in
    let part : s + (64 - s) ≡ 64 = omega arith in
    let room : s ≤ length (elements_from 64 w) = omega (arith, length-elements_from 64 w) in
    sym (drop-drop s (64 * i) (elements_of_numbers ws))
    ∙ (ap (drop s) (drop-numbers i ws (omega arith) ∙ ap elements_of_numbers (drop-cons ws i 0 h))
    ∙ (drop-append-le s (elements_from 64 w) (elements_of_numbers (drop (suc i) ws)) room
    ∙ ap (λ l. l ++ elements_of_numbers (drop (suc i) ws))
    (ap (λ k. drop s (elements_from k w)) (sym part) ∙ elements_from-drop s (64 - s) w)))

-- so many of them, where they are all of that number
pub part_here : (ws : List ℕ) (i s n : ℕ) → i < length ws → s + n ≤ 64
    → take n (drop (64 * i + s) (elements_of_numbers ws)) ≡ elements_from n (get_or ws i 0 / 2 ^ s)
part_here ws i s n h fits =
    let x : ℕ = get_or ws i 0 / 2 ^ s in
    let room : n ≤ length (elements_from (64 - s) x) =
    omega (arith, length-elements_from (64 - s) x) in
    ap (take n) (from_place ws i s h (omega arith))
    ∙ (take-append-le n (elements_from (64 - s) x) (elements_of_numbers (drop (suc i) ws)) room
    ∙ elements_from-take n (64 - s) x (omega arith))

-- and where the last m of them are of the next number
pub part_across : (ws : List ℕ) (i s m : ℕ) → i + 1 < length ws → s ≤ 64 → m ≤ 64
    → take (64 - s + m) (drop (64 * i + s) (elements_of_numbers ws))
    ≡ elements_from (64 - s) (get_or ws i 0 / 2 ^ s) ++ elements_from m (get_or ws (i + 1) 0)
part_across ws i s m h low few =
    let x : ℕ = get_or ws i 0 / 2 ^ s in
    let e : 64 - s + m ≡ length (elements_from (64 - s) x) + m =
    omega (arith, length-elements_from (64 - s) x) in
    let first = part_here (drop (suc i) ws) 0 0 m (ahead ws i h) (omega arith) in
    let d : get_or (drop (suc i) ws) 0 0 / 2 ^ 0 ≡ get_or ws (i + 1) 0 =
    omega (arith, get_first ws i h) in
    ap (take (64 - s + m)) (from_place ws i s (omega arith) low)
    ∙ (ap (λ k. take k (elements_from (64 - s) x ++ elements_of_numbers (drop (suc i) ws))) e
    ∙ (take-append-add (elements_from (64 - s) x) (elements_of_numbers (drop (suc i) ws)) m
    ∙ ap (λ l. elements_from (64 - s) x ++ l) (first ∙ ap (elements_from m) d)))
  where
    ahead : (ws : List ℕ) (i : ℕ) → i + 1 < length ws → 0 < length (drop (suc i) ws)
    ahead ws i h = simp length-drop (omega arith)

    get_first : (ws : List ℕ) (i : ℕ) → i + 1 < length ws
        → get_or (drop (suc i) ws) 0 0 ≡ get_or ws (i + 1) 0
    get_first ws i h = let e : suc i ≡ i + 1 = omega arith in
        ap (λ k. get_or (drop k ws) 0 0) e ∙ ap (λ l. get_or l 0 0) (drop-cons ws (i + 1) 0 h)

-- two numbers side by side stay within as many places
join-lt : (a b x y : ℕ) → x < 2 ^ a → y < 2 ^ b → x + 2 ^ a * y < 2 ^ (a + b)
join-lt a b x y h k =
    let l : length (elements_from a x ++ elements_from b y) ≡ a + b =
    simp length-append (omega (arith, length-elements_from a x, length-elements_from b y)) in
    let n = number_of-append (elements_from a x) (elements_from b y) in
    let p : 2 ^ length (elements_from a x) * number_of (elements_from b y) ≡ 2 ^ a * y =
    ap₂ (λ k v. 2 ^ k * v) (length-elements_from a x) (number_of-elements_from b y k) in
    let lt = subst (λ k. number_of (elements_from a x ++ elements_from b y) < 2 ^ k) l
    (number_of-lt (elements_from a x ++ elements_from b y)) in
    omega (arith, lt, n, p, number_of-elements_from a x h)

-- a power of few places
pub small_power : (n : ℕ) → n ≤ 56 → (2 ^ n < 2 ^ 64) × (1 * 2 ^ n % 2 ^ 64 ≡ 2 ^ n)
small_power n few =
    let le : 2 ^ n ≤ 2 ^ 56 = pow-le-pow_right (omega arith) few in
    (omega (arith, le), omega (arith, le))

-- what is read where all elements are of one number
pub read_here : (ws : List ℕ) (place count : ℕ) → 0 < count → count ≤ 56
    → place + count ≤ 64 * length ws → count ≤ 64 - place % 64
    → elements_from count (get_or ws (place / 64) 0 / 2 ^ (place % 64) % (1 * 2 ^ count % 2 ^ 64))
    ≡ packed_part ws place count
read_here ws place count some few room here =
    let x : ℕ = get_or ws (place / 64) 0 / 2 ^ (place % 64) in
    let e : 64 * (place / 64) + place % 64 ≡ place = omega arith in
    ap (λ p. elements_from count (x % p)) (small_power count few).1
    ∙ (elements_from-mod count x
    ∙ (sym (part_here ws (place / 64) (place % 64) count (omega arith) (omega arith))
    ∙ ap (λ p. take count (drop p (elements_of_numbers ws))) e))

-- a number moved up by some places, of which the highest are lost
moved_up : (x here s : ℕ) → s + here ≡ 64 → x * 2 ^ here % 2 ^ 64 ≡ 2 ^ here * (x % 2 ^ s)
moved_up x here s all =
    ap (λ k. x * 2 ^ here % 2 ^ k) (sym all)
    ∙ (mod-pow-add (x * 2 ^ here) s here
    ∙ (ap₂ (λ a b. a % 2 ^ s * 2 ^ here + b) (shl-shr x here) (mul-mod_left x (2 ^ here))
    ∙ omega arith))

-- the elements of a number from a place on, and above them those of the next one
abbrev pub both : List ℕ → ℕ → ℕ
both ws place =
    get_or ws (place / 64) 0 / 2 ^ (place % 64)
    + get_or ws (place / 64 + 1) 0 * 2 ^ (64 - place % 64) % 2 ^ 64

-- what is read where the last of them are of the next number
pub read_across : (ws : List ℕ) (place count : ℕ) → count ≤ 56 → place + count ≤ 64 * length ws
    → 64 - place % 64 < count → get_or ws (place / 64) 0 < 2 ^ 64
    → (both ws place < 2 ^ 64)
    × (elements_from count (both ws place % (1 * 2 ^ count % 2 ^ 64))
    ≡ packed_part ws place count)
read_across ws place count few room over fits =
    let s : ℕ = place % 64 in
    let here : ℕ = 64 - place % 64 in
    let x : ℕ = get_or ws (place / 64) 0 / 2 ^ (place % 64) in
    let next : ℕ = get_or ws (place / 64 + 1) 0 in
    let e : 64 * (place / 64) + place % 64 ≡ place = omega arith in
    let all : here + s ≡ 64 = omega arith in
    let low : x < 2 ^ here = shr_lt here s
    (subst (λ k. get_or ws (place / 64) 0 < 2 ^ k) (sym all) fits) in
    let high : next % 2 ^ s < 2 ^ s = mod-lt next (pow_pos s) in
    let joined = join-lt here s x (next % 2 ^ s) low high in
    let value : both ws place ≡ x + 2 ^ here * (next % 2 ^ s) =
    ap (λ v. x + v) (moved_up next here s (omega arith)) in
    let within : x + 2 ^ here * (next % 2 ^ s) < 2 ^ 64 =
    subst (λ k. x + 2 ^ here * (next % 2 ^ s) < 2 ^ k) all joined in
    let elements : elements_from 64 (both ws place) ≡ packed_part ws place 64 =
    ap (elements_from 64) value
    ∙ (ap (λ k. elements_from k (x + 2 ^ here * (next % 2 ^ s))) (sym all)
    ∙ (elements_from-join here s x (next % 2 ^ s) low
    ∙ (ap (λ l. elements_from here x ++ l) (elements_from-mod s next)
    ∙ (sym (part_across ws (place / 64) (place % 64) s (omega arith) (omega arith) (omega arith))
    ∙ (ap (λ p. take (here + s) (drop p (elements_of_numbers ws))) e
    ∙ ap (λ k. take k (drop place (elements_of_numbers ws))) all))))) in (
      subst (λ v. v < 2 ^ 64) (sym value) within,
      ap (λ p. elements_from count (both ws place % p)) (small_power count few).1
          ∙ (elements_from-mod count (both ws place)
          ∙ (sym (elements_from-take count 64 (both ws place) (omega arith))
          ∙ (ap (take count) elements
          ∙ take-take count 64 (drop place (elements_of_numbers ws)) (omega arith)))),
    )

-- The word of the lowest elements, and those that come after them.
pub first_word : (n x : ℕ)
    → elements_from (7 + n) x ≡ elements (x % 128) ++ elements_from n (x / 128)
unfolding elements
first_word n x =
    let low : take 7 (elements_from (7 + n) x) ≡ elements_from 7 (x % 128) =
    elements_from-take 7 (7 + n) x (omega arith) ∙ sym (elements_from-mod 7 x) in
    sym (take-append-drop 7 (elements_from (7 + n) x))
    ∙ ap₂ (λ a b. a ++ b) low (elements_from-drop 7 n x)

-- as many words as these, from a place on
next_word : (n i : ℕ) (x : ℕ)
    → elements_from (7 + n) (x / 2 ^ (7 * i))
    ≡ elements (x / 2 ^ (7 * i) % 128) ++ elements_from n (x / 2 ^ (7 * (i + 1)))
next_word n i x =
    let e : 7 * i + 7 ≡ 7 * (i + 1) = omega arith in
    first_word n (x / 2 ^ (7 * i))
    ∙ ap (λ v. elements (x / 2 ^ (7 * i) % 128) ++ elements_from n v)
    (shr-shr x (7 * i) 7 ∙ ap (λ k. x / 2 ^ k) e)

-- so many words of a number, from the one of an index on
abbrev pub words_in : ℕ → ℕ → ℕ → List ℕ
words_in zero i x = []
words_in (suc n) i x = (x / 2 ^ (7 * i) % 128) ∷ words_in n (i + 1) x

-- their elements are those of the number
pub elements_of-words_in : (n i x : ℕ)
    → flat_map elements (words_in n i x) ≡ elements_from (7 * n) (x / 2 ^ (7 * i))
unfolding elements_from
elements_of-words_in zero i x = refl
elements_of-words_in (suc n) i x =
    let e : 7 + 7 * n ≡ 7 * suc n = omega arith in
    ap (λ l. elements (x / 2 ^ (7 * i) % 128) ++ l) (elements_of-words_in n (i + 1) x)
    ∙ (sym (next_word (7 * n) i x) ∙ ap (λ k. elements_from k (x / 2 ^ (7 * i))) e)

pub elements_of-words : (x : ℕ) → flat_map elements (words_in 8 0 x) ≡ elements_from 56 x
elements_of-words x =
    let e : x / 2 ^ (7 * 0) ≡ x = omega arith in
    elements_of-words_in 8 0 x ∙ ap (elements_from 56) e
