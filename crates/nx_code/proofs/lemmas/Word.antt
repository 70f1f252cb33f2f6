-- How the elements of a word and its number go together.
use Rattle.std.proofs.Common.{◌≡◌, ℕ, ◌+◌, ◌-◌, ◌*◌, ◌^◌, ◌<◌, ◌≤◌, ◌/◌, ◌%◌, Bool, true, false}
use Rattle.std.proofs.Common.{eqb, List, [], ◌∷◌, ◌++◌, length, get_or, take, drop, set, suc, refl}
use Rattle.std.proofs.Common.{ap, subst, ◌∙◌, arith, append_assoc, append-nil, add-one}
use mir.Val.{bool_byte}
use Rattle.std.proofs.Math.Nat.{pow-succ', pow-le-pow_right}
use Rattle.std.proofs.lemmas.Bool.{agree_below_at, eqb-true, eq-eqb, ne_eqb}
use Rattle.std.proofs.Math.Seq.{drop-cons, take-suc-set}
use Rattle.std.proofs.lemmas.List.{drop_all, take_all}
use Rattle.nx_code.specs.Word.{elements, elements_from, number_of, value_of}

pub value_of-bool_byte : (bit : Bool) → bool_byte bit ≡ value_of bit
value_of-bool_byte true = refl
value_of-bool_byte false = refl

pub value_of-le : (bit : Bool) → value_of bit ≤ 1
value_of-le true = omega arith
value_of-le false = omega arith

-- seven elements, each in the least place of a byte, the first in the lowest byte
unfoldable pub spread_of : List Bool → ℕ
spread_of [] = 0
spread_of (bit ∷ bits) = value_of bit + 256 * spread_of bits

-- one more element at the front of those that stand already
pub spread_of-drop : (bits : List Bool) (place : ℕ) → 0 < place → place ≤ length bits
    → spread_of (drop (place - 1) bits)
    ≡ value_of (get_or bits (place - 1) false) + 256 * spread_of (drop place bits)
unfolding spread_of
spread_of-drop bits place h k =
    let lt : place - 1 < length bits = omega arith in
    let e : suc (place - 1) ≡ place = omega arith in
    let P : ℕ → Type 0 = λ q. spread_of (drop (place - 1) bits)
    ≡ value_of (get_or bits (place - 1) false) + 256 * spread_of (drop q bits) in
    subst P e (ap spread_of (drop-cons bits (place - 1) false lt))

pub spread_of-drop_all : (bits : List Bool) → length bits ≡ 7 → spread_of (drop 7 bits) ≡ 0
unfolding spread_of
spread_of-drop_all bits h = ap spread_of (drop_all 7 bits (omega arith))

-- a byte more with each element
pub byte-more : (spread bit place : ℕ) → 0 < place → place ≤ 7 → bit ≤ 1
    → spread < 256 ^ (7 - place) → 256 * spread + bit < 256 ^ (7 - (place - 1))
byte-more spread bit place h k b lt =
    let e : 7 - (place - 1) ≡ suc (7 - place) = omega arith in
    rw (e, pow-succ' 256 (7 - place)) (omega arith)

pub byte-fits : (spread place : ℕ) → 0 < place → spread < 256 ^ (7 - place) → 256 * spread < 2 ^ 64
byte-fits spread place h lt =
    let n : 7 - place ≤ 6 = omega arith in
    let six : 256 ^ (7 - place) ≤ 256 ^ 6 = pow-le-pow_right (omega arith) n in
    omega arith

-- the elements so far and those of the rest, one element later
pub elements_from-more : (bits : List Bool) (place rest : ℕ) → length bits ≡ 7 → place < 7
    → take (place + 1) (set bits place (eqb (rest % 2) 1))
    ++ elements_from (7 - (place + 1)) (rest / 2)
    ≡ take place bits ++ elements_from (7 - place) rest
unfolding elements_from
elements_from-more bits place rest h k =
    let lt : place < length bits = omega arith in
    let e : 7 - place ≡ suc (7 - suc place) = omega arith in
    rw (add-one, take-suc-set bits place (eqb (rest % 2) 1) lt, e, append_assoc) refl

pub elements_from-all : (bits : List Bool) (place rest : ℕ) → length bits ≡ 7 → place ≡ 7
    → take place bits ++ elements_from (7 - place) rest ≡ bits
unfolding elements_from
elements_from-all bits place rest h k = rw (k, append-nil) (take_all 7 bits (omega arith))

-- a word is the number of its elements
pub number_of-elements : (word : ℕ) → word < 128 → number_of (elements word) ≡ word
unfolding number_of elements elements_from
number_of-elements word h =
    eqb-true (number_of (elements word)) word
    (agree_below_at (λ n. eqb (number_of (elements n)) n) (λ _. true) 128 word refl h)

value_of-rest : (bit : Bool) (rest : ℕ)
    → (eqb ((value_of bit + 2 * rest) % 2) 1 ≡ bit) × ((value_of bit + 2 * rest) / 2 ≡ rest)
value_of-rest true rest = (eq-eqb _ _ (omega arith), omega arith)
value_of-rest false rest = (ne_eqb _ _ (λ e. omega arith), omega arith)

-- as many bits as these are those of their number
pub elements_from-number_of : (bits : List Bool)
    → elements_from (length bits) (number_of bits) ≡ bits
unfolding number_of elements_from
elements_from-number_of [] = refl
elements_from-number_of (bit ∷ bits) =
    let e = value_of-rest bit (number_of bits) in
    rw (e.0, e.1) (ap (λ l. bit ∷ l) (elements_from-number_of bits))

-- seven bits are the elements of their number
pub elements-number_of : (bits : List Bool) → length bits ≡ 7 → elements (number_of bits) ≡ bits
unfolding elements
elements-number_of bits h =
    subst (λ n. elements_from n (number_of bits) ≡ bits) h (elements_from-number_of bits)

-- so many bits have a number below this
pub number_of-lt : (xs : List Bool) → number_of xs < 2 ^ length xs
unfolding number_of
number_of-lt [] = omega arith
number_of-lt (x ∷ xs) =
    let e : 2 ^ suc (length xs) ≡ 2 * 2 ^ length xs = pow-succ' 2 (length xs) in
    omega (arith, number_of-lt xs, value_of-le x, e)

number_of-seven : (bits : List Bool) → length bits ≡ 7 → number_of bits < 128
number_of-seven bits h = subst (λ n. number_of bits < 2 ^ n) h (number_of-lt bits)

-- what the product gathers of the bytes
abbrev pub gathered : ℕ → ℕ
gathered spread = spread * 0x102040810204000 % 2 ^ 64 / 2 ^ 56

gathered-elements : (word : ℕ) → word < 128 → gathered (spread_of (elements word)) ≡ word
unfolding spread_of elements elements_from
gathered-elements word h =
    eqb-true (gathered (spread_of (elements word))) word
    (agree_below_at (λ n. eqb (gathered (spread_of (elements n))) n) (λ _. true) 128 word refl
    h)

gathered-number_of : (bits : List Bool) → length bits ≡ 7
    → gathered (spread_of bits) ≡ number_of bits
gathered-number_of bits h =
    subst (λ b. gathered (spread_of b) ≡ number_of bits) (elements-number_of bits h)
    (gathered-elements (number_of bits) (number_of-seven bits h))

-- once the elements from the first one on stand in the bytes, the product gathers their number
pub gathers : (bits : List Bool) (spread place : ℕ) → length bits ≡ 7 → place ≤ 0
    → spread ≡ spread_of (drop place bits) → gathered spread ≡ number_of bits
gathers bits spread place h first e =
    let z : place ≡ 0 = omega arith in
    ap gathered (e ∙ ap (λ p. spread_of (drop p bits)) z) ∙ gathered-number_of bits h

pub gathers-lt : (bits : List Bool) (spread place : ℕ) → length bits ≡ 7 → place ≤ 0
    → spread ≡ spread_of (drop place bits) → gathered spread < 128
gathers-lt bits spread place h first e =
    let n = number_of-seven bits h in
    omega (arith, gathers bits spread place h first e)
