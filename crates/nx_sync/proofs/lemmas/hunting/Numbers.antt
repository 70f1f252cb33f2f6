-- Lists of bits and the numbers that have these bits, the first one in the least place.
use Rattle.std.proofs.Common.{◌≡◌, ℕ, zero, suc, ◌+◌, ◌*◌, ◌/◌, ◌%◌, ◌^◌, List, [], ◌∷◌, ◌++◌}
use Rattle.std.proofs.Common.{length, drop, Bool, true, false, refl, sym, ap, ap₂, ◌∙◌, arith}
use Rattle.std.proofs.Common.{drop-drop, length-drop, ◌==◌, eq-eqb}
use Rattle.std.proofs.lemmas.Bool.{ne_eqb}
use Rattle.std.proofs.lemmas.Nat.{shr-shr}
use Rattle.nx_code.specs.Word.{number_of, value_of}
use Rattle.nx_code.proofs.lemmas.Packed.{number_of-append}
use Rattle.nx_code.proofs.lemmas.Word.{value_of-le}

-- without the first bit
pub number_of-drop_one : (xs : List Bool) → number_of (drop 1 xs) ≡ number_of xs / 2
unfolding number_of
number_of-drop_one [] = refl
number_of-drop_one (x ∷ xs) = omega (arith, value_of-le x)

-- without the first n bits
pub number_of-drop : (n : ℕ) (xs : List Bool) → number_of (drop n xs) ≡ number_of xs / 2 ^ n
number_of-drop zero xs = omega arith
number_of-drop (suc n) xs =
    let e : 1 + n ≡ suc n = omega arith in
    ap number_of (sym (drop-drop n 1 xs ∙ ap (λ k. drop k xs) e))
    ∙ (number_of-drop n (drop 1 xs)
    ∙ (ap (λ m. m / 2 ^ n) (number_of-drop_one xs)
    ∙ (shr-shr (number_of xs) 1 n ∙ ap (λ k. number_of xs / 2 ^ k) e)))

same_value : (x y : Bool) → value_of x ≡ value_of y → x ≡ y
same_value true true e = refl
same_value true false e = absurd (omega arith)
same_value false true e = absurd (omega arith)
same_value false false e = refl

-- as many bits with the same number are the same bits
pub number_of-same : (xs ys : List Bool) → length xs ≡ length ys → number_of xs ≡ number_of ys
    → xs ≡ ys
unfolding number_of
number_of-same [] [] l e = refl
number_of-same [] (y ∷ ys) l e = absurd (omega arith)
number_of-same (x ∷ xs) [] l e = absurd (omega arith)
number_of-same (x ∷ xs) (y ∷ ys) l e =
    let v : value_of x ≡ value_of y = omega (arith, value_of-le x, value_of-le y) in
    let n : number_of xs ≡ number_of ys = omega (arith, value_of-le x, value_of-le y) in
    ap₂ (λ b bs. b ∷ bs) (same_value x y v) (number_of-same xs ys (omega arith) n)

-- bits moved up by one
number_of-one : (b : Bool) → number_of (b ∷ []) ≡ value_of b
unfolding number_of
number_of-one b = omega arith

pub number_of-next : (n : ℕ) (xs : List Bool) (b : Bool) → length xs ≡ n + 1
    → number_of (drop 1 xs ++ b ∷ []) ≡ number_of xs / 2 + 2 ^ n * value_of b
number_of-next n xs b l =
    let e : length (drop 1 xs) ≡ n = simp length-drop (omega arith) in
    let make : ℕ → ℕ → ℕ → ℕ = λ a k v. a + 2 ^ k * v in
    number_of-append (drop 1 xs) (b ∷ [])
    ∙ (ap (λ a. make a (length (drop 1 xs)) (number_of (b ∷ []))) (number_of-drop_one xs)
    ∙ (ap (λ k. make (number_of xs / 2) k (number_of (b ∷ []))) e
    ∙ ap (make (number_of xs / 2) n) (number_of-one b)))

-- the first bit, and the third one
pub first_bit : (a : Bool) (rest : ℕ) → ((value_of a + 2 * rest) % 2 == 1) ≡ a
first_bit true rest = eq-eqb _ _ (omega arith)
first_bit false rest = ne_eqb _ _ (λ e. omega arith)

pub third_on : (a b : Bool) (rest : ℕ) → (value_of a + 2 * (value_of b + 2 * rest)) / 4 ≡ rest
third_on a b rest = omega (arith, value_of-le a, value_of-le b)

-- 28 bits moved up by seven
pub number_of-next_word : (xs ys : List Bool) → length xs ≡ 28 → length ys ≡ 7
    → number_of (drop 7 xs ++ ys) ≡ number_of xs / 2 ^ 7 + 2 ^ 21 * number_of ys
number_of-next_word xs ys l m =
    let e : length (drop 7 xs) ≡ 21 = simp length-drop (omega arith) in
    number_of-append (drop 7 xs) ys ∙ ap₂ (λ a n. a + 2 ^ n * number_of ys) (number_of-drop 7 xs) e
