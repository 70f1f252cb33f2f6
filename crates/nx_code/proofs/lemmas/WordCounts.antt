-- How many of a run of words have the wrong weight.
use Rattle.std.proofs.Common.{◌≡◌, ℕ, zero, suc, ◌+◌, ◌<◌, ◌≤◌, if◌then◌else◌, Bool, true, false}
use Rattle.std.proofs.Common.{refl, ap, ◌∙◌, arith}
use Rattle.nx_code.specs.Word.{is_wrong, wrong_in}

abbrev pub one_if : Bool → ℕ
one_if b = if b then 1 else 0

-- a run of words in two parts
pub wrong_in-add : (f : ℕ → ℕ) (i a b : ℕ)
    → wrong_in f i (a + b) ≡ wrong_in f i a + wrong_in f (i + a) b
unfolding wrong_in
wrong_in-add f i a zero = let e : a + 0 ≡ a = omega arith in ap (wrong_in f i) e ∙ omega arith
wrong_in-add f i a (suc b) =
    let e : a + suc b ≡ suc (a + b) = omega arith in
    let g : i + (a + b) ≡ i + a + b = omega arith in
    let w : one_if (is_wrong (f (i + (a + b)))) ≡ one_if (is_wrong (f (i + a + b))) =
    ap (λ j. one_if (is_wrong (f j))) g in
    ap (wrong_in f i) e ∙ omega (arith, wrong_in-add f i a b, w)

-- all wrong
pub wrong_in-all : (f : ℕ → ℕ) (i n : ℕ) → ((j : ℕ) → j < n → is_wrong (f (i + j)) ≡ true)
    → wrong_in f i n ≡ n
unfolding wrong_in
wrong_in-all f i zero all = refl
wrong_in-all f i (suc n) all =
    let w : one_if (is_wrong (f (i + n))) ≡ 1 = ap one_if (all n (omega arith)) in
    omega (arith, wrong_in-all f i n (λ j h. all j (omega arith)), w)

-- none wrong
pub wrong_in-none : (f : ℕ → ℕ) (i n : ℕ) → ((j : ℕ) → j < n → is_wrong (f (i + j)) ≡ false)
    → wrong_in f i n ≡ 0
unfolding wrong_in
wrong_in-none f i zero all = refl
wrong_in-none f i (suc n) all =
    let w : one_if (is_wrong (f (i + n))) ≡ 0 = ap one_if (all n (omega arith)) in
    omega (arith, wrong_in-none f i n (λ j h. all j (omega arith)), w)

pub one_if-le : (b : Bool) → one_if b ≤ 1
one_if-le true = omega arith
one_if-le false = omega arith

-- no more than there are
pub wrong_in-le : (f : ℕ → ℕ) (i n : ℕ) → wrong_in f i n ≤ n
unfolding wrong_in
wrong_in-le f i zero = omega arith
wrong_in-le f i (suc n) = omega (arith, wrong_in-le f i n, one_if-le (is_wrong (f (i + n))))

-- words that are the same count the same
pub wrong_in-same : (words others : ℕ → ℕ) (i k n : ℕ)
    → ((j : ℕ) → j < n → words (i + j) ≡ others (k + j)) → wrong_in words i n ≡ wrong_in others k n
unfolding wrong_in
wrong_in-same words others i k zero h = refl
wrong_in-same words others i k (suc n) h =
    omega (
      arith,
      wrong_in-same words others i k n (λ j lt. h j (omega arith)),
      ap (λ w. one_if (is_wrong w)) (h n (omega arith)),
    )
