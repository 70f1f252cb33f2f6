-- Beginnings and ends of lists.
use Rattle.std.proofs.Common.{◌≡◌, ℕ, zero, suc, ◌+◌, ◌<◌, ◌≤◌, Bool, List, [], ◌∷◌, ◌++◌, length, take, refl, sym, ◌∙◌, ap, arith, count_by}
use Rattle.std.specs.Prelude.{Result, Ok, Err, OnErr}
use Rattle.std.proofs.lemmas.List.Sums.{sum_by-append}

-- of two beginnings of one list the longer one begins with the shorter one
pub beginning : (a b x y : List ℕ) → a ++ x ≡ b ++ y → length a ≤ length b → (m : List ℕ)
    × (b ≡ a ++ m) × (x ≡ m ++ y)
beginning [] b x y same le = (b, refl, same)
beginning (h ∷ a) [] x y same le = absurd (omega arith)
beginning (h ∷ a) (k ∷ b) x y same le =
    let heads : h ≡ k = cc in
    let tails : a ++ x ≡ b ++ y = cc in
    let rest = beginning a b x y tails (omega arith) in (
      rest.0,
      ap (λ (l : List ℕ). k ∷ l) rest.1 ∙ ap (λ (x : ℕ). x ∷ (a ++ rest.0)) (sym heads),
      rest.2,
    )

pub take_past : (xs ys : List ℕ) (n : ℕ) → take (length xs + n) (xs ++ ys) ≡ xs ++ take n ys
take_past [] ys n = let same : 0 + n ≡ n = omega arith in ap (λ (k : ℕ). take k ys) same
take_past (x ∷ xs) ys n =
    let same : suc (length xs) + n ≡ suc (length xs + n) = omega arith in
    ap (λ (k : ℕ). take k (x ∷ (xs ++ ys))) same ∙ ap (λ (l : List ℕ). x ∷ l) (take_past xs ys n)

-- a beginning that is shorter than was asked for is all
pub take_short : (n : ℕ) (xs : List ℕ) → length (take n xs) < n → take n xs ≡ xs
take_short zero xs lt = absurd (omega arith)
take_short (suc n) [] lt = refl
take_short (suc n) (x ∷ xs) lt = ap (λ (l : List ℕ). x ∷ l) (take_short n xs (omega arith))

pub count_by-append : (p : ℕ → Bool) (xs ys : List ℕ)
    → count_by p (xs ++ ys) ≡ count_by p xs + count_by p ys
count_by-append p xs ys = sum_by-append _ xs ys

-- what holds anyway holds of an answer that is a fault
pub on_err : {A E P : Type 0} (answer : Result A E) → P → OnErr answer P
on_err (Ok value) holds = tt
on_err (Err fault) holds = holds
