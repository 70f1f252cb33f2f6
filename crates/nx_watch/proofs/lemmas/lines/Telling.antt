-- What is told of lines without effect.
use Rattle.std.proofs.Common.{◌≡◌, ℕ, ◌+◌, ◌≤◌, ◌<◌, ◌==◌, true, false, [], ◌++◌}
use Rattle.std.proofs.Common.{Bool, cond, sym, ap, ap₂}
use Rattle.std.proofs.Common.{arith}
use Rattle.std.specs.Prelude.{decimal, codes}
use Rattle.std.proofs.lemmas.Bool.Decides.{nat_tests}
use Rattle.nx_watch.specs.LinesTold.{number_told}

-- ---- the number of lines without effect

number-by : (count : ℕ) (none one : Bool) → (count == 0) ≡ none → (count == 1) ≡ one
    → number_told count ≡ cond none [] (codes "navtex: " ++ (decimal count
    ++ cond one (codes " line had no effect\n") (codes " lines had no effect\n")))
number-by count none one is_none is_one =
    ap₂ (λ (a b : Bool). cond a [] (codes "navtex: " ++ (decimal count
    ++ cond b (codes " line had no effect\n") (codes " lines had no effect\n")))) is_none is_one

pub number-one : (count : ℕ) → count ≡ 1
    → number_told count ≡ codes "navtex: " ++ (decimal count ++ codes " line had no effect\n")
number-one count is =
    number-by count false true (ap (λ (n : ℕ). n == 0) is) (ap (λ (n : ℕ). n == 1) is)

pub number-many : (count : ℕ) → 1 < count
    → number_told count ≡ codes "navtex: " ++ (decimal count ++ codes " lines had no effect\n")
number-many count many = number-by count false false (not-so 0 (omega arith)) (not-so 1 many)
  where
    not-so : (n : ℕ) → n < count → (count == n) ≡ false
    not-so n h = grind (arith, nat_tests)

pub number-none : (count : ℕ) → count ≤ 0 → [] ≡ number_told count
number-none count h = let zero : count ≡ 0 = omega arith in ap number_told (sym zero)
