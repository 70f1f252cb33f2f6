-- Lemmas on numbers and elements written as digits.
use Rattle.std.proofs.Common.{◌≡◌, ℕ, zero, suc, ◌+◌, ◌*◌, ◌/◌, ◌%◌, ◌^◌, ◌<◌, ◌≤◌}
use Rattle.std.proofs.Common.{List, [], ◌∷◌, ◌++◌, length, get_or, take, sym, ap}
use Rattle.std.proofs.Common.{◌∙◌, arith, add-one}
use Rattle.std.specs.Fmt.{decimal}
use Rattle.std.proofs.lemmas.Fmt.{decimal_by_steps, decimal_step, decimal_digit}
use Rattle.std.proofs.lemmas.List.{take_more}
use Rattle.std.proofs.lemmas.Bool.{cases_eq}
use Rattle.std.proofs.Math.Nat.{pow-le-pow_right, pow-suc}
use Rattle.std.proofs.Math.Logic.{⊎_elim}

-- the byte is a digit
abbrev pub IsDigit : ℕ → Type 0
IsDigit byte = (48 ≤ byte) × (byte < 58)

abbrev pub AreDigits : List ℕ → Type 0
AreDigits ds = (i : ℕ) → i < length ds → IsDigit (get_or ds i 0)

AreDigits-one : (n : ℕ) → n < 10 → AreDigits ((48 + n) ∷ [])
AreDigits-one n small zero h = (omega arith, omega arith)
AreDigits-one n small (suc i) h = absurd (omega arith)

AreDigits-push : (ds : List ℕ) (n : ℕ) → n < 10 → AreDigits ds → AreDigits (ds ++ ((48 + n) ∷ []))
AreDigits-push [] n small each i h = AreDigits-one n small i h
AreDigits-push (d ∷ ds) n small each zero h = each zero (omega arith)
AreDigits-push (d ∷ ds) n small each (suc i) h =
    AreDigits-push ds n small (λ k below. each (suc k) (omega arith)) i (omega arith)

-- a number is written in digits
pub decimal-digits : (n : ℕ) → n < 2 ^ 64 → AreDigits (decimal n)
decimal-digits n fits =
    decimal_by_steps (λ _ ds. AreDigits ds) AreDigits-one
    (λ m ds big each. AreDigits-push ds (m % 10) (omega arith) each) n fits

-- one more digit at the end
pub decimal-more : (n d : ℕ) → 0 < n → d < 10 → n < 10 ^ 11
    → decimal (10 * n + d) ≡ decimal n ++ ((48 + d) ∷ [])
decimal-more n d some small fits =
    let front : (10 * n + d) / 10 ≡ n = omega arith in
    let last : (10 * n + d) % 10 ≡ d = omega arith in
    decimal_step (10 * n + d) (omega arith) (omega arith)
    ∙ ap (λ m. decimal m ++ ((48 + (10 * n + d) % 10) ∷ [])) front
    ∙ ap (λ m. decimal n ++ ((48 + m) ∷ [])) last

-- the step of a loop that reads a number from its digits
pub decimal-step : (digits : List ℕ) (at value d : ℕ) → at < length digits → at < 11
    → value < 10 ^ at → d < 10 → get_or digits at 0 ≡ 48 + d
    → (at ≡ 0 → value ≡ 0) → (0 < at → 0 < value) → (0 < at → take at digits ≡ decimal value)
    → take (at + 1) digits ≡ decimal (10 * value + d)
decimal-step digits at value d below few fits digit byte start some same =
    let one : take (at + 1) digits ≡ take at digits ++ (get_or digits at 0 ∷ []) =
    take_more digits at 0 below in
    let here : take (at + 1) digits ≡ take at digits ++ ((48 + d) ∷ []) =
    one ∙ ap (λ x. take at digits ++ (x ∷ [])) byte in
    ⊎_elim (λ zero. here ∙ ap (λ i. take i digits ++ ((48 + d) ∷ [])) zero
    ∙ sym (ap decimal (let v : 10 * value + d ≡ d = omega (arith, start zero) in v)
    ∙ decimal_digit d digit))
    (λ other. let positive : 0 < at = omega arith in
    here ∙ ap (λ x. x ++ ((48 + d) ∷ [])) (same positive)
    ∙ sym (decimal-more value d (some positive) digit
    (let most : 10 ^ at ≤ 10 ^ 11 =
    pow-le-pow_right {n = 10} (omega arith) {i = at} {j = 11} (omega arith) in omega arith)))
    (cases_eq at 0)

pub below-ten-step : (at value d : ℕ) → value < 10 ^ at → d < 10 → 10 * value + d < 10 ^ (at + 1)
below-ten-step at value d fits digit =
    let more : 10 ^ (at + 1) ≡ 10 * 10 ^ at = rw (add-one, pow-suc) (omega arith) in omega arith
