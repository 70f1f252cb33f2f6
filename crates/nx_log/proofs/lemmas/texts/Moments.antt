-- The parts of a civil time, by the places of its digits.
use Rattle.std.proofs.Common.{◌≡◌, ℕ, ◌+◌, ◌/◌, ◌%◌, ◌≤◌, List, ◌∷◌, ◌++◌, get_or, drop, ap, pos, arith, sym, ◌∙◌}
use Rattle.std.proofs.Common.{Option, Some}
use Rattle.jiff_core.proofs.SignedLemmas.{signed_arith}
use Rattle.nx_envelope.specs.Moment.{IsShownAs}

pub some_same : (m n : ℕ) → ◌≡◌ {A = Option ℕ} (Some m) (Some n) → m ≡ n
some_same m n e = cc

pub year_small : (moment : ℕ) (text : List ℕ) → (s : IsShownAs moment text) → s.year ≤ 9999
year_small moment text s = let y = s.date.0 in omega (arith, signed_arith)

pub months_small : (moment : ℕ) (text : List ℕ) → (s : IsShownAs moment text)
    → (s.month ≤ 12) × (s.day ≤ 31)
months_small moment text s =
    let month = s.date.1 in let day = s.date.2 in
    (omega arith, grind arith)

-- civil times of the same bytes: what they show, and what stands behind them
pub record SameTime (m n : ℕ) (u v : List ℕ) : Type 0 where
  pub moment : m ≡ n
  pub rest : u ≡ v

-- the nineteen bytes of a civil time, and what stands behind them
abbrev pub time_and : (year month day moment : ℕ) → List ℕ → List ℕ
time_and year month day moment more =
    (48 + year / 100 / 10) ∷ (48 + year / 100 % 10) ∷ (48 + year % 100 / 10)
    ∷ (48 + year % 100 % 10)
    ∷ 45 ∷ (48 + month / 10) ∷ (48 + month % 10) ∷ 45 ∷ (48 + day / 10) ∷ (48 + day % 10)
    ∷ 32 ∷ (48 + moment % 86400 / 3600 / 10) ∷ (48 + moment % 86400 / 3600 % 10)
    ∷ 58 ∷ (48 + moment % 3600 / 60 / 10) ∷ (48 + moment % 3600 / 60 % 10)
    ∷ 58 ∷ (48 + moment % 60 / 10) ∷ (48 + moment % 60 % 10) ∷ more

pub time_on : (m : ℕ) (c u : List ℕ) → (s : IsShownAs m c)
    → c ++ u ≡ time_and s.year s.month s.day m u
time_on m c u s = ap (λ l. l ++ u) s.is_text

pub same_number : (a b : ℕ) → 48 + a / 10 ≡ 48 + b / 10 → 48 + a % 10 ≡ 48 + b % 10 → a ≡ b
same_number a b e f = omega arith

pub same_time : (m n : ℕ) (c d u v : List ℕ) → IsShownAs m c → IsShownAs n d → c ++ u ≡ d ++ v
    → SameTime m n u v
same_time m n c d u v s o e =
    let f = sym (time_on m c u s) ∙ e ∙ time_on n d v o in
    let century : s.year / 100 ≡ o.year / 100 =
    same_number _ _ (ap (λ l. get_or l 0 0) f) (ap (λ l. get_or l 1 0) f) in
    let in_century : s.year % 100 ≡ o.year % 100 =
    same_number _ _ (ap (λ l. get_or l 2 0) f) (ap (λ l. get_or l 3 0) f) in
    let year : s.year ≡ o.year = omega arith in
    let month : s.month ≡ o.month =
    same_number _ _ (ap (λ l. get_or l 5 0) f) (ap (λ l. get_or l 6 0) f) in
    let day : s.day ≡ o.day =
    same_number _ _ (ap (λ l. get_or l 8 0) f) (ap (λ l. get_or l 9 0) f) in
    let hour : m % 86400 / 3600 ≡ n % 86400 / 3600 =
    same_number _ _ (ap (λ l. get_or l 11 0) f) (ap (λ l. get_or l 12 0) f) in
    let minute : m % 3600 / 60 ≡ n % 3600 / 60 =
    same_number _ _ (ap (λ l. get_or l 14 0) f) (ap (λ l. get_or l 15 0) f) in
    let second : m % 60 ≡ n % 60 =
    same_number _ _ (ap (λ l. get_or l 17 0) f) (ap (λ l. get_or l 18 0) f) in
    let days : pos (m / 86400) ≡ pos (n / 86400) =
    sym s.is_day ∙ rw (year, month, day) o.is_day in
    record { moment = omega (arith, signed_arith, days); rest = ap (drop 19) f }
