-- The letters of a set in rising order.
use Rattle.std.proofs.Common.{◌≡◌, ℕ, ◌+◌, ◌<◌, ◌≤◌, zero, suc, Bool, true, false, ◌||◌, cond, List}
use Rattle.std.proofs.Common.{[], ◌∷◌, ◌++◌, eqb, ltb, inl, inr, refl, ap, ◌∙◌, arith}
use Rattle.std.specs.List.{AllByRecursion, filter, range_with_len}
use Rattle.std.specs.Ordering.{nat_cmp}
use Rattle.std.specs.FinSet as finite
use Rattle.std.proofs.lemmas.Bool.{and_parts, cases_eq, eq-eqb, ne_eqb, ltb-true}
use Rattle.nx_memory.specs.StateText.{rising}
use Rattle.nx_memory.specs.private.StateReading.{is_behind}
use Rattle.nx_memory.proofs.lemmas.Letters.{contains-insert}

-- each of a list is less than the next ones
abbrev pub IsRising : List ℕ → Type 0
IsRising [] = Unit {0}
IsRising (x ∷ xs) = AllByRecursion (λ y. x < y) xs × IsRising xs

module _ (p : ℕ → Bool) where
  -- what is picked of a range is not below it, nor past its end
  picked_above : (first n low : ℕ) → low < first
      → AllByRecursion (λ y. low < y) (filter p (range_with_len first n))
  picked_above first zero low below = tt
  picked_above first (suc n) low below =
      let rest = picked_above (first + 1) n low (omega arith) in
      elim (p first) as (λ b. AllByRecursion (λ y. low < y)
      (cond b (first ∷ filter p (range_with_len (first + 1) n))
      (filter p (range_with_len (first + 1) n)))) [
        | true ↦ (below, rest)
        | false ↦ rest
      ]

  picked_below : (first n high : ℕ) → first + n ≤ high
      → AllByRecursion (λ y. y < high) (filter p (range_with_len first n))
  picked_below first zero high within = tt
  picked_below first (suc n) high within =
      let rest = picked_below (first + 1) n high (omega arith) in
      elim (p first) as (λ b. AllByRecursion (λ y. y < high)
      (cond b (first ∷ filter p (range_with_len (first + 1) n))
      (filter p (range_with_len (first + 1) n)))) [
        | true ↦ (omega arith, rest)
        | false ↦ rest
      ]

  picked_passes : (xs : List ℕ) → AllByRecursion (λ y. p y ≡ true) (filter p xs)
  picked_passes [] = tt
  picked_passes (x ∷ xs) = elim (p x) as (λ b. p x ≡ b
      → AllByRecursion (λ y. p y ≡ true) (cond b (x ∷ filter p xs) (filter p xs))) [
        | true ↦ λ passes. (passes, picked_passes xs)
        | false ↦ λ _. picked_passes xs
      ] refl

  picked_rising : (first n : ℕ) → IsRising (filter p (range_with_len first n))
  picked_rising first zero = tt
  picked_rising first (suc n) =
      let rest = picked_rising (first + 1) n in
      elim (p first) as (λ b. IsRising
      (cond b (first ∷ filter p (range_with_len (first + 1) n))
      (filter p (range_with_len (first + 1) n)))) [
        | true ↦ (picked_above (first + 1) n first (omega arith), rest)
        | false ↦ rest
      ]

  picked_none : (xs : List ℕ) → ((q : ℕ) → p q ≡ false) → filter p xs ≡ []
  picked_none [] none = refl
  picked_none (x ∷ xs) none =
      ap (λ b. cond b (x ∷ filter p xs) (filter p xs)) (none x) ∙ picked_none xs none

-- a test that differs at x alone, and x is not in the range
picked_same : (p r : ℕ → Bool) (x : ℕ) → ((q : ℕ) → r q ≡ (eqb q x || p q)) → (first n : ℕ)
    → x < first → filter r (range_with_len first n) ≡ filter p (range_with_len first n)
picked_same p r x more first zero above = refl
picked_same p r x more first (suc n) above =
    let here : r first ≡ p first =
    more first ∙ ap (λ b. b || p first) (ne_eqb first x (λ e. omega arith)) in
    ap (λ b. cond b (first ∷ filter r (range_with_len (first + 1) n))
    (filter r (range_with_len (first + 1) n))) here
    ∙ ap (λ (rest : List ℕ). cond (p first) (first ∷ rest) rest)
    (picked_same p r x more (first + 1) n (omega arith))

-- x is behind all of these, and all of these are above it: there are none
none_between : (xs : List ℕ) (x : ℕ) → AllByRecursion (λ y. x < y) xs → is_behind x xs ≡ true
    → xs ≡ []
none_between [] x above behind = refl
none_between (y ∷ ys) x above behind =
    let below : y < x = ltb-true y x (and_parts (ltb y x) (is_behind x ys) behind).0 in
    absurd (omega (arith, above.0))

-- the greatest letter comes last
picked_push : (p r : ℕ → Bool) (x : ℕ) → ((q : ℕ) → r q ≡ (eqb q x || p q)) → (first n : ℕ)
    → first ≤ x → x < first + n → is_behind x (filter p (range_with_len first n)) ≡ true
    → filter r (range_with_len first n) ≡ filter p (range_with_len first n) ++ x ∷ []
picked_push p r x more first zero low high behind = absurd (omega arith)
picked_push p r x more first (suc n) low high behind =
    let rest : List ℕ = filter p (range_with_len (first + 1) n) in
    elim (cases_eq first x) [
      | inl here ↦
          let passes : r first ≡ true = more first ∙ ap (λ b. b || p first) (eq-eqb first x here) in
          let others : filter r (range_with_len (first + 1) n) ≡ rest =
          picked_same p r x more (first + 1) n (omega arith) in
          let above : AllByRecursion (λ y. x < y) rest =
          picked_above p (first + 1) n x (omega arith) in
          ap (λ b. cond b (first ∷ filter r (range_with_len (first + 1) n))
          (filter r (range_with_len (first + 1) n))) passes
          ∙ ap (λ (l : List ℕ). first ∷ l) others
          ∙ (elim (p first) as (λ b. is_behind x (cond b (first ∷ rest) rest) ≡ true
          → first ∷ rest ≡ cond b (first ∷ rest) rest ++ x ∷ []) [
            | true ↦ λ all. let below : first < x =
                ltb-true first x (and_parts (ltb first x) (is_behind x rest) all).0 in
                absurd (omega arith)
            | false ↦ λ all. let none : rest ≡ [] = none_between rest x above all in
                rw (none, here) refl
          ] behind)
      | inr other ↦
          let same : r first ≡ p first =
          more first ∙ ap (λ b. b || p first) (ne_eqb first x other) in
          ap (λ b. cond b (first ∷ filter r (range_with_len (first + 1) n))
          (filter r (range_with_len (first + 1) n))) same
          ∙ (elim (p first) as (λ b. is_behind x (cond b (first ∷ rest) rest) ≡ true
          → cond b (first ∷ filter r (range_with_len (first + 1) n))
          (filter r (range_with_len (first + 1) n)) ≡ cond b (first ∷ rest) rest ++ x ∷ []) [
            | true ↦ λ all. ap (λ (l : List ℕ). first ∷ l)
                (picked_push p r x more (first + 1) n (omega arith) (omega arith)
                (and_parts (ltb first x) (is_behind x rest) all).1)
            | false ↦ λ all. picked_push p r x more (first + 1) n (omega arith) (omega arith) all
          ] behind)
    ]

-- the letters of a set: they rise, are letters, and are in the set
pub rising-rises : (letters : finite.FinSet nat_cmp) → IsRising (rising letters)
unfolding rising
rising-rises letters = picked_rising (finite.contains letters) 65 26

pub rising-from_a : (letters : finite.FinSet nat_cmp)
    → AllByRecursion (λ y. 64 < y) (rising letters)
unfolding rising
rising-from_a letters = picked_above (finite.contains letters) 65 26 64 (omega arith)

pub rising-to_z : (letters : finite.FinSet nat_cmp) → AllByRecursion (λ y. y < 91) (rising letters)
unfolding rising
rising-to_z letters = picked_below (finite.contains letters) 65 26 91 (omega arith)

pub rising-contains : (letters : finite.FinSet nat_cmp)
    → AllByRecursion (λ y. finite.contains letters y ≡ true) (rising letters)
unfolding rising
rising-contains letters = picked_passes (finite.contains letters) (range_with_len 65 26)

pub rising-empty : rising finite.empty ≡ []
unfolding rising
rising-empty = picked_none (finite.contains finite.empty) (range_with_len 65 26)
    (λ q. finite.contains-empty nat_cmp q)

-- one more letter, behind all
pub rising-push : (letters : finite.FinSet nat_cmp) (x : ℕ) → 65 ≤ x → x ≤ 90
    → is_behind x (rising letters) ≡ true
    → rising (finite.insert letters x) ≡ rising letters ++ x ∷ []
unfolding rising
rising-push letters x low high behind =
    picked_push (finite.contains letters) (finite.contains (finite.insert letters x)) x
    (λ q. contains-insert letters x q) 65 26 (omega arith) (omega arith) behind
