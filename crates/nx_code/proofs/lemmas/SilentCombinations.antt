-- Which combinations are silent, by one computation over the table.
use Rattle.std.proofs.Common.{◌≡◌, ℕ, ◌<◌, ◌≤◌, ◌⊎◌, ◌↔◌, refl, sym, ap, ◌∙◌, Bool, true, false}
use Rattle.std.proofs.Common.{◌&&◌, ◌||◌, not, eqb, Option, Some, None, [], ◌∷◌, inl, inr, arith}
use Rattle.std.specs.Option.{is_some}
use Rattle.std.specs.List.{list_any}
use Rattle.std.proofs.lemmas.Bool.{agree_below_at, eqb-true, eq-eqb, ne_eqb, and_parts, and_from}
use Rattle.std.proofs.lemmas.Bool.{or_cases, false≢true, not-true, both_ways, or_left, or_right}
use Rattle.nx_code.specs.declared.shifts.Shift.{Shift}
use Rattle.nx_code.specs.declared.shifts.Shift.TheVariants.{Letters, Figures}
use Rattle.nx_code.specs.Table.{table, row_of}
use Rattle.nx_code.specs.Reading.{combination, character_of, shift_set}
use Rattle.nx_code.specs.Spelling.{IsSilent}
use Rattle.nx_code.proofs.lemmas.Spelling.{shift_set-None}

-- a combination is silent, as a test
abbrev is_silent : Shift → ℕ → Bool
is_silent shift n = not (is_some (character_of n shift))
    && (not (eqb n 27) && (not (eqb n 29) && not (eqb n 30)))

abbrev is_figure_shift : Shift → Bool
is_figure_shift Letters = false
is_figure_shift Figures = true

-- it is one of the combinations that the profile names
abbrev is_named : Shift → ℕ → Bool
is_named shift n = eqb n 32
    || (is_figure_shift shift && list_any (λ k. eqb k n) (4 ∷ 6 ∷ 7 ∷ 8 ∷ 10 ∷ []))

named-silent : (shift : Shift) (n : ℕ) → n < 33
    → (eqb n 0 || is_silent shift n) ≡ (eqb n 0 || is_named shift n)
unfolding character_of row_of table
named-silent Letters n h =
    agree_below_at (λ k. eqb k 0 || is_silent Letters k) (λ k. eqb k 0 || is_named Letters k) 33 n
    refl h
named-silent Figures n h =
    agree_below_at (λ k. eqb k 0 || is_silent Figures k) (λ k. eqb k 0 || is_named Figures k) 33 n
    refl h

same_tests : (shift : Shift) (n : ℕ) → 1 ≤ n → n ≤ 32 → is_silent shift n ≡ is_named shift n
same_tests shift n low high =
    let zero_not = ne_eqb n 0 (λ e. omega arith) in
    rw zero_not at (named-silent shift n (omega arith))

not-false_of : (n m : ℕ) → (n ≡ m → ⊥) → not (eqb n m) ≡ true
not-false_of n m h = let e = ne_eqb n m h in rw e refl

not_equal : (n m : ℕ) → not (eqb n m) ≡ true → n ≡ m → ⊥
not_equal n m h e = both_ways (eqb n m) (not-true (eqb n m) h) (eq-eqb n m e)

none_of : (o : Option ℕ) → not (is_some o) ≡ true → o ≡ None
none_of None h = refl
none_of (Some c) h = absurd (false≢true h)

silent-test : (shift : Shift) (n : ℕ) → IsSilent shift n → is_silent shift n ≡ true
silent-test shift n h =
    let none = h.prints_nothing in
    let no_letters : n ≡ 29 → ⊥ = λ e. let clash : Some Letters ≡ None =
    sym (ap (λ k. shift_set (combination k)) e) ∙ h.sets_no_shift in cc in
    let no_figures : n ≡ 30 → ⊥ = λ e. let clash : Some Figures ≡ None =
    sym (ap (λ k. shift_set (combination k)) e) ∙ h.sets_no_shift in cc in
    and_from _ _ (rw none refl)
    (and_from _ _ (not-false_of n 27 h.no_return)
    (and_from _ _ (not-false_of n 29 no_letters) (not-false_of n 30 no_figures)))

test-silent : (shift : Shift) (n : ℕ) → is_silent shift n ≡ true → IsSilent shift n
test-silent shift n h =
    let a = and_parts (not (is_some (character_of n shift))) _ h in
    let b = and_parts (not (eqb n 27)) _ a.1 in
    let c = and_parts (not (eqb n 29)) _ b.1 in
    record {
      prints_nothing = none_of (character_of n shift) a.0;
      sets_no_shift = shift_set-None n (not_equal n 29 c.0) (not_equal n 30 c.1);
      no_return = not_equal n 27 b.0;
    }

figures : (shift : Shift) → is_figure_shift shift ≡ true → shift ≡ Figures
figures Letters h = absurd (false≢true h)
figures Figures h = refl

pub silent_named : (shift : Shift) (n : ℕ) → 1 ≤ n → n ≤ 32
    → IsSilent shift n ↔ ((n ≡ 32)
    ⊎ ((shift ≡ Figures) × (list_any (λ k. eqb k n) (4 ∷ 6 ∷ 7 ∷ 8 ∷ 10 ∷ []) ≡ true)))
silent_named shift n low high = (
  λ h.
      let named = sym (same_tests shift n low high) ∙ silent-test shift n h in
      elim (or_cases (eqb n 32)
      (is_figure_shift shift && list_any (λ k. eqb k n) (4 ∷ 6 ∷ 7 ∷ 8 ∷ 10 ∷ [])) named) [
        | inl e ↦ inl (eqb-true n 32 e)
        | inr e ↦ let parts = and_parts (is_figure_shift shift) _ e in
            inr (figures shift parts.0, parts.1)
      ],
  λ h. test-silent shift n (same_tests shift n low high ∙ elim h [
    | inl e ↦ or_left (eqb n 32) _ (eq-eqb n 32 e)
    | inr e ↦ let f = ap is_figure_shift e.0 in or_right (eqb n 32) _ (and_from _ _ f e.1)
  ]),
)
