-- How many positions print so many bytes, where more positions come.
use Rattle.std.proofs.Common.{◌≡◌, ℕ, zero, suc, ◌+◌, ◌<◌, ◌≤◌, inl, inr, Bool, true, false}
use Rattle.std.proofs.Common.{List, [], ◌∷◌, ◌++◌, length, take, sym, ap, ◌∙◌, arith}
use Rattle.std.proofs.Common.{length-append, unwrap_or, leb, drop, refl, subst, ◌⊎◌}
use Rattle.std.specs.List.{find, range_with_len}
use Rattle.std.proofs.lemmas.Bool.{cases_lt, le-leb, lt-leb}
use Rattle.std.proofs.lemmas.List.{take-append-drop, take-append-le, take_all}
use Rattle.nx_code.specs.Reading.{Reception, shift_after_all, text}
use Rattle.nx_code.specs.declared.shifts.Shift.TheVariants.{Letters}
use Rattle.nx_code.proofs.lemmas.Reading.{text-append}
use Rattle.nx_combine.specs.CopyPositions.{positions_for}
use Rattle.nx_combine.specs.private.laws.Ends.{find-none, find-some}

-- so many of the numbers, from the first on, don't pass, and the next one does, if there is one
pub record IsFirst (p : ℕ → Bool) (n k : ℕ) : Type 0 where
  pub within : k ≤ n
  pub none : (j : ℕ) → j < k → p j ≡ false
  pub here : k < n → p k ≡ true

abbrev pub first : (ℕ → Bool) → ℕ → ℕ
first p n = unwrap_or (find p (range_with_len 0 n)) n

pub first-is : (p : ℕ → Bool) (n k : ℕ) → IsFirst p n k → first p n ≡ k
first-is p n k is =
    elim (cases_lt k n) [
      | inl more ↦ ap (λ o. unwrap_or o n)
          (find-some p 0 n k (omega arith) (omega (arith, more)) (is.here more)
          (λ j from below. is.none j below))
      | inr all ↦ ap (λ o. unwrap_or o n)
          (find-none p 0 n (λ j from below. is.none j (omega (arith, below, all))))
          ∙ omega (arith, all, is.within)
    ]

record IsFirstFrom (p : ℕ → Bool) (a n k : ℕ) : Type 0 where
  low : a ≤ k
  within : k ≤ a + n
  none : (j : ℕ) → a ≤ j → j < k → p j ≡ false
  here : k < a + n → p k ≡ true

first_from : (p : ℕ → Bool) (a n : ℕ)
    → IsFirstFrom p a n (unwrap_or (find p (range_with_len a n)) (a + n))
first_from p a zero = record {
  low = omega arith;
  within = omega arith;
  none = λ j low below. absurd (omega (arith, low, below));
  here = λ lt. absurd (omega (arith, lt));
}
first_from p a (suc n) = by p a n (p a) refl (first_from p (a + 1) n)
  where
    by : (p : ℕ → Bool) (a n : ℕ) (is : Bool) → p a ≡ is
        → IsFirstFrom p (a + 1) n (unwrap_or (find p (range_with_len (a + 1) n)) (a + 1 + n))
        → IsFirstFrom p a (suc n) (unwrap_or (find p (range_with_len a (suc n))) (a + suc n))
    by p a n true is rest = rw is (record {
      low = omega arith;
      within = omega arith;
      none = λ j low below. absurd (omega (arith, low, below));
      here = λ lt. is;
    })
    by p a n false is rest =
        let e : a + 1 + n ≡ a + suc n = omega arith in
        let k = unwrap_or (find p (range_with_len (a + 1) n)) (a + 1 + n) in
        let same : k ≡ unwrap_or (find p (range_with_len (a + 1) n)) (a + suc n) =
        ap (unwrap_or (find p (range_with_len (a + 1) n))) e in
        rw is (subst (IsFirstFrom p a (suc n)) same (record {
          low = omega (arith, rest.low);
          within = omega (arith, rest.within);
          none = λ j low below. at p a j k rest.none is low below (cases_lt a j);
          here = λ lt. rest.here (omega (arith, lt));
        }))
      where
        at : (p : ℕ → Bool) (a j k : ℕ) → ((j : ℕ) → a + 1 ≤ j → j < k → p j ≡ false)
            → p a ≡ false → a ≤ j → j < k → (a < j) ⊎ (j ≤ a) → p j ≡ false
        at p a j k rest is low below (inl more) = rest j (omega (arith, more)) below
        at p a j k rest is low below (inr same) =
            let e : j ≡ a = omega (arith, low, same) in ap p e ∙ is

pub is-first : (p : ℕ → Bool) (n : ℕ) → IsFirst p n (first p n)
is-first p n =
    let is = first_from p 0 n in
    let e : 0 + n ≡ n = omega arith in
    let at : unwrap_or (find p (range_with_len 0 n)) (0 + n) ≡ first p n =
    ap (unwrap_or (find p (range_with_len 0 n))) e in
    subst (IsFirst p n) at (record {
      within = omega (arith, is.within);
      none = λ j below. is.none j (omega arith) below;
      here = λ lt. is.here (omega (arith, lt));
    })

-- whether the first n of the positions print so many bytes
abbrev pub prints_enough : List Reception → ℕ → ℕ → Bool
prints_enough taken count n = leb count (length (text (take n taken) Letters))

-- more positions print no less
pub text_grows : (xs ys : List Reception)
    → length (text xs Letters) ≤ length (text (xs ++ ys) Letters)
text_grows xs ys =
    omega (
      arith,
      ap length (text-append xs ys Letters),
      length-append (text xs Letters) (text ys (shift_after_all xs Letters)),
    )

-- so do the first of them
pub first_prints : (taken : List Reception) (n : ℕ)
    → length (text (take n taken) Letters) ≤ length (text taken Letters)
first_prints taken n =
    subst (λ l. length (text (take n taken) Letters) ≤ length (text l Letters))
    (take-append-drop n taken) (text_grows (take n taken) (drop n taken))

-- where the positions print so many bytes, more positions leave the fewest that do
pub positions_for-more : (taken more : List Reception) (count : ℕ)
    → count ≤ length (text taken Letters)
    → positions_for (taken ++ more) count ≡ positions_for taken count
unfolding positions_for
positions_for-more taken more count enough =
    let p = prints_enough taken count in
    let q = prints_enough (taken ++ more) count in
    let n = length taken in
    let k = first p n in
    let is = is-first p n in
    let longer = length-append taken more in
    let same : (j : ℕ) → j ≤ n → q j ≡ p j =
    λ j h. ap (λ l. leb count (length (text l Letters))) (take-append-le j taken more h) in
    first-is q (length (taken ++ more)) k (record {
      within = omega (arith, is.within, longer);
      none = λ j below. same j (omega (arith, below, is.within)) ∙ is.none j below;
      here = λ lt. same k is.within ∙ elim (cases_lt k n) [
        | inl some ↦ is.here some
        | inr all ↦
            let e : k ≡ n = omega (arith, all, is.within) in
            ap p e ∙ le-leb count (length (text (take n taken) Letters))
            (subst (λ l. count ≤ length (text l Letters))
            (sym (take_all n taken (omega arith))) enough)
      ];
    })

-- the last position prints the last byte: all of them are wanted for it
pub positions_for-last : (taken : List Reception) (x : Reception) (byte : ℕ)
    → text (taken ++ x ∷ []) Letters ≡ text taken Letters ++ byte ∷ []
    → positions_for (taken ++ x ∷ []) (length (text taken Letters) + 1)
    ≡ length (taken ++ x ∷ [])
unfolding positions_for
positions_for-last taken x byte grows =
    let all : List Reception = taken ++ x ∷ [] in
    let count = length (text taken Letters) + 1 in
    let longer = length-append taken (x ∷ []) in
    first-is (prints_enough all count) (length all) (length all) (record {
      within = omega arith;
      none = λ j below.
          let few : j ≤ length taken = omega (arith, below, longer) in
          let cut = take-append-le j taken (x ∷ []) few in
          let less = first_prints taken j in
          lt-leb count (length (text (take j all) Letters))
          (omega (arith, ap (λ l. length (text l Letters)) cut, less));
      here = λ lt. absurd (omega (arith, lt));
    })
