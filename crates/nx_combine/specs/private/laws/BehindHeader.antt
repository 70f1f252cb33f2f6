-- What stands behind a header in a text: the text of the positions behind it, read from figures.
use Rattle.std.proofs.Common.{◌≡◌, ℕ, zero, suc, ◌+◌, ◌<◌, ◌≤◌, ◌%◌, ◌/◌, ◌||◌, not, Bool, true}
use Rattle.std.proofs.Common.{false, Option, Some, None, List, [], ◌∷◌, ◌++◌, length, take, drop}
use Rattle.std.proofs.Common.{refl, sym, ap, ◌∙◌, subst, arith, inl, inr, append-nil}
use Rattle.std.proofs.Common.{length-append, replicate, ltb, get_or}
use Rattle.std.specs.Option.{option_to_list}
use Rattle.std.specs.Prelude.{◌==◌}
use Rattle.std.proofs.lemmas.Bool.{agree_below_at, cases_lt, leb-true, le-leb, ne_eqb}
use Rattle.std.proofs.lemmas.List.{take-append-drop, take_all}
use Rattle.std.proofs.lemmas.List.{length-take}
use Rattle.std.proofs.lemmas.Option.{slice_get_past}
use Rattle.std.proofs.Math.Seq.{drop-append_seam, take-suc, take-append_seam}
use Rattle.nx_code.specs.Reading.{Reception, byte_of, character_of, combination, idle, lost}
use Rattle.nx_code.specs.Reading.{shift_after, shift_after_all, space, text}
use Rattle.nx_code.specs.Table.{row_of, table, line_feed, space_combination}
use Rattle.nx_code.specs.declared.shifts.Shift.{Shift}
use Rattle.nx_code.specs.declared.shifts.Shift.TheVariants.{Letters, Figures}
use Rattle.nx_code.proofs.lemmas.Reading.{shift_after_all-append, text-append, text-push}
use Rattle.nx_envelope.specs.Header.{EndsWithHeader, Header, StandsIn, start_marker}
use Rattle.nx_envelope.specs.Copies.{less_newline, raw_text}
use Rattle.nx_envelope.specs.declared.identity.Identity.{Identity}
use Rattle.nx_combine.specs.CopyPositions.{behind_header, positions_for}
use Rattle.nx_combine.specs.PositionEnds.{raw_text_of}
use Rattle.nx_combine.specs.private.laws.AfterHeader.{long_enough}
use Rattle.nx_combine.specs.private.laws.PositionsFor.{is-first, prints_enough}

-- A digit is printed in figures, and leaves them.

abbrev is_digit : ℕ → Bool
is_digit c = not (ltb c 48 || ltb 57 c)

abbrev is_figures : Shift → Bool
is_figures Letters = false
is_figures Figures = true

abbrev if_some : (ℕ → Bool) → Option ℕ → Bool
if_some test None = true
if_some test (Some c) = test c

if_some-at : (test : ℕ → Bool) (o : Option ℕ) (c : ℕ) → if_some test o ≡ true → o ≡ Some c
    → test c ≡ true
if_some-at test o c h e = subst (λ p. if_some test p ≡ true) e h

-- whether a character of this number leaves figures, where it is a digit
abbrev leaves_figures : ℕ → Shift → Bool
leaves_figures n shift =
    if_some (λ c. not (is_digit c) || is_figures (shift_after (combination n) shift))
    (character_of n shift)

digits-leave : (shift : Shift) (n : ℕ) → n < 36 → leaves_figures n shift ≡ true
unfolding character_of row_of table
digits-leave Letters n h =
    agree_below_at (λ k. leaves_figures k Letters) (λ _. true) 36 n refl h
digits-leave Figures n h =
    agree_below_at (λ k. leaves_figures k Figures) (λ _. true) 36 n refl h

no_row : (n : ℕ) → 36 ≤ n → row_of n ≡ None
unfolding row_of table
no_row zero h = absurd (omega (arith, h))
no_row (suc n) h = slice_get_past (take 32 table) n (omega (arith, h))

not_equal : (n m : ℕ) → m < n → (n == m) ≡ false
not_equal n m h = ne_eqb n m (λ is. omega (arith, is, h))

none_printed : (n : ℕ) (shift : Shift) → 36 ≤ n → character_of n shift ≡ None
unfolding character_of
none_printed n shift h =
    let one : (n == line_feed) ≡ false = not_equal n line_feed (omega (arith, h)) in
    let two : (n == space_combination) ≡ false = not_equal n space_combination (omega (arith, h)) in
    rw (one, two, no_row n h) refl

left_figures : (n : ℕ) (shift : Shift) (c : ℕ) → character_of n shift ≡ Some c
    → is_digit c ≡ true → is_figures (shift_after (combination n) shift) ≡ true
left_figures n shift c prints digit =
    elim (cases_lt n 36) [
      | inl low ↦
          let t = if_some-at
          (λ c. not (is_digit c) || is_figures (shift_after (combination n) shift))
          (character_of n shift) c (digits-leave shift n low) prints in
          rw digit at t
      | inr high ↦
          absurd (let both : None ≡ Some c = sym (none_printed n shift high) ∙ prints in cc)
    ]

digit_left : (x : Reception) (shift : Shift) (c : ℕ) → byte_of x shift ≡ Some c
    → is_digit c ≡ true → is_figures (shift_after x shift) ≡ true
digit_left (combination n) shift c prints digit = left_figures n shift c prints digit
digit_left idle shift c prints digit = absurd (cc)
digit_left lost shift c prints digit =
    let same : ◌≡◌ {A = Option ℕ} (Some 42) (Some c) = prints in
    let is : 42 ≡ c = cc in
    absurd (let contra : false ≡ true = ap is_digit is ∙ digit in cc)

figures_is : (shift : Shift) → is_figures shift ≡ true → shift ≡ Figures
figures_is Letters h = cc
figures_is Figures h = refl

-- the last of some bytes
abbrev last_of : ℕ → List ℕ → ℕ
last_of d [] = d
last_of d (x ∷ xs) = last_of x xs

last-append : (d : ℕ) (xs : List ℕ) (y : ℕ) (ys : List ℕ)
    → last_of d (xs ++ y ∷ ys) ≡ last_of y ys
last-append d [] y ys = refl
last-append d (x ∷ xs) y ys = last-append x xs y ys

-- the last byte of a header is a digit
header-digit : (text : List ℕ) (identity : Identity) → EndsWithHeader text identity
    → last_of 0 text ≡ 48 + identity.number % 10
header-digit bytes i h =
    let spaces : List ℕ = replicate (h.more_spaces + 1) space in
    ap (last_of 0) h.spelled
    ∙ last-append 0 (h.front ++ start_marker ++ spaces) i.b1.byte
    (i.b2.byte ∷ (48 + i.number / 10) ∷ (48 + i.number % 10) ∷ [])

digit-is : (n : ℕ) → n < 10 → is_digit (48 + n) ≡ true
digit-is n h = agree_below_at (λ k. is_digit (48 + k)) (λ _. true) 10 n refl h

-- The fewest positions that print the header leave figures, and print it and no more.
module _ (taken : List Reception) (header : Header)
    (there : StandsIn (text taken Letters) header) where
  abbrev pub all : List ℕ
  all = text taken Letters

  abbrev pub count : ℕ
  count = positions_for taken header.behind

  enough : header.behind ≤ length (text (take count taken) Letters)
  unfolding positions_for
  enough =
      let p = prints_enough taken header.behind in
      let is = is-first p (length taken) in
      elim (cases_lt count (length taken)) [
        | inl some ↦
            leb-true header.behind (length (text (take count taken) Letters)) (is.here some)
        | inr whole ↦
            subst (λ l. header.behind ≤ length (text l Letters))
            (sym (take_all count taken whole)) there.within
      ]

  not_before : (j : ℕ) → j < count → length (text (take j taken) Letters) < header.behind
  unfolding positions_for
  not_before j h =
      let p = prints_enough taken header.behind in
      let is = is-first p (length taken) in
      elim (cases_lt (length (text (take j taken) Letters)) header.behind) [
        | inl less ↦ less
        | inr more ↦
            absurd (let contra : true ≡ false =
            sym (le-leb header.behind (length (text (take j taken) Letters)) more)
            ∙ is.none j h in cc)
      ]

  pub within : count ≤ length taken
  unfolding positions_for
  within = (is-first (prints_enough taken header.behind) (length taken)).within

  nine : 9 ≤ header.behind
  nine =
      let long = long_enough (take header.behind all) header.identity there.spelled in
      let cut = length-take header.behind all in
      omega (arith, long, cut)

  -- the last of these positions prints the digit
  record IsDigitAt : Type 0 where
    shift : shift_after_all (take count taken) Letters ≡ Figures
    long : length (text (take count taken) Letters) ≡ header.behind

  by_last : (j : ℕ) (x : Reception) → count ≡ suc j
      → take (suc j) taken ≡ take j taken ++ x ∷ []
      → (o : Option ℕ) → byte_of x (shift_after_all (take j taken) Letters) ≡ o → IsDigitAt
  by_last j x is cut None printed =
      let s = shift_after_all (take j taken) Letters in
      let same : text (take count taken) Letters ≡ text (take j taken) Letters =
      ap (λ n. text (take n taken) Letters) is ∙ ap (λ l. text l Letters) cut
      ∙ text-push (take j taken) x Letters
      ∙ ap (λ o. text (take j taken) Letters ++ option_to_list o) printed
      ∙ append-nil (text (take j taken) Letters) in
      let less = not_before j (omega (arith, is)) in
      let more = enough in
      absurd (omega (arith, ap length same, less, more))
  by_last j x is cut (Some byte) printed =
      let s = shift_after_all (take j taken) Letters in
      let before : List ℕ = text (take j taken) Letters in
      let same : text (take count taken) Letters ≡ before ++ byte ∷ [] =
      ap (λ n. text (take n taken) Letters) is ∙ ap (λ l. text l Letters) cut
      ∙ text-push (take j taken) x Letters
      ∙ ap (λ o. before ++ option_to_list o) printed in
      let longer = length-append before (byte ∷ []) in
      let less = not_before j (omega (arith, is)) in
      let more = enough in
      let long : length (text (take count taken) Letters) ≡ header.behind =
      omega (arith, ap length same, longer, less, more) in
      let parts : all ≡ text (take count taken) Letters
      ++ text (drop count taken) (shift_after_all (take count taken) Letters) =
      ap (λ l. text l Letters) (sym (take-append-drop count taken))
      ∙ text-append (take count taken) (drop count taken) Letters in
      let first_part : take header.behind all ≡ before ++ byte ∷ [] =
      ap (take header.behind) parts
      ∙ ap (λ n. take n (text (take count taken) Letters
      ++ text (drop count taken) (shift_after_all (take count taken) Letters))) (sym long)
      ∙ take-append_seam (text (take count taken) Letters)
      (text (drop count taken) (shift_after_all (take count taken) Letters)) ∙ same in
      let digit : byte ≡ 48 + header.identity.number % 10 =
      sym (last-append 0 before byte []) ∙ ap (last_of 0) (sym first_part)
      ∙ header-digit (take header.behind all) header.identity there.spelled in
      let is_one : is_digit byte ≡ true =
      ap is_digit digit ∙ digit-is (header.identity.number % 10) (omega arith) in
      record {
        shift = ap (λ n. shift_after_all (take n taken) Letters) is
            ∙ ap (λ l. shift_after_all l Letters) cut
            ∙ shift_after_all-append (take j taken) (x ∷ []) Letters
            ∙ figures_is (shift_after x s) (digit_left x s byte printed is_one);
        long = long;
      }

  digit_at : IsDigitAt
  digit_at = by count refl
    where
      by : (n : ℕ) → count ≡ n → IsDigitAt
      by zero is =
          let none : length (text (take count taken) Letters) ≡ 0 =
          ap (λ n. length (text (take n taken) Letters)) is in
          let more = enough in
          let some = nine in
          absurd (omega (arith, none, more, some))
      by (suc j) is =
          let inside : j < length taken = omega (arith, is, within) in
          let x : Reception = get_or taken j lost in
          by_last j x is (take-suc taken j lost inside)
          (byte_of x (shift_after_all (take j taken) Letters)) refl

  -- so the text behind the header is that of the positions behind it
  pub text-behind : text (behind_header taken header) Figures ≡ drop header.behind all
  text-behind =
      let at = digit_at in
      let front : List ℕ = text (take count taken) Letters in
      let parts : all ≡ front ++ text (drop count taken) Figures =
      ap (λ l. text l Letters) (sym (take-append-drop count taken))
      ∙ text-append (take count taken) (drop count taken) Letters
      ∙ ap (λ s. front ++ text (drop count taken) s) at.shift in
      sym (ap (drop header.behind) parts
      ∙ ap (λ n. drop n (front ++ text (drop count taken) Figures)) (sym at.long)
      ∙ drop-append_seam front (text (drop count taken) Figures))

  pub raw-behind_header : raw_text_of (behind_header taken header) ≡ raw_text all header
  unfolding raw_text_of raw_text
  raw-behind_header = ap less_newline text-behind
