-- A text of characters of the code has one spelling, and no other text has any.
use Rattle.std.proofs.Common.{◌≡◌, ◌≢◌, ℕ, ◌+◌, ◌-◌, ◌<◌, ◌≤◌, zero, suc, true, cond, ◌||◌, not}
use Rattle.std.proofs.Common.{eqb, List, [], ◌∷◌, ◌++◌, length, map, Option, Some, None, inl, inr}
use Rattle.std.proofs.Common.{refl, sym, ap, ◌∙◌, subst, arith}
use Rattle.std.specs.Option.{is_some, option_to_list}
use Rattle.std.specs.List.{list_all}
use Rattle.std.proofs.lemmas.Bool.{and_parts, and_from, or_cases, eqb-true, eq-eqb, ne_eqb}
use Rattle.std.proofs.lemmas.Bool.{cases_eq, false≢true, both_ways, not-true}
use Rattle.nx_code.specs.Reading.{combination, character_of, shift_set, shift_after}
use Rattle.nx_code.specs.Reading.{shift_after_all, text, is_in_code}
use Rattle.nx_code.specs.Spelling.{other, IsOnlyIn, Fits, EachFits, Spells}
use Rattle.nx_code.specs.declared.shifts.Shift.{Shift}
use Rattle.nx_code.specs.declared.shifts.Shift.TheVariants.{Letters, Figures}
use Rattle.nx_code.proofs.lemmas.Character.{in_code-prints, in_code-printed, if_some-at, place_for}
use Rattle.nx_code.proofs.lemmas.Character.{place_for-Some, place_for-printed, both-printed}
use Rattle.nx_code.proofs.lemmas.Spelling.{first_of, Spells-nil, Spells-append, spells_newline}
use Rattle.nx_code.proofs.lemmas.Spelling.{spells_here, spells_there, differs-other, other-other}
use Rattle.nx_code.proofs.lemmas.Spelling.{number_of_shift, shift_set-number, after_shift}
use Rattle.nx_code.proofs.lemmas.Spelling.{printed-line_feed, printed-return, printed-shift}
use Rattle.nx_code.proofs.lemmas.Spelling.{printed-newline, shift_set-None}

-- ---- each text of the code has a spelling

piece-exists : (shift : Shift) (c : ℕ) → is_in_code c ≡ true
    → (numbers : List ℕ) × Spells (c ∷ []) shift numbers
piece-exists shift c h =
    elim (cases_eq c 10) [
      | inl e ↦ (
        27 ∷ 28 ∷ [],
        subst (λ n. Spells (n ∷ []) shift (27 ∷ 28 ∷ [])) (sym e)
            (spells_newline shift),
      )
      | inr no_newline ↦ elim (place_for shift c) as (λ o. place_for shift c ≡ o
          → (numbers : List ℕ) × Spells (c ∷ []) shift numbers) [
            | Some at ↦ λ e.
                let found = place_for-Some shift c at e in (
                  (at + 1) ∷ [],
                  spells_here shift (at + 1) c (omega arith) (omega (arith, found.0))
                      found.1 no_newline,
                )
            | None ↦ λ e.
                let p = in_code-prints c h in
                let elsewhere : character_of p.number shift ≢ Some c =
                λ f. let clash : Some (p.number - 1) ≡ None =
                sym (place_for-printed shift p.number c p.from_one p.to_thirty_two f) ∙ e in cc in
                let differs : p.shift ≢ shift =
                λ f. elsewhere (ap (character_of p.number) (sym f) ∙ p.prints) in (
                  number_of_shift p.shift ∷ p.number
                      ∷ [],
                  spells_there p.shift shift (number_of_shift p.shift) p.number c
                      (differs-other p.shift shift differs) (shift_set-number p.shift) p.from_one
                      p.to_thirty_two p.prints elsewhere no_newline,
                )
          ] refl
    ]

pub spelling-exists : (bytes : List ℕ) (shift : Shift) → list_all is_in_code bytes ≡ true
    → (numbers : List ℕ) × Spells bytes shift numbers
spelling-exists [] shift h = ([], Spells-nil shift)
spelling-exists (c ∷ bytes) shift h =
    let parts = and_parts (is_in_code c) (list_all is_in_code bytes) h in
    let piece = piece-exists shift c parts.0 in
    let rest = spelling-exists bytes (shift_after_all (map combination piece.0) shift) parts.1 in
    (piece.0 ++ rest.0, Spells-append (c ∷ []) bytes shift piece.0 rest.0 piece.1 rest.1)

-- ---- what is spelled is of the code

in_code-prints_all : (shift : Shift) (numbers : List ℕ) → EachFits shift numbers
    → list_all is_in_code (text (map combination numbers) shift) ≡ true
in_code-prints_all shift [] h = refl
in_code-prints_all shift (n ∷ numbers) h =
    let rest = in_code-prints_all (shift_after (combination n) shift) numbers h.1 in
    elim (character_of n shift) as (λ o. character_of n shift ≡ o
    → list_all is_in_code (option_to_list o
    ++ text (map combination numbers) (shift_after (combination n) shift)) ≡ true) [
      | Some c ↦ λ e. and_from _ _ (in_code-printed shift n c h.0.from_one h.0.to_thirty_two e) rest
      | None ↦ λ e. rest
    ] refl

pub spelled-in_code : (bytes : List ℕ) (shift : Shift) (numbers : List ℕ)
    → Spells bytes shift numbers → list_all is_in_code bytes ≡ true
spelled-in_code bytes shift numbers h =
    subst (λ l. list_all is_in_code l ≡ true) h.reads (in_code-prints_all shift numbers h.fits)

-- ---- and no other

some_of : (o : Option ℕ) → is_some o ≡ true → (c : ℕ) × (o ≡ Some c)
some_of None h = absurd (false≢true h)
some_of (Some c) h = (c, refl)

-- what stands at a place with a character in a shift: here, else in the other shift
abbrev here : Option ℕ → List ℕ → List ℕ
here None numbers = numbers
here (Some at) numbers = (at + 1) ∷ []

abbrev away : Shift → Option ℕ → List ℕ
away shift None = []
away shift (Some at) = number_of_shift shift ∷ (at + 1) ∷ []

-- the one spelling of a character
abbrev piece_for : Shift → ℕ → List ℕ
piece_for shift c = cond (eqb c 10) (27 ∷ 28 ∷ [])
    (here (place_for shift c) (away (other shift) (place_for (other shift) c)))

-- a spelling begins with the one spelling of its first character
record Step (shift : Shift) (numbers : List ℕ) : Type 0 where
  pub c : ℕ
  pub rest : List ℕ
  pub whole : numbers ≡ piece_for shift c ++ rest
  pub reads : text (map combination numbers) shift
      ≡ c ∷ text (map combination rest)
      (shift_after_all (map combination (piece_for shift c)) shift)
  pub fits : EachFits (shift_after_all (map combination (piece_for shift c)) shift) rest
  pub begins : first_of rest ≢ Some 28
  pub shorter : length rest < length numbers

-- the same, for a piece that is shown to be the one
Step-of : (shift : Shift) (numbers : List ℕ) (c : ℕ) (piece rest : List ℕ)
    → piece ≡ piece_for shift c → numbers ≡ piece ++ rest
    → text (map combination numbers) shift
    ≡ c ∷ text (map combination rest) (shift_after_all (map combination piece) shift)
    → EachFits (shift_after_all (map combination piece) shift) rest → first_of rest ≢ Some 28
    → length rest < length numbers → Step shift numbers
Step-of shift numbers c piece rest is whole reads fits begins shorter = record {
  c = c;
  rest = rest;
  whole = whole ∙ ap (λ l. l ++ rest) is;
  reads = reads ∙ ap (λ l. c
      ∷ text (map combination rest) (shift_after_all (map combination l) shift)) is;
  fits = subst (λ l. EachFits (shift_after_all (map combination l) shift) rest) is fits;
  begins = begins;
  shorter = shorter;
}

piece_for-newline : (shift : Shift) → 27 ∷ 28 ∷ [] ≡ piece_for shift 10
piece_for-newline shift = refl

piece_for-here : (shift : Shift) (n c : ℕ) → 1 ≤ n → n ≤ 32 → character_of n shift ≡ Some c → c ≢ 10
    → n ∷ [] ≡ piece_for shift c
piece_for-here shift n c low high h no_newline =
    let newline = ne_eqb c 10 no_newline in
    let place = place_for-printed shift n c low high h in
    let e : n - 1 + 1 ≡ n = omega arith in
    sym (rw (newline, place, e) refl)

-- one combination prints a character in both shifts
both_shifts : (s shift : Shift) (n m c : ℕ) → s ≡ other shift → 1 ≤ n → n ≤ 32 → 1 ≤ m → m ≤ 32
    → character_of n s ≡ Some c → character_of m shift ≡ Some c → m ≡ n
both_shifts s Letters n m c differs low high from to h k =
    sym (both-printed m n c from to low high k (ap (character_of n) (sym differs) ∙ h))
both_shifts s Figures n m c differs low high from to h k =
    both-printed n m c low high from to (ap (character_of n) (sym differs) ∙ h) k

piece_for-there : (s shift : Shift) (n c : ℕ) → s ≡ other shift → 1 ≤ n → n ≤ 32
    → character_of n s ≡ Some c → character_of n shift ≢ Some c → c ≢ 10
    → number_of_shift s ∷ n ∷ [] ≡ piece_for shift c
piece_for-there s shift n c differs low high h elsewhere no_newline =
    let newline = ne_eqb c 10 no_newline in
    let nowhere : place_for shift c ≡ None =
    elim (place_for shift c) as (λ o. place_for shift c ≡ o → o ≡ None) [
      | None ↦ λ e. refl
      | Some at ↦ λ e.
          let found = place_for-Some shift c at e in
          let same = both_shifts s shift n (at + 1) c differs low high (omega arith)
          (omega (arith, found.0)) h found.1 in
          absurd (elsewhere (ap (λ k. character_of k shift) (sym same) ∙ found.1))
    ] refl in
    let place = place_for-printed s n c low high h in
    let e : n - 1 + 1 ≡ n = omega arith in
    let there : place_for (other shift) c ≡ Some (n - 1) =
    ap (λ t. place_for t c) (sym differs) ∙ place in
    sym (rw (newline, nowhere, there, e) (ap (λ t. number_of_shift t ∷ n ∷ []) (sym differs)))

-- what fits, and is neither carriage return nor shift, prints
prints-some : (shift : Shift) (n : ℕ) (rest : List ℕ) → Fits shift n rest → n ≢ 27 → n ≢ 29 → n ≢ 30
    → (c : ℕ) × (character_of n shift ≡ Some c)
prints-some shift n rest h no_return no_letters no_figures =
    elim (character_of n shift) as (λ o. character_of n shift ≡ o → (c : ℕ) × (o ≡ Some c)) [
      | Some c ↦ λ e. (c, refl)
      | None ↦ λ e. absurd (h.not_silent
          (record {
            prints_nothing = e;
            sets_no_shift =
                shift_set-None n no_letters no_figures;
            no_return = no_return;
          }))
    ] refl

-- only the line feed prints a newline
newline-line_feed : (shift : Shift) (n c : ℕ) → n ≤ 32 → character_of n shift ≡ Some c → n ≢ 28
    → c ≢ 10
newline-line_feed shift n c high h no_line e =
    let t = if_some-at (λ d. not (eqb d 10) || eqb n 28) (character_of n shift) c
    (printed-newline shift n (omega arith)) h in
    elim (or_cases (not (eqb c 10)) (eqb n 28) t) [
      | inl f ↦ both_ways (eqb c 10) (not-true (eqb c 10) f) (eq-eqb c 10 e)
      | inr f ↦ no_line (eqb-true n 28 f)
    ]

Step-here : (shift : Shift) (n : ℕ) (rest : List ℕ) → Fits shift n rest
    → EachFits (shift_after (combination n) shift) rest → n ≢ 28 → n ≢ 27 → n ≢ 29 → n ≢ 30
    → Step shift (n ∷ rest)
Step-here shift n rest h each no_line no_return a b =
    let p = prints-some shift n rest h no_return a b in
    let c = p.0 in
    let no_newline = newline-line_feed shift n c h.to_thirty_two p.1 no_line in
    let prints = p.1 in
    Step-of shift (n ∷ rest) c (n ∷ []) rest
    (piece_for-here shift n c h.from_one h.to_thirty_two prints no_newline) refl
    (rw prints refl) each (λ e. no_return (h.carriage_return.1 e)) (omega arith)

Step-at : (s shift : Shift) (m c : ℕ) (rest : List ℕ) → s ≡ other shift → character_of m s ≡ Some c
    → character_of m shift ≢ Some c → Fits s m rest → EachFits (shift_after (combination m) s) rest
    → Step shift (number_of_shift s ∷ (m ∷ rest))
Step-at s shift m c rest away_from prints elsewhere h each =
    let no_line : m ≢ 28 = λ e. elsewhere
    (ap (λ k. character_of k shift) e ∙ printed-line_feed shift
    ∙ sym (ap (λ k. character_of k s) e ∙ printed-line_feed s) ∙ prints) in
    let no_newline = newline-line_feed s m c h.to_thirty_two prints no_line in
    let no_return : m ≢ 27 = λ e. let clash : Some c ≡ None =
    sym prints ∙ ap (λ k. character_of k s) e ∙ printed-return s in cc in
    Step-of shift (number_of_shift s ∷ (m ∷ rest)) c (number_of_shift s ∷ m ∷ []) rest
    (piece_for-there s shift m c away_from h.from_one h.to_thirty_two prints elsewhere
    no_newline) refl
    (rw (printed-shift s shift, after_shift s shift, prints) refl) (rw (after_shift s shift) each)
    (λ e. no_return (h.carriage_return.1 e)) (omega arith)

-- what prints alike in a shift and in the other prints alike in letters and in figures
printed_alike : (s : Shift) (m : ℕ) → character_of m (other s) ≡ character_of m s
    → character_of m Letters ≡ character_of m Figures
printed_alike Letters m e = sym e
printed_alike Figures m e = e

Step-there : (s shift : Shift) (n m : ℕ) (rest : List ℕ) → n ≡ number_of_shift s → s ≢ shift
    → IsOnlyIn s m → Fits s m rest → EachFits (shift_after (combination m) s) rest
    → Step shift (n ∷ (m ∷ rest))
Step-there s shift n m rest is differs only h each =
    let p = some_of (character_of m s) only.0 in
    let away_from = differs-other s shift differs in
    let back : other s ≡ shift = ap other away_from ∙ other-other shift in
    let elsewhere : character_of m shift ≢ Some p.0 =
    λ e. only.1 (printed_alike s m (ap (character_of m) back ∙ e ∙ sym p.1)) in
    subst (λ k. Step shift (k ∷ (m ∷ rest))) (sym is)
    (Step-at s shift m p.0 rest away_from p.1 elsewhere h each)

-- a shift stands before one more combination
Step-shift : (s shift : Shift) (n : ℕ) (rest : List ℕ) → n ≡ number_of_shift s → Fits shift n rest
    → EachFits s rest → Step shift (n ∷ rest)
Step-shift s shift n [] is h each =
    absurd (h.needed s (ap (λ k. shift_set (combination k)) is ∙ shift_set-number s)).1
Step-shift s shift n (m ∷ rest) is h each =
    let needed = h.needed s (ap (λ k. shift_set (combination k)) is ∙ shift_set-number s) in
    Step-there s shift n m rest is needed.0 needed.1 each.0 each.1

after_number : (s shift : Shift) (n : ℕ) → n ≡ number_of_shift s
    → shift_after (combination n) shift ≡ s
after_number s shift n is = ap (λ k. shift_after (combination k) shift) is ∙ after_shift s shift

Step-return : (shift : Shift) (n : ℕ) (rest : List ℕ) → n ≡ 27 → Fits shift n rest
    → EachFits shift rest → Step shift (n ∷ rest)
Step-return shift n [] is h each = let clash = h.carriage_return.0 is in cc
Step-return shift n (m ∷ rest) is h each =
    let line : m ≡ 28 = let e = h.carriage_return.0 is in cc in
    let not_again : first_of rest ≢ Some 28 = λ e. let f = each.0.carriage_return.1 e in
    omega arith in
    let later : EachFits shift rest =
    subst (λ k. EachFits (shift_after (combination k) shift) rest) line each.1 in
    let here : Step shift (27 ∷ (28 ∷ rest)) =
    Step-of shift (27 ∷ (28 ∷ rest)) 10 (27 ∷ 28 ∷ []) rest (piece_for-newline shift) refl
    (rw (printed-return shift, printed-line_feed shift) refl) later not_again (omega arith) in
    subst (λ k. Step shift (k ∷ (m ∷ rest))) (sym is)
    (subst (λ k. Step shift (27 ∷ (k ∷ rest))) (sym line) here)

step : (shift : Shift) (n : ℕ) (rest : List ℕ) → EachFits shift (n ∷ rest)
    → first_of (n ∷ rest) ≢ Some 28 → Step shift (n ∷ rest)
step shift n rest h begins =
    elim (cases_eq n 27) [
      | inl is ↦ Step-return shift n rest is h.0
          (subst (λ k. EachFits (shift_after (combination k) shift) rest) is h.1)
      | inr no_return ↦ elim (cases_eq n 29) [
        | inl is ↦ Step-shift Letters shift n rest is h.0
            (subst (λ s. EachFits s rest) (after_number Letters shift n is) h.1)
        | inr no_letters ↦ elim (cases_eq n 30) [
          | inl is ↦ Step-shift Figures shift n rest is h.0
              (subst (λ s. EachFits s rest) (after_number Figures shift n is) h.1)
          | inr no_figures ↦ Step-here shift n rest h.0 h.1 (λ e. begins (ap Some e)) no_return
              no_letters no_figures
        ]
      ]
    ]

one_upto : (size : ℕ) (shift : Shift) (xs ys : List ℕ) → length xs < size → EachFits shift xs
    → EachFits shift ys → first_of xs ≢ Some 28 → first_of ys ≢ Some 28
    → text (map combination xs) shift ≡ text (map combination ys) shift → xs ≡ ys
one_upto zero shift xs ys small h k b d e = absurd (omega arith)
one_upto (suc size) shift [] [] small h k b d e = refl
one_upto (suc size) shift [] (y ∷ ys) small h k b d e = let t = step shift y ys k d in let clash =
    e ∙ t.reads in cc
one_upto (suc size) shift (x ∷ xs) [] small h k b d e = let s = step shift x xs h b in let clash =
    sym e ∙ s.reads in cc
one_upto (suc size) shift (x ∷ xs) (y ∷ ys) small h k b d e =
    let s = step shift x xs h b in
    let t = step shift y ys k d in
    let both = sym s.reads ∙ e ∙ t.reads in
    let same : s.c ≡ t.c = cc in
    let rests : text (map combination s.rest)
    (shift_after_all (map combination (piece_for shift s.c)) shift)
    ≡ text (map combination t.rest)
    (shift_after_all (map combination (piece_for shift t.c)) shift) = cc in
    let again = λ (c : ℕ). shift_after_all (map combination (piece_for shift c)) shift in
    let fits : EachFits (again s.c) t.rest =
    subst (λ c. EachFits (again c) t.rest) (sym same) t.fits in
    let reads : text (map combination s.rest) (again s.c)
    ≡ text (map combination t.rest) (again s.c) =
    rests ∙ ap (λ c. text (map combination t.rest) (again c)) (sym same) in
    let shorter = s.shorter in
    let later = one_upto size (again s.c) s.rest t.rest (omega arith) s.fits fits s.begins t.begins
    reads in
    s.whole ∙ ap (λ l. piece_for shift s.c ++ l) later ∙ ap (λ c. piece_for shift c ++ t.rest) same
    ∙ sym t.whole

-- a text has one spelling from a shift
pub spelling-one : (bytes : List ℕ) (shift : Shift) (one two : List ℕ) → Spells bytes shift one
    → Spells bytes shift two → one ≡ two
spelling-one bytes shift one two h k =
    one_upto (length one + 1) shift one two (omega arith) h.fits k.fits h.begins k.begins
    (h.reads ∙ sym k.reads)
