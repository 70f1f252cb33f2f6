-- What holds of the characters of the table, by one computation each.
use Rattle.std.proofs.Common.{◌≡◌, ℕ, ◌+◌, ◌-◌, ◌<◌, ◌≤◌, refl, sym, ap, ◌∙◌, subst, Bool, true}
use Rattle.std.proofs.Common.{false, ◌||◌, ◌↔◌, not, eqb, ltb, Option, Some, None, List, [], ◌∷◌}
use Rattle.std.proofs.Common.{inl, inr, get_or, arith}
use Rattle.std.specs.Option.{is_some}
use Rattle.std.specs.List.{position, list_any, list_all}
use Rattle.std.proofs.Math.Bool.{beq}
use Rattle.std.proofs.lemmas.Bool.{agree_below_at, eq-eqb, eqb-true, and_parts, or_cases, ne_eqb}
use Rattle.std.proofs.lemmas.Bool.{false≢true, ltb-true}
use Rattle.std.proofs.lemmas.List.Quantifiers.{position-Some}
use Rattle.nx_code.specs.declared.table.Row.{Row}
use Rattle.nx_code.specs.declared.table.TheConstants.{TABLE}
use Rattle.nx_code.specs.declared.shifts.Shift.{Shift}
use Rattle.nx_code.specs.declared.shifts.Shift.TheVariants.{Letters, Figures}
use Rattle.nx_code.specs.Table.{table, row_of}
use Rattle.nx_code.specs.Reading.{character_of, is_in_code, characters, holds_in}
use Rattle.nx_code.specs.private.Rows.{case_kept, character_in}
use Rattle.nx_code.specs.declared.shifts.Case.{Case}
use Rattle.nx_code.proofs.lemmas.Table.{is_at, Some-is_at, character-TABLE}

-- a test of what is printed, where something is
abbrev pub if_some : (ℕ → Bool) → Option ℕ → Bool
if_some test None = true
if_some test (Some c) = test c

pub if_some-at : (test : ℕ → Bool) (o : Option ℕ) (c : ℕ) → if_some test o ≡ true → o ≡ Some c
    → test c ≡ true
if_some-at test o c h e = subst (λ p. if_some test p ≡ true) e h

-- whether this is printed
abbrev pub is_character : Option ℕ → ℕ → Bool
is_character None character = false
is_character (Some other) character = eqb other character

is_character-Some : (o : Option ℕ) (c : ℕ) → is_character o c ≡ true → o ≡ Some c
is_character-Some None c h = cc
is_character-Some (Some d) c h = ap Some (eqb-true d c h)

-- the place of the first combination that prints a character in a shift
abbrev pub place_for : Shift → ℕ → Option ℕ
place_for shift c = position (λ (row : Row). is_character (character_in row shift) c) TABLE

-- only the 32 combinations print
printed-low : (shift : Shift) (n : ℕ) → n < 36
    → if_some (λ c. ltb n 33) (character_of n shift) ≡ true
unfolding character_of row_of table
printed-low Letters n h =
    agree_below_at (λ k. if_some (λ c. ltb k 33) (character_of k Letters)) (λ _. true) 36 n refl h
printed-low Figures n h =
    agree_below_at (λ k. if_some (λ c. ltb k 33) (character_of k Figures)) (λ _. true) 36 n refl h

-- a character that a combination prints is found at its place
printed-place : (shift : Shift) (n : ℕ) → n < 33
    → if_some (λ c. eqb n 0 || is_at (place_for shift c) (n - 1)) (character_of n shift) ≡ true
unfolding character_of row_of table
printed-place Letters n h =
    agree_below_at (λ k. if_some (λ c. eqb k 0 || is_at (place_for Letters c) (k - 1))
    (character_of k Letters)) (λ _. true) 33 n refl h
printed-place Figures n h =
    agree_below_at (λ k. if_some (λ c. eqb k 0 || is_at (place_for Figures c) (k - 1))
    (character_of k Figures)) (λ _. true) 33 n refl h

-- a character of both shifts has one place
abbrev pub same_if_some : Option ℕ → ℕ → Bool
same_if_some None at = true
same_if_some (Some other) at = eqb other at

printed-both : (n : ℕ) → n < 33
    → if_some (λ c. same_if_some (place_for Figures c) (n - 1)) (character_of n Letters) ≡ true
unfolding character_of row_of table
printed-both n h =
    agree_below_at (λ k. if_some (λ c. same_if_some (place_for Figures c) (k - 1))
    (character_of k Letters)) (λ _. true) 33 n refl h

-- the characters of the code are those that are printed
printed-in_code : (shift : Shift) (n : ℕ) → n < 33
    → if_some is_in_code (character_of n shift) ≡ true
unfolding character_of row_of table is_in_code characters
printed-in_code Letters n h =
    agree_below_at (λ k. if_some is_in_code (character_of k Letters)) (λ _. true) 33 n refl h
printed-in_code Figures n h =
    agree_below_at (λ k. if_some is_in_code (character_of k Figures)) (λ _. true) 33 n refl h

-- what is found in a list of low numbers is low
list_any-lt : (xs : List ℕ) (c : ℕ) → list_all (λ d. ltb d 128) xs ≡ true
    → list_any (λ d. eqb d c) xs ≡ true → c < 128
list_any-lt [] c low h = absurd (false≢true h)
list_any-lt (x ∷ xs) c low h =
    let parts = and_parts (ltb x 128) (list_all (λ d. ltb d 128) xs) low in
    elim (or_cases (eqb x c) (list_any (λ d. eqb d c) xs) h) [
      | inl e ↦ subst (λ n. n < 128) (eqb-true x c e) (ltb-true x 128 parts.0)
      | inr e ↦ list_any-lt xs c parts.1 e
    ]

pub in_code-low : (c : ℕ) → is_in_code c ≡ true → c < 128
unfolding is_in_code characters
in_code-low c h = list_any-lt characters c refl h

in_code-places : (c : ℕ) → c < 128
    → (not (is_in_code c) || (is_some (place_for Letters c) || is_some (place_for Figures c)))
    ≡ true
unfolding is_in_code characters
in_code-places c h =
    agree_below_at (λ k. not (is_in_code k)
    || (is_some (place_for Letters k) || is_some (place_for Figures k))) (λ _. true) 128 c refl
    h

pub place_for-Some : (shift : Shift) (c at : ℕ) → place_for shift c ≡ Some at
    → (at < 32) × (character_of (at + 1) shift ≡ Some c)
place_for-Some shift c at h =
    let row : Row = record { word = 0; letter = None; figure = None; name = None } in
    let found = position-Some (λ (r : Row). is_character (character_in r shift) c) TABLE at row h in
    let prints : character_of (at + 1) shift ≡ Some c =
    sym (character-TABLE shift at row found.0)
    ∙ is_character-Some (character_in (get_or TABLE at row) shift) c found.1 in
    let low = ltb-true (at + 1) 33
    (if_some-at (λ d. ltb (at + 1) 33) _ c (printed-low shift (at + 1) (omega (arith, found.0)))
    prints) in
    (omega (arith, low), prints)

pub place_for-printed : (shift : Shift) (n c : ℕ) → 1 ≤ n → n ≤ 32 → character_of n shift ≡ Some c
    → place_for shift c ≡ Some (n - 1)
place_for-printed shift n c low high h =
    let t = if_some-at (λ d. eqb n 0 || is_at (place_for shift d) (n - 1)) (character_of n shift) c
    (printed-place shift n (omega arith)) h in
    let zero_not : eqb n 0 ≡ false = ne_eqb n 0 (λ e. omega arith) in
    Some-is_at (place_for shift c) (n - 1) (rw zero_not at t)

-- a character that both shifts print has one combination
pub same_place_for : (c at other : ℕ) → place_for Letters c ≡ Some at
    → place_for Figures c ≡ Some other → other ≡ at
same_place_for c at other h k =
    let found = place_for-Some Letters c at h in
    let t = if_some-at (λ d. same_if_some (place_for Figures d) (at + 1 - 1))
    (character_of (at + 1) Letters) c (printed-both (at + 1) (omega (arith, found.0)))
    found.1 in
    let e : other ≡ at + 1 - 1 =
    eqb-true other (at + 1 - 1) (subst (λ o. same_if_some o (at + 1 - 1) ≡ true) k t) in
    omega arith

pub in_code-Some : (shift : Shift) (c at : ℕ) → place_for shift c ≡ Some at → is_in_code c ≡ true
in_code-Some shift c at h =
    let found = place_for-Some shift c at h in
    if_some-at is_in_code (character_of (at + 1) shift) c
    (printed-in_code shift (at + 1) (omega (arith, found.0))) found.1

pub in_code-None : (c : ℕ) → place_for Letters c ≡ None → place_for Figures c ≡ None
    → is_in_code c ≡ true → ⊥
in_code-None c h k e =
    let t = in_code-places c (in_code-low c e) in
    false≢true (sym (rw (e, h, k) refl) ∙ t)

pub in_code-printed : (shift : Shift) (n c : ℕ) → 1 ≤ n → n ≤ 32 → character_of n shift ≡ Some c
    → is_in_code c ≡ true
in_code-printed shift n c low high h =
    in_code-Some shift c (n - 1) (place_for-printed shift n c low high h)

-- what prints a character
pub record Prints (c : ℕ) : Type 0 where
  pub number : ℕ
  pub shift : Shift
  pub from_one : 1 ≤ number
  pub to_thirty_two : number ≤ 32
  pub prints : character_of number shift ≡ Some c

Prints-place : (shift : Shift) (c at : ℕ) → place_for shift c ≡ Some at → Prints c
Prints-place shift c at h =
    let found = place_for-Some shift c at h in
    record {
      number = at + 1;
      shift = shift;
      from_one = omega arith;
      to_thirty_two =
          omega (arith, found.0);
      prints = found.1;
    }

-- each character of the code is printed
pub in_code-prints : (c : ℕ) → is_in_code c ≡ true → Prints c
in_code-prints c h =
    elim (place_for Letters c) as (λ o. place_for Letters c ≡ o → Prints c) [
      | Some at ↦ λ e. Prints-place Letters c at e
      | None ↦ λ e. elim (place_for Figures c) as (λ o. place_for Figures c ≡ o → Prints c) [
        | Some at ↦ λ f. Prints-place Figures c at f
        | None ↦ λ f. absurd (in_code-None c e f h)
      ] refl
    ] refl

-- a character that both shifts print is of one combination
pub both-printed : (n m c : ℕ) → 1 ≤ n → n ≤ 32 → 1 ≤ m → m ≤ 32 → character_of n Letters ≡ Some c
    → character_of m Figures ≡ Some c → m ≡ n
both-printed n m c low high from to h k =
    let e = same_place_for c (n - 1) (m - 1) (place_for-printed Letters n c low high h)
    (place_for-printed Figures m c from to k) in
    omega arith

-- a character is printed in a shift where its case stands there
cases-right : (one shift : Shift) (n : ℕ) → n < 33
    → if_some (λ c. beq (holds_in (case_kept c) shift) (is_character (character_of n shift) c))
    (character_of n one) ≡ true
unfolding character_of row_of table
cases-right Letters Letters n h =
    agree_below_at (λ k. if_some
    (λ c. beq (holds_in (case_kept c) Letters) (is_character (character_of k Letters) c))
    (character_of k Letters)) (λ _. true) 33 n refl h
cases-right Letters Figures n h =
    agree_below_at (λ k. if_some
    (λ c. beq (holds_in (case_kept c) Figures) (is_character (character_of k Figures) c))
    (character_of k Letters)) (λ _. true) 33 n refl h
cases-right Figures Letters n h =
    agree_below_at (λ k. if_some
    (λ c. beq (holds_in (case_kept c) Letters) (is_character (character_of k Letters) c))
    (character_of k Figures)) (λ _. true) 33 n refl h
cases-right Figures Figures n h =
    agree_below_at (λ k. if_some
    (λ c. beq (holds_in (case_kept c) Figures) (is_character (character_of k Figures) c))
    (character_of k Figures)) (λ _. true) 33 n refl h

beq-same : (a b : Bool) → beq a b ≡ true → a ≡ b
beq-same true true h = refl
beq-same true false h = absurd (false≢true h)
beq-same false true h = absurd (false≢true h)
beq-same false false h = refl

Some-is_character : (o : Option ℕ) (c : ℕ) → o ≡ Some c → is_character o c ≡ true
Some-is_character o c h = subst (λ p. is_character p c ≡ true) (sym h) (eq-eqb c c refl)

pub case_kept-right : (n c : ℕ) (one shift : Shift) (case : Case) → case ≡ case_kept c → 1 ≤ n
    → n ≤ 32 → character_of n one ≡ Some c
    → (holds_in case shift ≡ true) ↔ (character_of n shift ≡ Some c)
case_kept-right n c one shift case is low high h =
    let t = if_some-at (λ d. beq (holds_in (case_kept d) shift)
    (is_character (character_of n shift) d)) (character_of n one) c
    (cases-right one shift n (omega arith)) h in
    let same : holds_in (case_kept c) shift ≡ is_character (character_of n shift) c =
    beq-same _ _ t in
    let here : holds_in case shift ≡ is_character (character_of n shift) c =
    ap (λ k. holds_in k shift) is ∙ same in
    (λ yes. is_character-Some _ c (sym here ∙ yes), λ prints. here ∙ Some-is_character _ c prints)
