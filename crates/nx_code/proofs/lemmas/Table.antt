-- What holds over the whole table, by one computation each.
use Rattle.std.proofs.Common.{◌≡◌, ℕ, ◌+◌, ◌-◌, ◌<◌, ◌≤◌, refl, sym, ap, ◌∙◌, subst, Bool, true}
use Rattle.std.proofs.Common.{false, ◌||◌, eqb, ltb, Option, Some, None, [], map, get_or, arith}
use Rattle.std.specs.Option.{is_some}
use Rattle.std.proofs.lemmas.Bool.{agree_below_at, eqb-true, ltb-true, ne_eqb}
use Rattle.std.proofs.lemmas.List.{get_or-map}
use Rattle.std.proofs.lemmas.List.Quantifiers.{position-Some}
use native.Mathlib.Bridge.{le_prop}
use Rattle.nx_code.specs.declared.table.Row.{Row}
use Rattle.nx_code.specs.declared.table.TheConstants.{TABLE}
use Rattle.nx_code.specs.declared.signals.Comb.{Comb}
use Rattle.nx_code.specs.declared.signals.Signal.{Signal}
use Rattle.nx_code.specs.declared.signals.Signal.TheVariants.{Traffic, Alpha, Beta, Repeat}
use Rattle.nx_code.specs.Word.{weight, elements, elements_from}
use Rattle.nx_code.specs.Table.{Row as Entry, row, table, cell, words, place_of, row_of}
use Rattle.nx_code.specs.Table.{traffic_word}
use Rattle.nx_code.specs.Signal.{place, number_of_signal}
use Rattle.nx_code.specs.Reading.{character_of}
use Rattle.nx_code.specs.private.Rows.{cell_in, character_in}
use Rattle.nx_code.specs.declared.shifts.Shift.{Shift}
use Rattle.nx_code.specs.declared.shifts.Shift.TheVariants.{Letters, Figures}
use Rattle.std.specs.List.{range_with_len}
use Rattle.std.proofs.lemmas.List.FromFn.{get_or-map-range_with_len}

-- a word has weight four exactly where it is in the table
pub weight-place_of : (word : ℕ) → word < 128 → eqb (weight word) 4 ≡ is_some (place_of word)
unfolding weight elements elements_from table words place_of
weight-place_of word h =
    agree_below_at (λ n. eqb (weight n) 4) (λ n. is_some (place_of n)) 128 word refl h

-- the words of the code's table are those of the table
words-TABLE : map (λ (row : Row). row.word) TABLE ≡ words
unfolding table words
words-TABLE = refl

pub word-TABLE : (at : ℕ) (fallback : Row) → at < 35
    → (get_or TABLE at fallback).word ≡ get_or words at 0
word-TABLE at fallback h =
    sym (get_or-map (λ (r : Row). r.word) TABLE at fallback 0 h)
    ∙ ap (λ l. get_or l at 0) words-TABLE

-- each word of the table has seven elements
pub words-lt : (at : ℕ) → at < 35 → get_or words at 0 < 128
unfolding table words
words-lt at h =
    ltb-true (get_or words at 0) 128
    (agree_below_at (λ k. ltb (get_or words k 0) 128) (λ _. true) 35 at refl h)

-- a word that has a place stands there
pub place_of-Some : (word at : ℕ) → place_of word ≡ Some at → (at < 35) × (get_or words at 0 ≡ word)
unfolding table words place_of
place_of-Some word at h =
    let none : Entry = row 0 [] [] in
    let found = position-Some (λ (r : Entry). eqb r.word word) table at none h in (
      found.0,
      get_or-map (λ (r : Entry). r.word) table at none 0 found.0
          ∙ eqb-true (get_or table at none).word word found.1,
    )

abbrev pub is_at : Option ℕ → ℕ → Bool
is_at None at = false
is_at (Some other) at = eqb other at

pub Some-is_at : (found : Option ℕ) (at : ℕ) → is_at found at ≡ true → found ≡ Some at
Some-is_at None at h = cc
Some-is_at (Some other) at h = ap Some (eqb-true other at h)

-- no word stands in two places
pub place_of-words : (at : ℕ) → at < 35 → place_of (get_or words at 0) ≡ Some at
unfolding table words place_of
place_of-words at h =
    Some-is_at (place_of (get_or words at 0)) at
    (agree_below_at (λ k. is_at (place_of (get_or words k 0)) k) (λ _. true) 35 at refl h)

pub place-lt : (signal : Signal) → place signal < 35
place-lt (Traffic comb) = let h = comb.to_thirty_two in omega arith
place-lt Alpha = omega arith
place-lt Beta = omega arith
place-lt Repeat = omega arith

-- the word of a combination stands one place below its number
traffic_word-place : (number : ℕ) → number < 33
    → (eqb number 0 || eqb (traffic_word number) (get_or words (number - 1) 0)) ≡ true
unfolding table words row_of traffic_word
traffic_word-place number h =
    agree_below_at (λ n. eqb n 0 || eqb (traffic_word n) (get_or words (n - 1) 0)) (λ _. true) 33
    number refl h

pub traffic_word-is : (number : ℕ) → 1 ≤ number → number ≤ 32
    → traffic_word number ≡ get_or words (number - 1) 0
traffic_word-is number low high =
    let zero_not = ne_eqb number 0 (λ e. omega arith) in
    eqb-true (traffic_word number) (get_or words (number - 1) 0)
    (rw zero_not at (traffic_word-place number (omega arith)))

-- combinations of one number are one
pub same_comb : (a b : Comb) → a.number ≡ b.number → a ≡ b
same_comb a b h =
    let P : ℕ → Type 0 = λ n. (low : 1 ≤ n) (high : n ≤ 32)
    → a ≡ record { number = n; from_one = low; to_thirty_two = high } in
    subst P h (λ low high i. record {
      number = a.number;
      from_one = le_prop a.from_one low i;
      to_thirty_two =
          le_prop a.to_thirty_two high i;
    }) b.from_one b.to_thirty_two

-- signals of one place are one
pub same_place : (a b : Signal) → place a ≡ place b → a ≡ b
same_place (Traffic a) (Traffic b) h =
    let low = a.from_one in
    let high = b.from_one in
    ap Traffic (same_comb a b (omega arith))
same_place (Traffic a) Alpha h = let low = a.to_thirty_two in let one = a.from_one in
    absurd (omega arith)
same_place (Traffic a) Beta h = let low = a.to_thirty_two in let one = a.from_one in
    absurd (omega arith)
same_place (Traffic a) Repeat h = let low = a.to_thirty_two in let one = a.from_one in
    absurd (omega arith)
same_place Alpha (Traffic b) h = let low = b.to_thirty_two in let one = b.from_one in
    absurd (omega arith)
same_place Beta (Traffic b) h = let low = b.to_thirty_two in let one = b.from_one in
    absurd (omega arith)
same_place Repeat (Traffic b) h = let low = b.to_thirty_two in let one = b.from_one in
    absurd (omega arith)
same_place Alpha Alpha h = refl
same_place Beta Beta h = refl
same_place Repeat Repeat h = refl
same_place Alpha Beta h = absurd (omega arith)
same_place Alpha Repeat h = absurd (omega arith)
same_place Beta Alpha h = absurd (omega arith)
same_place Beta Repeat h = absurd (omega arith)
same_place Repeat Alpha h = absurd (omega arith)
same_place Repeat Beta h = absurd (omega arith)

-- a signal whose word has a place stands there
pub place-of_word : (signal : Signal) (word at : ℕ) → place_of word ≡ Some at
    → number_of_signal signal ≡ word → place signal ≡ at
place-of_word signal word at found h =
    let e : Some (place signal) ≡ Some at =
    sym (place_of-words (place signal) (place-lt signal)) ∙ ap place_of h ∙ found in
    cc

-- each signal's word has a place
pub not_nowhere : (signal : Signal) (word : ℕ) → number_of_signal signal ≡ word
    → place_of word ≡ None → ⊥
not_nowhere signal word h none =
    let e : Some (place signal) ≡ None =
    sym (place_of-words (place signal) (place-lt signal)) ∙ ap place_of h ∙ none in
    cc

abbrev pub number_of_place : ℕ → ℕ
number_of_place at = get_or words at 0

-- the columns of the code's table are what the combinations print
column-TABLE : (shift : Shift)
    → map (λ (row : Row). character_in row shift) TABLE
    ≡ map (λ k. character_of (k + 1) shift) (range_with_len 0 35)
unfolding table character_of row_of
column-TABLE Letters = refl
column-TABLE Figures = refl

pub character-TABLE : (shift : Shift) (at : ℕ) (fallback : Row) → at < 35
    → character_in (get_or TABLE at fallback) shift ≡ character_of (at + 1) shift
character-TABLE shift at fallback h =
    sym (get_or-map (λ (r : Row). character_in r shift) TABLE at fallback None h)
    ∙ ap (λ l. get_or l at None) (column-TABLE shift)
    ∙ get_or-map-range_with_len (λ k. character_of (k + 1) shift) 0 35 at at None h
    (omega arith)

-- the cells of the code's table are those of the table
cells-TABLE : (shift : Shift) → map (λ (r : Row). cell_in r shift) TABLE ≡ map (cell shift) table
unfolding table
cells-TABLE Letters = refl
cells-TABLE Figures = refl

pub cell-TABLE : (shift : Shift) (at : ℕ) (fallback : Row) → at < 35
    → cell_in (get_or TABLE at fallback) shift ≡ cell shift (get_or table at (row 0x00 [] []))
unfolding table
cell-TABLE shift at fallback h =
    sym (get_or-map (λ (r : Row). cell_in r shift) TABLE at fallback [] h)
    ∙ ap (λ l. get_or l at []) (cells-TABLE shift)
    ∙ get_or-map (cell shift) table at (row 0x00 [] []) [] h
