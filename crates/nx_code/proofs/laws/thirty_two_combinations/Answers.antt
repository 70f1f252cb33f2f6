use Rattle.std.proofs.Common.{◌≡◌, ◌≢◌, ℕ, zero, suc, ◌<◌, ◌≤◌, None, [], inl, inr, refl, sym, ap}
use Rattle.std.proofs.Common.{◌∙◌, true, length, take, arith}
use Rattle.std.specs.Option.{is_some, option_map_or}
use Rattle.std.proofs.lemmas.Bool.{cases_lt, false≢true, ne_eqb}
use Rattle.std.proofs.lemmas.Option.{slice_get-get_or, slice_get_past}
use Rattle.nx_code.specs.Table.{row, table, row_of, traffic_word}
use Rattle.nx_code.specs.Reading.{character_of}
use Rattle.nx_code.proofs.lemmas.Table.{traffic_word-is}
use Rattle.nx_code.proofs.laws.thirty_two_combinations.Goals as goal

length-combinations : length (take 32 table) ≡ 32
unfolding table
length-combinations = refl

has_row : (number : ℕ) → 1 ≤ number → number ≤ 32 → is_some (row_of number) ≡ true
unfolding row_of
has_row zero low high = absurd (omega arith)
has_row (suc place) low high =
    let inside : place < length (take 32 table) = rw length-combinations (omega arith) in
    ap is_some (slice_get-get_or (take 32 table) place (row 0x00 [] []) inside)

no_row : (place : ℕ) → 32 ≤ place → row_of (suc place) ≡ None
unfolding row_of
no_row place h = slice_get_past (take 32 table) place (rw length-combinations h)

row_inside : (number : ℕ) → is_some (row_of number) ≡ true → (1 ≤ number) × (number ≤ 32)
unfolding row_of
row_inside zero h = absurd (false≢true h)
row_inside (suc place) h =
    elim (cases_lt place 32) [
      | inl below ↦ (omega arith, omega arith)
      | inr above ↦ absurd (false≢true (sym (ap is_some (no_row place above)) ∙ h))
    ]

-- a combination without a row is none of those that have one
not_of : (number other : ℕ) → 1 ≤ other → other ≤ 32 → row_of number ≡ None → number ≢ other
not_of number other low high none e =
    false≢true (sym (ap is_some none) ∙ ap (λ n. is_some (row_of n)) e ∙ has_row other low high)

pub returns-clause-rows : goal.returns-clause-rows
returns-clause-rows c number = (row_inside number, λ h. has_row number h.0 h.1)

pub returns-clause-words : goal.returns-clause-words
returns-clause-words c comb = traffic_word-is comb.number comb.from_one comb.to_thirty_two

pub returns-clause-no_word : goal.returns-clause-no_word
unfolding traffic_word
returns-clause-no_word c number none = ap (λ o. option_map_or (λ row. row.word) o 128) none

pub returns-clause-no_character : goal.returns-clause-no_character
unfolding character_of
returns-clause-no_character c number shift none =
    let no_newline = ne_eqb number 28 (not_of number 28 (omega arith) (omega arith) none) in
    let no_space = ne_eqb number 31 (not_of number 31 (omega arith) (omega arith) none) in
    rw (no_newline, no_space, none) refl
