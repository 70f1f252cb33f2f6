-- A text of a state has few lines, and at least one.
use Rattle.std.proofs.Common.{ℕ, ◌+◌, ◌<◌, ◌≤◌, zero, suc, Bool, true, false, cond, List, ◌∷◌}
use Rattle.std.proofs.Common.{length, inl, inr, ap, arith}
use Rattle.std.specs.List.{filter, range_with_len}
use Rattle.std.specs.FinSet as set
use Rattle.std.proofs.lemmas.List.{length-append, length-map}
use Rattle.nx_memory.specs.Saved.{SavedState, SavedStates, IsSavedState, AreSavedStates}
use Rattle.nx_memory.specs.StateText.{BeginsText, IsStateText, last_line, rising, said, section}
use Rattle.nx_memory.specs.StateText.{spelling, text_1, text_2}
use Rattle.nx_memory.proofs.lemmas.StateWriting.{count_lines}

few_picked : (p : ℕ → Bool) (first n : ℕ) → length (filter p (range_with_len first n)) ≤ n
few_picked p first zero = omega arith
few_picked p first (suc n) =
    let few = few_picked p (first + 1) n in
    elim (p first) as (λ b. length
    (cond b (first ∷ filter p (range_with_len (first + 1) n))
    (filter p (range_with_len (first + 1) n))) ≤ suc n) [
      | true ↦ omega (arith, few)
      | false ↦ omega (arith, few)
    ]

pub few_rising : (letters : _) → length (rising letters) ≤ 26
unfolding rising
few_rising letters = few_picked (set.contains letters) 65 26

few_said : (saved : SavedState) → IsSavedState saved → length (said saved) ≤ 252
few_said saved is =
    let stations = few_rising saved.refused.stations in
    let subjects = few_rising saved.refused.subjects in
    let entries = is.entries.content.bounded in
    simp (length-append, length-map) (omega (arith, stations, subjects, entries))

pub few_lines_2 : (states : SavedStates) → AreSavedStates states → length (text_2 states) ≤ 761
few_lines_2 states are =
    omega (
      arith,
      count_lines states,
      few_said states.on_0 are.on_0,
      few_said states.on_1 are.on_1,
      few_said states.on_2 are.on_2,
    )

few_lines_1 : (saved : SavedState) → IsSavedState saved → length (text_1 saved) ≤ 761
few_lines_1 saved is =
    omega (
      arith,
      few_said saved is,
      length-append (section saved) last_line,
      length-map (said saved) spelling,
    )

pub few_lines : (lines : List (List ℕ)) (states : SavedStates) → IsStateText lines states
    → length lines ≤ 761
few_lines lines states is = elim is [
  | inl one ↦ omega (arith, ap length one.spelled, few_lines_1 one.saved one.sound)
  | inr two ↦ omega (arith, ap length two.spelled, few_lines_2 states two.sound)
]

-- so has a beginning of one
pub few_begun : (lines : List (List ℕ)) → BeginsText lines → length lines < 761
few_begun lines begins =
    omega (
      arith,
      few_lines _ begins.states begins.is,
      length-append lines (begins.next ∷ begins.more),
    )

pub some_lines : (lines : List (List ℕ)) (states : SavedStates) → IsStateText lines states
    → 0 < length lines
some_lines lines states is = elim is [
  | inl one ↦ omega (arith, ap length one.spelled)
  | inr two ↦ omega (arith, ap length two.spelled)
]
