-- The lines of the text of a state by their places.
use Rattle.std.proofs.Common.{◌≡◌, ℕ, ◌+◌, ◌≤◌, zero, suc, List, [], ◌∷◌, ◌++◌, length, map, codes}
use Rattle.std.proofs.Common.{slice_get, Some, None, inl, inr, sym, ap, ◌∙◌, arith}
use Rattle.std.specs.Option.{option_map}
use Rattle.std.proofs.lemmas.List.{length-append, length-map}
use Rattle.std.proofs.lemmas.Option.{none-some, slice_get-map, slice_get_cases}
use Rattle.nx_memory.specs.declared.state.saved_line.SavedLine.{SavedLine}
use Rattle.nx_memory.specs.Saved.{SavedStates}
use Rattle.nx_memory.specs.StateText.{spelling, said, section, last_line, text_2}

-- in the second of two lists
pub at_back : {X : Type 0} (xs ys : List X) (place behind : ℕ) → place ≡ length xs + behind
    → slice_get (xs ++ ys) place ≡ slice_get ys behind
at_back [] ys place behind e = let here : place ≡ behind = omega arith in ap (slice_get ys) here
at_back (x ∷ xs) ys zero behind e = absurd (omega arith)
at_back (x ∷ xs) ys (suc place) behind e = at_back xs ys place behind (omega arith)

pub at_next : {X : Type 0} (x : X) (xs : List X) (place before : ℕ) → place ≡ before + 1
    → slice_get (x ∷ xs) place ≡ slice_get xs before
at_next x xs place before e = at_back (x ∷ []) xs place before (omega arith)

-- a line of a channel, and none
pub at_line : (head : List ℕ) (xs : List SavedLine) (place before : ℕ) (it : SavedLine)
    (line : List ℕ) → place ≡ before + 1 → Some it ≡ slice_get xs before → line ≡ spelling it
    → slice_get (head ∷ map spelling xs) place ≡ Some line
at_line head xs place before it line next there spelled =
    at_next head (map spelling xs) place before next ∙ slice_get-map spelling xs before
    ∙ ap (option_map spelling) (sym there) ∙ ap (λ (l : List ℕ). Some l) (sym spelled)

pub past_lines : (xs : List SavedLine) (before : ℕ) → None ≡ slice_get xs before
    → length xs ≤ before
past_lines xs before none = elim (slice_get_cases xs before).1 [
  | inl p ↦ absurd (none-some p.0 (none ∙ p.2))
  | inr p ↦ p.0
]

-- how many lines a text has
pub count_lines : (states : SavedStates)
    → length (text_2 states) ≡ 5 + (length
    (said states.on_0) + (length (said states.on_1) + length (said states.on_2)))
count_lines states =
    omega (
      arith,
      length-append (section states.on_0)
          (codes "C1" ∷ (section states.on_1 ++ codes "C2" ∷ (section states.on_2 ++ last_line))),
      length-append (section states.on_1) (codes "C2" ∷ (section states.on_2 ++ last_line)),
      length-append (section states.on_2) last_line,
      length-map (said states.on_0) spelling,
      length-map (said states.on_1) spelling,
      length-map (said states.on_2) spelling,
    )
