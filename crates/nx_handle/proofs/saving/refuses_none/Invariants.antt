use Rattle.std.proofs.Common.{◌<◌, ◌≤◌, ℕ}
use Rattle.nx_memory.specs.Selection.{IsRefusable}
use Rattle.nx_handle.specs.Saving.{RefusesLetter}
use Rattle.nx_handle.proofs.saving.refuses_none.Given as goal

-- no letter so far is refused
abbrev pub invariant-loop-byte : goal.invariant-loop-byte
invariant-loop-byte l = record {
  none : (letter : ℕ) → 65 ≤ letter → letter < l.byte → RefusesLetter l.selection letter → ⊥;
  only : 65 < l.byte → IsRefusable l.selection;
}
