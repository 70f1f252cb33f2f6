-- Which read a byte came by.
use Rattle.std.proofs.Common.{ℕ, ◌+◌, ◌<◌, ◌≤◌, List, [], ◌∷◌, inl, inr, refl, arith}
use Rattle.std.specs.List.{Contains}
use Rattle.std.proofs.lemmas.Bool.{cases_lt}
use Rattle.std.proofs.lemmas.List.Elements.{Contains-append_right}
use Rattle.nx_fec.specs.Transfers.{max_piece}
use Rattle.nx_watch.specs.Stamp.{AreTheReads, Stamp}

pub each-stamped : {D W N : Type 0} (stamps : List (Stamp D W N)) (total place : ℕ)
    → AreTheReads stamps total → place < total
    → (at : Stamp D W N) × Contains stamps at × (at.read ≤ place)
    × (place < at.read + at.gave) × (at.gave ≤ max_piece)
each-stamped [] total place are below = absurd (omega (arith, are, below))
each-stamped (last ∷ before) total place are below = elim (cases_lt place last.read) [
  | inl lt ↦
      let rest = each-stamped before last.read place are.2 lt in
      (rest.0, Contains-append_right (last ∷ []) before rest.0 rest.1, rest.2, rest.3, rest.4)
  | inr le ↦ (last, (0, omega arith, refl), le, omega (arith, are.0, below), are.1)
]
