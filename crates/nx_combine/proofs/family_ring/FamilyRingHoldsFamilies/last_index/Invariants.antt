use Rattle.std.proofs.Common.{◌≡◌, ◌<◌, ℕ, Some, false}
use Rattle.std.specs.Prelude.{slice_get}
use Rattle.nx_envelope.specs.Identity.{same_identity}
use Rattle.nx_combine.specs.FamilyPlaces.{held_in}
use Rattle.nx_combine.specs.Families.{Family}
use Rattle.nx_combine.proofs.family_ring.FamilyRingHoldsFamilies.last_index.Given as goal

abbrev pub invariant-loop-index : goal.invariant-loop-index
invariant-loop-index l =
    (k : ℕ) (family : Family) → k < l.index
    → slice_get (held_in l.self l.places).families k ≡ Some family
    → same_identity family.identity l.identity ≡ false
