use Rattle.std.proofs.Common.{◌≡◌, take}
use Rattle.nx_combine.specs.Joining as spec
use Rattle.nx_combine.proofs.joining.join.Given as goal

abbrev pub invariant-loop-index : goal.invariant-loop-index
invariant-loop-index l = l.family.items ≡ spec.joined l.initial.family.items (take l.index l.copy)
