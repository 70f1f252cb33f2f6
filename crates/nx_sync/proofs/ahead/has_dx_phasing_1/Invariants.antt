use Rattle.std.proofs.Common.{◌≡◌, ◌*◌, take}
use Rattle.nx_sync.specs.Synchroniser.{has_dx_phasing_1}
use Rattle.nx_sync.proofs.ahead.has_dx_phasing_1.Given as goal

-- whether a DX word of the pairs so far is phasing signal 1
abbrev pub invariant-loop-pair : goal.invariant-loop-pair
invariant-loop-pair l = l.found ≡ has_dx_phasing_1 (take (2 * l.pair) l.words)
