use Rattle.std.proofs.Common.{◌-◌, ◌≤◌, length}
use Rattle.nx_tests.proofs.tests.receiving.hearing.hear.Given as goal

abbrev pub invariant-loop-at : goal.invariant-loop-at
invariant-loop-at g l = l.at ≤ length l.bits

abbrev pub decreases-loop-at : goal.decreases-loop-at
decreases-loop-at g l = length l.bits - l.at
