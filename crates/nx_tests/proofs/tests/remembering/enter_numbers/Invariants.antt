use Rattle.std.proofs.Common.{◌≤◌}
use Rattle.nx_memory.specs.Memory.{newest_moment}
use Rattle.nx_tests.proofs.tests.remembering.enter_numbers.Given as goal

abbrev pub invariant-loop-number : goal.invariant-loop-number
invariant-loop-number g l = newest_moment (g.M.Recall.content l.memory) ≤ l.moment
