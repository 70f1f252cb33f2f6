use Rattle.std.proofs.Common.{◌-◌}
use Rattle.nx_tests.proofs.tests.reading_logs.read_in_two.Given as goal

abbrev pub decreases-loop-at : goal.decreases-loop-at
decreases-loop-at g l = l.end - l.at
