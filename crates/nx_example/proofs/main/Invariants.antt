use Rattle.std.proofs.Common.{◌≡◌}
use Rattle.nx_example.proofs.main.Given as goal

-- no write has failed
abbrev pub invariant-loop-line : goal.invariant-loop-line
invariant-loop-line l = l.log.failures ≡ 0
