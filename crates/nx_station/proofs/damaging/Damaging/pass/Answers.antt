use Rattle.std.proofs.Common.{arith}
use Rattle.std.proofs.lemmas.Grind.{common_steps}
use Rattle.nx_station.proofs.damaging.Damaging.pass.Goals as goal

pub returns-clause-counted : goal.returns-clause-counted
returns-clause-counted c = grind (arith, common_steps)

pub returns-clause-digits : goal.returns-clause-digits
returns-clause-digits c = grind (arith, common_steps)
