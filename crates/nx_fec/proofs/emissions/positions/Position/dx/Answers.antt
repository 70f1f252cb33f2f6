use Rattle.std.proofs.Common.{arith}
use Rattle.std.proofs.lemmas.Grind.{common_steps}
use Rattle.nx_code.proofs.lemmas.Table.{traffic_word-is}
use Rattle.nx_fec.proofs.lemmas.emissions.Emission.{phasing_1-words, phasing_2-words}
use Rattle.nx_fec.proofs.emissions.positions.Position.dx.Goals as goal

pub returns : goal.returns
returns c = grind (arith, common_steps, phasing_1-words, phasing_2-words, traffic_word-is)
