use Rattle.std.proofs.Common.{arith}
use Rattle.std.proofs.lemmas.Grind.{common_steps}
use Rattle.nx_fec.specs.emissions.Aligned.{word_in}
use Rattle.nx_fec.proofs.emissions.aligned.word_of_slot.Goals as goal

pub returns : goal.returns
unfolding word_in
returns c = grind (arith, common_steps)
