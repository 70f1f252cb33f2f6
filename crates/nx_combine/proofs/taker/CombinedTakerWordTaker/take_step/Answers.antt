use Rattle.std.proofs.Common.{arith}
use Rattle.nx_combine.proofs.lemmas.TakerBits.{takes_step}
use Rattle.nx_combine.proofs.taker.CombinedTakerWordTaker.take_step.Goals as goal

pub returns : goal.returns
returns c = record {
  hears = λ old new bits size brings.
      takes_step c.args.self.now c.take.new.self old new bits c.args.step c.take.result
      (omega (arith, size, c.requires.some)) c.take.ensures brings;
}
