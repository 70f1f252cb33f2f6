use Rattle.std.proofs.Common.{arith}
use Rattle.nx_copies.proofs.lemmas.copy_hearer.Hears.{step_taken}
use Rattle.nx_copies.proofs.copy_taker.CopyTakerWordTaker.take_step.Goals as goal

pub returns : goal.returns
returns c = record {
  hears = λ old new bits size brings.
      step_taken c.args.self.now c.read.new.self old new bits c.args.step c.read.result
      (omega (arith, size, c.requires.some)) c.read.ensures brings;
}
