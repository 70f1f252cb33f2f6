use Rattle.std.proofs.Common.{refl}
use Rattle.std.specs.List.{concat}
use Rattle.nx_log.proofs.lemmas.runs.Outputs.{given-sent}
use Rattle.nx_log.proofs.writing.output.Output.send.Goals as goal

pub returns-clause-given : goal.returns-clause-given
returns-clause-given g c = λ query form old entries h.
    given-sent query form old (g.W.Write.contents c.args.writer.now.inner) c.args.self.now entries h
    c.send.result (g.W.Write.contents c.send.new.writer.inner)
    (record {
      batch = c.send.new.self;
      passed = c.args.self.now.passed;
      held = c.args.self.now.held;
    }) refl refl (c.send.ensures.bytes old (concat h.texts) h.given) c.send.ensures.empty
