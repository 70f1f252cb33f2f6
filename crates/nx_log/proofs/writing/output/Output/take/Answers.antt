use Rattle.std.proofs.Common.{refl}
use Rattle.std.specs.List.{concat}
use Rattle.std.proofs.lemmas.Result.{err_from_is_err_and}
use Rattle.nx_log.proofs.lemmas.runs.Outputs.{given-more, part-more}
use Rattle.nx_log.proofs.writing.output.Output.take.Goals as goal

pub returns-in_err-give-clause-given : goal.returns-in_err-give-clause-given
returns-in_err-give-clause-given g c = λ form one old entries said is sure h.
    let p = err_from_is_err_and c.from_residual-in_err-give.result
    c.from_residual-in_err-give.ensures.1 in
    rw p.1 (rw p.2 (part-more c.args.query.now form old
    (g.W.Write.contents c.args.writer.now.inner) c.args.self.now entries h
    (g.W.Write.contents c.give.new.writer.inner) one c.args.text.now c.in_err-give.field-0.0.written
    c.if-query.false sure is (c.in_err-give.ensures.bytes old (concat h.texts) h.given)))

pub returns-in_ok-give-clause-given : goal.returns-in_ok-give-clause-given
returns-in_ok-give-clause-given g c = λ form one old entries said is sure h.
    given-more c.args.query.now form old (g.W.Write.contents c.args.writer.now.inner)
    c.args.self.now entries h (g.W.Write.contents c.give.new.writer.inner)
    (record {
      batch = c.give.new.self;
      passed = c.saturating_add-self.result;
      held = c.args.self.now.held;
    }) one c.args.text.now c.if-query.false sure is c.saturating_add-self.ensures refl
    (c.in_ok-give.ensures.bytes old (concat h.texts) h.given)
