use Rattle.std.proofs.Common.{refl}
use Rattle.std.specs.List.{concat}
use Rattle.std.proofs.lemmas.Result.{err_from_is_err_and}
use Rattle.nx_log.proofs.lemmas.runs.Outputs.{counted-all, finished, last_texts, part-finished}
use Rattle.nx_log.proofs.writing.output.Output.finish.Goals as goal

pub returns-in_err-give_to-clause-written : goal.returns-in_err-give_to-clause-written
returns-in_err-give_to-clause-written g c = λ query form old entries h.
    let p = err_from_is_err_and c.from_residual.result c.from_residual.ensures.1 in
    rw p.1 (rw p.2 (part-finished query form old _ c.args.self.now entries h _ _
    (c.in_err-give_to.ensures.given old (concat h.texts) h.given)))

pub returns-clause-written : goal.returns-clause-written
returns-clause-written g c = λ query form old entries h.
    finished query form old _ c.args.self.now entries h c.send.result _ c.send.new.self
    (c.send.ensures.bytes old
    (last_texts query form old _ c.args.self.now entries h)
    (c.in_ok-give_to.ensures.given old (concat h.texts) h.given)) c.send.ensures.empty

pub returns-in_err-give_to-clause-same : goal.returns-in_err-give_to-clause-same
returns-in_err-give_to-clause-same g c = λ query form old entries h.
    counted-all query form old _ c.args.self.now entries h _ refl

pub returns-clause-same : goal.returns-clause-same
returns-clause-same g c = λ query form old entries h.
    counted-all query form old _ c.args.self.now entries h _ refl
