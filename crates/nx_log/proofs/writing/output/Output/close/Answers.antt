use Rattle.std.proofs.Common.{◌++◌, ◌∙◌, refl}
use Rattle.std.specs.List.{concat}
use Rattle.std.proofs.lemmas.Result.{err_from_is_err_and}
use Rattle.nx_log.specs.Places.{chosen_placed as chosen}
use Rattle.nx_log.proofs.lemmas.runs.Outputs.{closed, counted-all, last_texts, part-closed, part-finished}
use Rattle.nx_log.proofs.writing.output.Output.close.Goals as goal

pub returns-in_err-give_to-clause-written : goal.returns-in_err-give_to-clause-written
returns-in_err-give_to-clause-written g c = λ query old entries h.
    let p = err_from_is_err_and c.from_residual.result c.from_residual.ensures.1 in
    rw p.1 (rw p.2 (part-finished query c.args.form old _ c.args.self.now entries h _ _
    (c.in_err-give_to.ensures.given old (concat h.texts) h.given)))

pub returns-in_err-give_to-clause-same : goal.returns-in_err-give_to-clause-same
returns-in_err-give_to-clause-same g c = λ query old entries h.
    counted-all query c.args.form old _ c.args.self.now entries h _ refl

pub returns-in_err-give-clause-written : goal.returns-in_err-give-clause-written
returns-in_err-give-clause-written g c = λ query old entries h.
    let p = err_from_is_err_and c.from_residual-in_err-give.result
    c.from_residual-in_err-give.ensures.1 in
    rw p.1 (rw p.2 (part-closed query c.args.form old _ c.args.self.now entries h _
    c.end_of-end.result.now _
    (c.end_of-end.ensures (chosen query entries)
    (c.count.ensures ∙ counted-all query c.args.form old _ c.args.self.now entries h _ refl))
    (c.in_err-give.ensures.bytes old (last_texts query c.args.form old _ c.args.self.now entries h)
    (c.in_ok-give_to.ensures.given old (concat h.texts) h.given))))

pub returns-in_err-give-clause-same : goal.returns-in_err-give-clause-same
returns-in_err-give-clause-same g c = λ query old entries h.
    counted-all query c.args.form old _ c.args.self.now entries h _ refl

pub returns-clause-written : goal.returns-clause-written
returns-clause-written g c = λ query old entries h.
    let texts = last_texts query c.args.form old _ c.args.self.now entries h in
    closed query c.args.form old _ c.args.self.now entries h c.send.result _ c.send.new.self
    c.end_of-end.result.now
    (c.end_of-end.ensures (chosen query entries)
    (c.count.ensures ∙ counted-all query c.args.form old _ c.args.self.now entries h _ refl))
    (c.send.ensures.bytes old (texts ++ c.end_of-end.result.now)
    (c.in_ok-give.ensures.bytes old texts
    (c.in_ok-give_to.ensures.given old (concat h.texts) h.given))) c.send.ensures.empty

pub returns-clause-same : goal.returns-clause-same
returns-clause-same g c = λ query old entries h.
    counted-all query c.args.form old _ c.args.self.now entries h _ refl
