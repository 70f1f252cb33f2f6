use Rattle.std.proofs.Common.{◌∙◌, arith, subst}
use Rattle.std.proofs.lemmas.Result.{err_from_is_err_and}
use Rattle.nx_receiver.specs.Moments.{Refuses}
use Rattle.nx_locks.specs.private.Showing.{Showing}
use Rattle.nx_locks.proofs.lemmas.Taking.{moment_line}
use Rattle.nx_locks.proofs.report_writer.ReportWriter.take_moment.Goals as goal

pub returns-clause-taken : goal.returns-clause-taken
returns-clause-taken c = rw (← c.self.view_is) (λ lines bytes h.
    let i = c.self.inside in
    let old : Showing =
    record { synchroniser = i.synchroniser; taker = i.taker; has_moment = i.has_moment } in
    let may = c.in_ok-check_moment.ensures.taken in
    moment_line old _ lines c.args.given bytes h (omega (arith, may.0)) may.1
    c.set_moment.ensures)

pub returns-in_err-check_moment-clause-taken : goal.returns-in_err-check_moment-clause-taken
returns-in_err-check_moment-clause-taken c =
    let p = err_from_is_err_and c.from_residual.result c.from_residual.ensures.1 in
    rw p.1 (rw p.2 (rw (← c.self.view_is) (λ lines bytes h.
    subst (λ m. Refuses m c.args.given c.in_err-check_moment.field-0.0)
    (c.moment.ensures ∙ h.moment)
    c.in_err-check_moment.ensures.refused)))
