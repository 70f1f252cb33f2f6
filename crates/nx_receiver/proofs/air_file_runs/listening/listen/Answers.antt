use Rattle.std.proofs.Common.{◌≡◌, Result, Ok, Err, IsErr, IsErrAnd, ap, subst, sym, ◌∙◌}
use Rattle.nx_fec.specs.Transfers.{devices}
use Rattle.nx_receiver.specs.air_file_runs.ListenOnce.{ListensOnce}
use Rattle.nx_copies.specs.copies.Shares.{Starts, all_at_zero, starts_from}
use Rattle.nx_receiver.specs.declared.air_file_runs.listen_fault.ListenFault.{ListenFault}
use Rattle.nx_receiver.specs.declared.air_file_runs.listening.Report.{Report}
use Rattle.nx_copies.proofs.lemmas.channels.Shares.{from-nothing}
use Rattle.nx_receiver.proofs.air_file_runs.listening.listen.Goals as goal

-- an outcome that is this fault
is-err : (outcome : Result Report ListenFault) (fault : ListenFault) → IsErr outcome
    → IsErrAnd outcome (λ made. made ≡ fault) → outcome ≡ Err fault
is-err (Ok x) fault h e = cc
is-err (Err made) fault h e = cc

pub returns-in_err-report-clause-listens : goal.returns-in_err-report-clause-listens
returns-in_err-report-clause-listens g c =
    let d = devices g.R.Read.remaining g.W.Write.contents c.args.reader.now
    c.listen_from.new.reader c.args.writer.now c.listen_from.new.writer in
    subst (ListensOnce all_at_zero d)
    (sym (is-err c.from_residual.result c.in_err-report.field-0.0 c.from_residual.ensures.0
    c.from_residual.ensures.1))
    (subst (λ (starts : Starts). ListensOnce starts d (Err c.in_err-report.field-0.0))
    (ap starts_from c.new.ensures ∙ from-nothing) c.in_err-report.ensures.listens.listens)

pub returns-clause-listens : goal.returns-clause-listens
returns-clause-listens g c =
    let d = devices g.R.Read.remaining g.W.Write.contents c.args.reader.now
    c.listen_from.new.reader c.args.writer.now c.listen_from.new.writer in
    subst (λ (starts : Starts). ListensOnce starts d (Ok c.in_ok-report.report))
    (ap starts_from c.new.ensures ∙ from-nothing) c.in_ok-report.ensures.listens.listens
