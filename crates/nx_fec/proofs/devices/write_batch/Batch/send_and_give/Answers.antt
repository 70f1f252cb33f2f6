use Rattle.std.proofs.lemmas.Result.{err_from_is_err_and}
use Rattle.std.proofs.Common.{ap}
use Rattle.nx_fec.proofs.lemmas.devices.WritingLaws.{WroteSome-front}
use Rattle.nx_fec.proofs.lemmas.line_runs.LineRun.{HasGiven-written}
use Rattle.nx_fec.proofs.devices.write_batch.Batch.send_and_give.Goals as goal

pub returns-in_err-send-clause-bytes : goal.returns-in_err-send-clause-bytes
returns-in_err-send-clause-bytes g c = λ first before h.
    let p = err_from_is_err_and c.from_residual.result c.from_residual.ensures.1 in
    rw p.1 (rw p.2 (WroteSome-front first _ before c.args.bytes.now _
    (c.in_err-send.ensures.bytes first before h)))

pub returns-in_err-self-inside-clause-bytes : goal.returns-in_err-self-inside-clause-bytes
returns-in_err-self-inside-clause-bytes g c = λ first before h.
    let p = err_from_is_err_and c.from_residual-in_err-self-inside.result
    c.from_residual-in_err-self-inside.ensures.1 in
    rw p.1 (rw p.2 (c.in_err-self-inside.ensures.bytes first before
    (HasGiven-written first _ c.send.new.self before _ c.in_ok-send.ensures.empty
    (ap (λ b. b.sent) c.self.view_is)
    (c.in_ok-send.ensures.bytes first before h))))
