use Rattle.std.proofs.Common.{inl, subst, sym}
use Rattle.nx_fec.proofs.lemmas.line_runs.LineRun.{HasGiven-empty}
use Rattle.nx_receiver.specs.private.LineStops.{TellsStop}
use Rattle.nx_receiver.proofs.air_file_runs.listening.logged.end_at_line.Goals as goal

pub returns-in-Ok-clause-tells : goal.returns-in-Ok-clause-tells
returns-in-Ok-clause-tells g c =
    let contents = g.W.Write.contents in
    let sent = c.in-Ok.ensures in
    subst (λ stop. TellsStop c.args.number stop (contents c.args.writer.now.inner)
    (contents c.send.new.writer.inner) c.args.batch.now c.of_refusal.result) (sym c.in-Refused.is)
    (inl (
      c.of_refusal.ensures,
      λ old given k. HasGiven-empty old (contents c.send.new.writer.inner)
          c.send.new.self given sent.empty (sent.bytes old given k),
    ))
