use Rattle.std.proofs.Common.{◌∙◌, Err, Ok, [], ap, refl, subst, sym}
use Rattle.std.specs.Prelude.{⊤}
use Rattle.std.proofs.lemmas.Result.{err_from_is_err_and}
use Rattle.nx_fec.specs.Transfers.{devices}
use Rattle.nx_fec.proofs.lemmas.devices.TransferLaws.{Ok-not_err, Writes-sound}
use Rattle.nx_receiver.specs.air_file_runs.Listen.{ListensBy, given_by}
use Rattle.nx_copies.specs.copies.Shares.{Starts, all_at_zero, starts_from}
use Rattle.nx_receiver.specs.private.Listener.{StandsFromBy}
use Rattle.nx_receiver.specs.declared.air_file_runs.listen_fault.ListenFault.TheVariants.{Write}
use Rattle.nx_copies.proofs.lemmas.channels.Shares.{from-nothing}
use Rattle.nx_receiver.proofs.lemmas.listening.Listener.{begins-from}
use Rattle.nx_receiver.proofs.lemmas.listening.Runs.{err-of, listens-all, listens-fault, listens-memory}
use Rattle.nx_receiver.proofs.lemmas.listening.Runs.{listens-part, not-memory}
use Rattle.nx_receiver.proofs.air_file_runs.listening.of_kind.listen_with.Goals as goal

pub returns-in_err-listener-clause-listens : goal.returns-in_err-listener-clause-listens
returns-in_err-listener-clause-listens g c =
    let p = err_from_is_err_and c.from_residual.result c.from_residual.ensures.1 in
    rw p.1 (rw p.2 (listens-memory g.C.ChannelReceiver.kind.printing all_at_zero g.R.Read.remaining
    g.W.Write.contents c.args.reader.now c.args.writer.now c.in_err-listener.field-0.0
    c.requires.reader c.requires.writer))

pub returns-in_err-read-clause-listens : goal.returns-in_err-read-clause-listens
returns-in_err-read-clause-listens g c =
    let kind = g.C.ChannelReceiver.kind in
    let first = c.in_ok-listener.listener in
    let made = c.in_ok-listener.ensures in
    let d = devices g.R.Read.remaining g.W.Write.contents c.args.reader.now
    c.listen_lines.new.reader c.args.writer.now c.listen_lines.new.writer in
    let begun : StandsFromBy kind first first [] [] =
    begins-from _ first made.start made.range made.heard made.none in
    let ran = c.in_err-read.ensures first begun in
    let fault = c.in_err-read.field-0.0 in
    let p = err_from_is_err_and c.from_residual-in_err-read.result
    c.from_residual-in_err-read.ensures.1 in
    rw p.1 (rw p.2 (subst (λ (starts : Starts). ListensBy kind.printing starts d (Err fault))
    (made.start ∙ ap starts_from c.new.ensures ∙ from-nothing)
    (listens-fault kind first c.listen_lines.new.listener d fault ran)))

pub returns-in_err-read-clause-memory : goal.returns-in_err-read-clause-memory
returns-in_err-read-clause-memory g c = λ error e.
    let kind = g.C.ChannelReceiver.kind in
    let first = c.in_ok-listener.listener in
    let begun : StandsFromBy kind first first [] [] =
    begins-from _ first c.in_ok-listener.ensures.start c.in_ok-listener.ensures.range
    c.in_ok-listener.ensures.heard c.in_ok-listener.ensures.none in
    let ran = c.in_err-read.ensures first begun in
    let made = c.from_residual-in_err-read in
    let p = err_from_is_err_and made.result made.ensures.1 in
    absurd (not-memory kind first c.listen_lines.new.listener
    (devices g.R.Read.remaining g.W.Write.contents c.args.reader.now c.listen_lines.new.reader
    c.args.writer.now c.listen_lines.new.writer) c.in_err-read.field-0.0 error ran
    (sym p.2 ∙ err-of _ _ (sym p.1 ∙ e)))

pub close_log-requires : goal.close_log-requires
close_log-requires g c =
    let first = c.in_ok-listener.listener in
    let begun : StandsFromBy g.C.ChannelReceiver.kind first first [] [] =
    begins-from _ first c.in_ok-listener.ensures.start c.in_ok-listener.ensures.range
    c.in_ok-listener.ensures.heard c.in_ok-listener.ensures.none in
    Writes-sound _ _ _ (λ written. Ok-not_err _ _) (c.in_ok-read.ensures first begun).writes

pub returns-in_err-report-clause-listens : goal.returns-in_err-report-clause-listens
returns-in_err-report-clause-listens g c =
    let kind = g.C.ChannelReceiver.kind in
    let contents = g.W.Write.contents in
    let first = c.in_ok-listener.listener in
    let made = c.in_ok-listener.ensures in
    let d = devices g.R.Read.remaining contents c.args.reader.now c.listen_lines.new.reader
    c.args.writer.now c.close_log.new.writer in
    let begun : StandsFromBy kind first first [] [] =
    begins-from _ first made.start made.range made.heard made.none in
    let p = err_from_is_err_and c.from_residual-in_err-report.result
    c.from_residual-in_err-report.ensures.1 in
    rw p.1 (rw p.2 (subst (λ (starts : Starts). ListensBy kind.printing starts d
    (Err (Write c.in_err-report.field-0.0.written)))
    (made.start ∙ ap starts_from c.new.ensures ∙ from-nothing)
    (listens-part kind g.R.Read.remaining contents first c.listen_lines.new.listener
    c.args.reader.now c.listen_lines.new.reader c.args.writer.now c.listen_lines.new.writer
    c.close_log.new.writer c.in_ok-read.read c.in_err-report.field-0.0.written
    (c.in_ok-read.ensures first begun)
    (λ lines given h w. c.in_err-report.ensures.closed _ (contents c.args.writer.now.inner)
    (given_by lines) given h.hears w) (c.in_err-report.ensures.counts.failed.0 refl))))

pub returns-clause-listens : goal.returns-clause-listens
returns-clause-listens g c =
    let kind = g.C.ChannelReceiver.kind in
    let contents = g.W.Write.contents in
    let first = c.in_ok-listener.listener in
    let made = c.in_ok-listener.ensures in
    let d = devices g.R.Read.remaining contents c.args.reader.now c.listen_lines.new.reader
    c.args.writer.now c.close_log.new.writer in
    let begun : StandsFromBy kind first first [] [] =
    begins-from _ first made.start made.range made.heard made.none in
    let ran = listens-all kind g.R.Read.remaining contents first
    c.listen_lines.new.listener c.args.reader.now c.listen_lines.new.reader c.args.writer.now
    c.listen_lines.new.writer c.close_log.new.writer c.in_ok-read.read c.in_ok-report.report
    (λ bytes. ⊤) (c.in_ok-read.ensures first begun)
    (λ lines t. (
      t.stood.taken,
      c.in_ok-report.ensures.closed _ (contents c.args.writer.now.inner) (given_by lines) t.given
          t.stood.hears t.here,
    ))
    (λ bytes k. tt) c.in_ok-report.ensures.lines c.in_ok-report.ensures.counts.none in
    subst (λ (starts : Starts). ListensBy kind.printing starts d (Ok c.in_ok-report.report))
    (made.start ∙ ap starts_from c.new.ensures ∙ from-nothing) ran.0
