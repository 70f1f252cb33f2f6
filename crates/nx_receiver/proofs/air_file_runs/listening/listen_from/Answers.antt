use Rattle.std.proofs.Common.{◌∙◌, Err, [], refl, subst, sym}
use Rattle.std.proofs.lemmas.Result.{err_from_is_err_and}
use Rattle.nx_fec.specs.Transfers.{devices}
use Rattle.nx_fec.proofs.lemmas.devices.TransferLaws.{Ok-not_err, Writes-sound}
use Rattle.nx_receiver.specs.air_file_runs.Listen.{Listens, given_by}
use Rattle.nx_copies.specs.copies.Log.{plain}
use Rattle.nx_copies.specs.copies.Shares.{Starts, starts_from}
use Rattle.nx_receiver.specs.private.Listener.{content, starts_of}
use Rattle.nx_receiver.specs.Receiver.{plain_kind}
use Rattle.nx_receiver.specs.private.Listener.{StandsFromBy}
use Rattle.nx_receiver.specs.declared.air_file_runs.listen_fault.ListenFault.TheVariants.{Write}
use Rattle.nx_receiver.proofs.lemmas.listening.From.{err-is, goes-nowhere, goes-on}
use Rattle.nx_receiver.proofs.lemmas.listening.Listener.{begins-from}
use Rattle.nx_receiver.proofs.lemmas.listening.Runs.{err-of, listens-fault, listens-memory, listens-part}
use Rattle.nx_receiver.proofs.lemmas.listening.Runs.{not-memory}
use Rattle.nx_receiver.proofs.air_file_runs.listening.listen_from.Goals as goal

pub returns-in_err-listener-clause-listens : goal.returns-in_err-listener-clause-listens
returns-in_err-listener-clause-listens g c =
    goes-nowhere c.args.saved.now
    (devices g.R.Read.remaining g.W.Write.contents c.args.reader.now c.args.reader.now
    c.args.writer.now c.args.writer.now) c.from_residual.result _ c.from_residual.ensures.0
    (err-is c.from_residual.result _ c.from_residual.ensures.0 c.from_residual.ensures.1)
    (listens-memory plain (starts_from c.args.saved.now) g.R.Read.remaining g.W.Write.contents
    c.args.reader.now c.args.writer.now c.in_err-listener.field-0.0 c.requires.reader
    c.requires.writer)

pub returns-in_err-read-clause-listens : goal.returns-in_err-read-clause-listens
returns-in_err-read-clause-listens g c =
    let first = c.in_ok-listener.listener in
    let d = devices g.R.Read.remaining g.W.Write.contents c.args.reader.now
    c.listen_lines.new.reader c.args.writer.now c.listen_lines.new.writer in
    let begun : StandsFromBy (plain_kind content) first first [] [] =
    begins-from {kind = plain_kind content} _ first c.in_ok-listener.ensures.start
    c.in_ok-listener.ensures.range c.in_ok-listener.ensures.heard c.in_ok-listener.ensures.none in
    let ran = c.in_err-read.ensures first begun in
    let fault = c.in_err-read.field-0.0 in
    let made = c.from_residual-in_err-read in
    goes-nowhere c.args.saved.now d made.result fault made.ensures.0
    (err-is made.result fault made.ensures.0 made.ensures.1)
    (subst (λ (starts : Starts). Listens starts d (Err fault)) c.in_ok-listener.ensures.start
    (listens-fault (plain_kind content) first c.listen_lines.new.listener d fault ran))

pub returns-in_err-read-clause-memory : goal.returns-in_err-read-clause-memory
returns-in_err-read-clause-memory g c = λ error e.
    let first = c.in_ok-listener.listener in
    let begun : StandsFromBy (plain_kind content) first first [] [] =
    begins-from {kind = plain_kind content} _ first c.in_ok-listener.ensures.start
    c.in_ok-listener.ensures.range c.in_ok-listener.ensures.heard c.in_ok-listener.ensures.none in
    let ran = c.in_err-read.ensures first begun in
    let made = c.from_residual-in_err-read in
    let p = err_from_is_err_and made.result made.ensures.1 in
    absurd (not-memory (plain_kind content) first c.listen_lines.new.listener
    (devices g.R.Read.remaining g.W.Write.contents c.args.reader.now c.listen_lines.new.reader
    c.args.writer.now c.listen_lines.new.writer) c.in_err-read.field-0.0 error ran
    (sym p.2 ∙ err-of _ _ (sym p.1 ∙ e)))

pub close_log-requires : goal.close_log-requires
close_log-requires g c =
    let first = c.in_ok-listener.listener in
    let begun : StandsFromBy (plain_kind content) first first [] [] =
    begins-from {kind = plain_kind content} _ first c.in_ok-listener.ensures.start
    c.in_ok-listener.ensures.range c.in_ok-listener.ensures.heard c.in_ok-listener.ensures.none in
    Writes-sound _ _ _ (λ written. Ok-not_err _ _) (c.in_ok-read.ensures first begun).writes

pub returns-in_err-report-clause-listens : goal.returns-in_err-report-clause-listens
returns-in_err-report-clause-listens g c =
    let first = c.in_ok-listener.listener in
    let contents = g.W.Write.contents in
    let d = devices g.R.Read.remaining contents c.args.reader.now c.listen_lines.new.reader
    c.args.writer.now c.close_log.new.writer in
    let begun : StandsFromBy (plain_kind content) first first [] [] =
    begins-from {kind = plain_kind content} _ first c.in_ok-listener.ensures.start
    c.in_ok-listener.ensures.range c.in_ok-listener.ensures.heard c.in_ok-listener.ensures.none in
    goes-nowhere c.args.saved.now d c.from_residual-in_err-report.result _
    c.from_residual-in_err-report.ensures.0
    (err-is c.from_residual-in_err-report.result _ c.from_residual-in_err-report.ensures.0
    c.from_residual-in_err-report.ensures.1)
    (subst (λ (starts : Starts). Listens starts d
    (Err (Write c.in_err-report.field-0.0.written))) c.in_ok-listener.ensures.start
    (listens-part (plain_kind content) g.R.Read.remaining contents first c.listen_lines.new.listener
    c.args.reader.now c.listen_lines.new.reader c.args.writer.now c.listen_lines.new.writer
    c.close_log.new.writer c.in_ok-read.read c.in_err-report.field-0.0.written
    (c.in_ok-read.ensures first begun) (λ lines given h w. c.in_err-report.ensures.closed _
    (contents c.args.writer.now.inner) (given_by lines) given h.hears w)
    (c.in_err-report.ensures.counts.failed.0 refl)))

pub returns-clause-listens : goal.returns-clause-listens
returns-clause-listens g c =
    let first = c.in_ok-listener.listener in
    let contents = g.W.Write.contents in
    let begun : StandsFromBy (plain_kind content) first first [] [] =
    begins-from {kind = plain_kind content} _ first c.in_ok-listener.ensures.start
    c.in_ok-listener.ensures.range c.in_ok-listener.ensures.heard c.in_ok-listener.ensures.none in
    goes-on g.R.Read.remaining contents c.args.saved.now c.saved-left.result first
    c.listen_lines.new.listener c.args.reader.now c.listen_lines.new.reader c.args.writer.now
    c.listen_lines.new.writer c.close_log.new.writer
    c.in_ok-read.read c.in_ok-report.report c.in_ok-listener.ensures.start
    (c.in_ok-read.ensures first begun)
    (λ lines given h w. c.in_ok-report.ensures.closed _ (contents c.args.writer.now.inner)
    (given_by lines) given h.hears w)
    (λ lines given h. c.saved-left.ensures (starts_of first) (given_by lines) h.hears.log
    h.hears.hears)
    c.in_ok-report.ensures.lines c.in_ok-report.ensures.counts.none
