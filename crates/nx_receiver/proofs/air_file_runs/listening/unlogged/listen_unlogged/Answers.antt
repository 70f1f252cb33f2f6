use Rattle.std.proofs.Common.{◌∙◌, [], sym}
use Rattle.nx_receiver.specs.air_file_runs.Listen.{given_by}
use Rattle.nx_receiver.specs.private.Listener.{content, starts_of}
use Rattle.nx_receiver.specs.Receiver.{plain_kind}
use Rattle.nx_receiver.specs.private.Unlogged.{StandsUnlogged}
use Rattle.std.proofs.lemmas.Result.{err_from_is_err_and}
use Rattle.nx_receiver.proofs.lemmas.listening.Listener.{begins-from}
use Rattle.nx_receiver.proofs.lemmas.listening.Runs.{err-of}
use Rattle.nx_receiver.proofs.lemmas.listening.Unlogged.{unlogged-fault, unlogged-held, unlogged-memory}
use Rattle.nx_receiver.proofs.lemmas.listening.Unlogged.{unlogged-ok}
use Rattle.nx_receiver.proofs.air_file_runs.listening.unlogged.listen_unlogged.Goals as goal

pub returns-in_err-listener-clause-listens : goal.returns-in_err-listener-clause-listens
returns-in_err-listener-clause-listens g c =
    let p = err_from_is_err_and c.from_residual.result c.from_residual.ensures.1 in
    rw p.1 (rw p.2 (unlogged-memory c.args.saved.now g.R.Read.remaining c.args.reader.now
    c.in_err-listener.field-0.0 c.requires))

pub returns-in_err-lines-clause-listens : goal.returns-in_err-lines-clause-listens
returns-in_err-lines-clause-listens g c =
    let first = c.in_ok-listener.listener in
    let begun : StandsUnlogged first first [] = (
      [],
      begins-from {kind = plain_kind content} _ first c.in_ok-listener.ensures.start
          c.in_ok-listener.ensures.range
          c.in_ok-listener.ensures.heard c.in_ok-listener.ensures.none,
    ) in
    let ran = c.in_err-lines.ensures first begun in
    let p = err_from_is_err_and c.from_residual-in_err-lines.result
    c.from_residual-in_err-lines.ensures.1 in
    rw p.1 (rw p.2 (unlogged-fault c.args.saved.now first c.hear_lines.new.listener _ _ _
    c.in_err-lines.field-0.0 c.in_ok-listener.ensures.start ran))

pub returns-in_err-lines-clause-memory : goal.returns-in_err-lines-clause-memory
returns-in_err-lines-clause-memory g c = λ error e.
    let first = c.in_ok-listener.listener in
    let begun : StandsUnlogged first first [] = (
      [],
      begins-from {kind = plain_kind content} _ first c.in_ok-listener.ensures.start
          c.in_ok-listener.ensures.range
          c.in_ok-listener.ensures.heard c.in_ok-listener.ensures.none,
    ) in
    let ran = c.in_err-lines.ensures first begun in
    let made = c.from_residual-in_err-lines in
    let p = err_from_is_err_and made.result made.ensures.1 in
    absurd (unlogged-held first c.hear_lines.new.listener g.R.Read.remaining c.args.reader.now
    c.hear_lines.new.reader c.in_err-lines.field-0.0 error ran
    (sym p.2 ∙ err-of _ _ (sym p.1 ∙ e)))

pub returns-clause-listens : goal.returns-clause-listens
returns-clause-listens g c =
    let first = c.in_ok-listener.listener in
    let begun : StandsUnlogged first first [] = (
      [],
      begins-from {kind = plain_kind content} _ first c.in_ok-listener.ensures.start
          c.in_ok-listener.ensures.range
          c.in_ok-listener.ensures.heard c.in_ok-listener.ensures.none,
    ) in
    unlogged-ok c.args.saved.now c.saved-left.result first c.hear_lines.new.listener _ _ _
    c.in_ok-lines.lines c.close_unlogged.result c.in_ok-listener.ensures.start
    (c.in_ok-lines.ensures first begun)
    (λ lines given h. c.close_unlogged.ensures.closed _ _ (given, h.hears))
    (λ lines given h. c.saved-left.ensures (starts_of first) (given_by lines) h.hears.log
    h.hears.hears)
    c.close_unlogged.ensures.lines
