use Rattle.std.proofs.Common.{rules, ◌≡◌, ◌∙◌, ◌++◌, ◌∷◌, [], true, false, Err, refl, sym, ap, subst}
use Rattle.std.proofs.lemmas.Result.{err_from_is_err_and}
use Rattle.nx_copies.specs.copies.Shares.{all_at_zero}
use Rattle.nx_fec.specs.air_files.LineReading.{GivesNext, SaysOver}
use Rattle.nx_fec.specs.declared.air_files.line_reader.NextLine.TheVariants as line
use Rattle.nx_fec.proofs.lemmas.line_runs.LineReading.{Given-not_read, asked-read, unfailed}
use Rattle.nx_fec.proofs.lemmas.line_runs.LineRun.{HasGiven-empty, HasGiven-written}
use Rattle.nx_receiver.specs.private.Listener.{RefusesLine}
use Rattle.nx_locks.specs.private.ReportWriter.{HasClosed}
use Rattle.nx_locks.specs.private.ReportWriterBegins.{begins-report}
use Rattle.nx_locks.proofs.lemmas.Runs.{shows-all, shows-early, shows-lost, shows-lost-early}
use Rattle.nx_locks.proofs.lemmas.Runs.{shows-lost-refused, shows-part, shows-refused, taken-next}
use Rattle.nx_locks.proofs.lemmas.Taking.{next_shown}
use Rattle.nx_locks.proofs.lock_report.locks.Goals as goal

pub loop-kind-preserved-in-Continue-branch-2 : goal.loop-kind-preserved-in-Continue-branch-2
loop-kind-preserved-in-Continue-branch-2 g c =
    let r = c.loop-kind.invariant.shows in
    let next = c.in-Ok-Line.ensures in
    let is : c.in-Ok-Line.field-0 ≡ line.Line c.in-Ok-Line.kind = search rules in
    let n = taken-next g.R.Read.remaining _ c.next.new.self r.0 c.in-Ok-Line.kind
    c.elements.result.now c.in-Ok-Line.field-0 is (next.gives 268435456 _ r.0 r.1) next.line
    c.elements.ensures in
    let none = unfailed _ _ (Given-not_read _) next.failed next.once in
    let showing = next_shown c.take.new.self r.0 n.line _ r.2.given c.shown.result.now n.is
    c.shown.ensures (c.in_default.ensures r.0 r.2.given r.2.shows n.few) in
    record {
      same = next.same ∙ c.loop-kind.invariant.same;
      reader = none;
      writer = c.in_ok-give-in-Ok-Line.ensures.counts.none;
      shows = (
        r.0 ++ n.line ∷ [],
        n.given,
        record {
          given = r.2.given ++ c.shown.result.now;
          shows = showing;
          waits = c.in_ok-give-in-Ok-Line.ensures.bytes _ r.2.given r.2.waits;
        },
      );
      sent = λ over.
          let no : false ≡ true = sym (subst (SaysOver _ _) is next.over) ∙ over in
          absurd (cc);
    }

pub returns-in_err-give-in-Ok-Line : goal.returns-in_err-give-in-Ok-Line
returns-in_err-give-in-Ok-Line g c =
    let r = c.loop-kind.invariant.shows in
    let next = c.in-Ok-Line.ensures in
    let is : c.in-Ok-Line.field-0 ≡ line.Line c.in-Ok-Line.kind = search rules in
    let n = taken-next g.R.Read.remaining _ c.next.new.self r.0 c.in-Ok-Line.kind
    c.elements.result.now c.in-Ok-Line.field-0 is (next.gives 268435456 _ r.0 r.1) next.line
    c.elements.ensures in
    let none = unfailed _ _ (Given-not_read _) next.failed next.once in
    let showing = next_shown c.take.new.self r.0 n.line _ r.2.given c.shown.result.now n.is
    c.shown.ensures (c.in_default.ensures r.0 r.2.given r.2.shows n.few) in
    let lost = c.in_err-give-in-Ok-Line in
    let p = err_from_is_err_and c.from_residual-in_err-give-in-Ok-Line.result
    c.from_residual-in_err-give-in-Ok-Line.ensures.1 in
    rw p.1 (rw p.2 (shows-lost _ c.next.new.self (search rules) (r.0 ++ n.line ∷ [])
    lost.field-0.0.written n.given none (
      r.2.given ++ c.shown.result.now,
      begins-report c.take.new.self (r.0 ++ n.line ∷ []) (r.2.given ++ c.shown.result.now) showing,
      lost.ensures.bytes _ r.2.given r.2.waits,
    ) (lost.ensures.counts.failed.0 refl)))

pub returns-in_err-send-in-Ok-Line : goal.returns-in_err-send-in-Ok-Line
returns-in_err-send-in-Ok-Line g c =
    let r = c.loop-kind.invariant.shows in
    let next = c.in-Ok-Line.ensures in
    let is : c.in-Ok-Line.field-0 ≡ line.Line c.in-Ok-Line.kind = search rules in
    let n = taken-next g.R.Read.remaining _ c.next.new.self r.0 c.in-Ok-Line.kind
    c.elements.result.now c.in-Ok-Line.field-0 is (next.gives 268435456 _ r.0 r.1) next.line
    c.elements.ensures in
    let none = unfailed _ _ (Given-not_read _) next.failed next.once in
    let lost = c.in_err-send-in-Ok-Line in
    let p = err_from_is_err_and c.from_residual.result c.from_residual.ensures.1 in
    rw p.1 (rw p.2 (shows-lost-refused _ c.next.new.self (search rules) r.0 n.line
    lost.field-0.0.written n.good n.given none (
      r.2.given,
      begins-report c.loop-kind.report_writer r.0 r.2.given r.2.shows,
      lost.ensures.bytes _ r.2.given r.2.waits,
    ) (lost.ensures.counts.failed.0 refl)))

pub returns-in-Err-take : goal.returns-in-Err-take
returns-in-Err-take g c =
    let r = c.loop-kind.invariant.shows in
    let next = c.in-Ok-Line.ensures in
    let is : c.in-Ok-Line.field-0 ≡ line.Line c.in-Ok-Line.kind = search rules in
    let n = taken-next g.R.Read.remaining _ c.next.new.self r.0 c.in-Ok-Line.kind
    c.elements.result.now c.in-Ok-Line.field-0 is (next.gives 268435456 _ r.0 r.1) next.line
    c.elements.ensures in
    let none = unfailed _ _ (Given-not_read _) next.failed next.once in
    let sent = c.in_ok-send-in-Ok-Line.ensures in
    rw c.of_refusal.ensures (
    shows-refused _ c.next.new.self (search rules) r.0 n.line c.lines-line.result
    c.in-Err-take.why n.good n.given none c.lines-line.ensures
    (subst (λ l. RefusesLine all_at_zero r.0 l c.in-Err-take.why) (sym n.is)
    (c.in-Err-take.ensures r.0 r.2.given r.2.shows n.few)) (record {
      bytes = r.2.given;
      report = begins-report c.loop-kind.report_writer r.0 r.2.given r.2.shows;
      written = HasGiven-empty _ _ c.send.new.self r.2.given sent.empty
          (sent.bytes _ r.2.given r.2.waits);
    }) sent.counts.none)

pub loop-kind-preserved : goal.loop-kind-preserved
loop-kind-preserved g c =
    let r = c.loop-kind.invariant.shows in
    let next = c.in-Ok-PieceOver.ensures in
    let is : c.in-Ok-PieceOver.field-0 ≡ line.PieceOver = search rules in
    let sent = c.in_ok-send-in-Ok-PieceOver.ensures in
    record {
      same = next.same ∙ c.loop-kind.invariant.same;
      reader = unfailed _ _ (Given-not_read _) next.failed next.once;
      writer = sent.counts.none;
      shows = (
        r.0,
        subst (GivesNext g.R.Read.remaining 268435456
            (g.R.Read.remaining c.args.reader.now.inner) c.next.new.self r.0) is
            (next.gives 268435456 _ r.0 r.1),
        record {
          given = r.2.given;
          shows = r.2.shows;
          waits = sent.bytes _ r.2.given r.2.waits;
        },
      );
      sent = λ over. sent.empty;
    }

pub returns-in_err-send-in-Ok-PieceOver :
    goal.returns-in_err-send-in-Ok-PieceOver
returns-in_err-send-in-Ok-PieceOver g c =
    let r = c.loop-kind.invariant.shows in
    let next = c.in-Ok-PieceOver.ensures in
    let is : c.in-Ok-PieceOver.field-0 ≡ line.PieceOver = search rules in
    let lost = c.in_err-send-in-Ok-PieceOver in
    let p = err_from_is_err_and c.from_residual-in_err-send-in-Ok-PieceOver.result
    c.from_residual-in_err-send-in-Ok-PieceOver.ensures.1 in
    rw p.1 (rw p.2 (shows-lost _ c.next.new.self (search rules) r.0 lost.field-0.0.written
    (subst (GivesNext g.R.Read.remaining 268435456 (g.R.Read.remaining c.args.reader.now.inner)
    c.next.new.self r.0) is (next.gives 268435456 _ r.0 r.1))
    (unfailed _ _ (Given-not_read _) next.failed next.once) (
      r.2.given,
      begins-report c.loop-kind.report_writer r.0 r.2.given r.2.shows,
      lost.ensures.bytes _ r.2.given r.2.waits,
    ) (lost.ensures.counts.failed.0 refl)))

pub returns-in_err-write_on-in-Ok-End :
    goal.returns-in_err-write_on-in-Ok-End
returns-in_err-write_on-in-Ok-End g c =
    let r = c.loop-kind.invariant.shows in
    let next = c.in-Ok-End.ensures in
    let is : c.in-Ok-End.field-0 ≡ line.End = search rules in
    let lost = c.in_err-write_on-in-Ok-End in
    let p = err_from_is_err_and c.from_residual-in_err-write_on-in-Ok-End.result
    c.from_residual-in_err-write_on-in-Ok-End.ensures.1 in
    let over = c.loop-kind.invariant.sent (subst (SaysOver _ _) is next.over) in
    rw p.1 (rw p.2 (shows-part _ c.next.new.self (search rules) r.0
    (r.2.given ++ c.shown-in-Ok-End.result.now) c.close-report.result lost.field-0.0.written
    (subst (GivesNext g.R.Read.remaining 268435456 (g.R.Read.remaining c.args.reader.now.inner)
    c.next.new.self r.0) is (next.gives 268435456 _ r.0 r.1))
    (unfailed _ _ (Given-not_read _) next.failed next.once) r.2.shows.taken
    (subst (λ l. HasClosed r.0 (r.2.given ++ l) c.close-report.result)
    (sym c.shown-in-Ok-End.ensures) (c.close-report.ensures.closed r.0 r.2.given r.2.shows))
    (lost.ensures.bytes _ r.2.given (HasGiven-written _ _ c.loop-kind.batch r.2.given
    c.bytes_sent.result over c.bytes_sent.ensures r.2.waits)) (lost.ensures.counts.failed.0 refl)))

pub returns-in-Ok-End : goal.returns-in-Ok-End
returns-in-Ok-End g c =
    let r = c.loop-kind.invariant.shows in
    let next = c.in-Ok-End.ensures in
    let is : c.in-Ok-End.field-0 ≡ line.End = search rules in
    let sent = c.in_ok-write_on-in-Ok-End.ensures in
    let over = c.loop-kind.invariant.sent (subst (SaysOver _ _) is next.over) in
    shows-all _ c.next.new.self (search rules) r.0 (r.2.given ++ c.shown-in-Ok-End.result.now)
    c.close-report.result
    (subst (GivesNext g.R.Read.remaining 268435456 (g.R.Read.remaining c.args.reader.now.inner)
    c.next.new.self r.0) is (next.gives 268435456 _ r.0 r.1))
    (unfailed _ _ (Given-not_read _) next.failed next.once) r.2.shows.taken
    (subst (λ l. HasClosed r.0 (r.2.given ++ l) c.close-report.result)
    (sym c.shown-in-Ok-End.ensures) (c.close-report.ensures.closed r.0 r.2.given r.2.shows))
    (c.close-report.ensures.lines ∙ c.lines.ensures)
    (sent.bytes _ r.2.given (HasGiven-written _ _ c.loop-kind.batch r.2.given c.bytes_sent.result
    over c.bytes_sent.ensures r.2.waits)).appended sent.counts.none

pub returns-in_err-send-in-Err : goal.returns-in_err-send-in-Err
returns-in_err-send-in-Err g c =
    let r = c.loop-kind.invariant.shows in
    let next = c.in-Err.ensures in
    let lost = c.in_err-send-in-Err in
    let p = err_from_is_err_and c.from_residual-in_err-send-in-Err.result
    c.from_residual-in_err-send-in-Err.ensures.1 in
    rw p.1 (rw p.2 (shows-lost-early _ c.next.new.self (search rules) r.0 c.in-Err.fault
    lost.field-0.0.written (next.gives 268435456 _ r.0 r.1) next.failed next.once
    (λ is. let over = asked-read c.loop-kind.lines c.next.new.self next.unread
    c.loop-kind.invariant.reader (next.failed.0 (ap Err is)) in
    let sent = (lost.ensures.idle (c.loop-kind.invariant.sent over)).0 in cc) (
      r.2.given,
      begins-report c.loop-kind.report_writer r.0 r.2.given r.2.shows,
      lost.ensures.bytes _ r.2.given r.2.waits,
    ) (lost.ensures.counts.failed.0 refl)))

pub returns-in-Err : goal.returns-in-Err
returns-in-Err g c =
    let r = c.loop-kind.invariant.shows in
    let next = c.in-Err.ensures in
    let sent = c.in_ok-send-in-Err.ensures in
    rw c.from.ensures (
    shows-early _ c.next.new.self (search rules) r.0 c.in-Err.fault (next.gives 268435456 _ r.0 r.1)
    next.failed next.once (record {
      bytes = r.2.given;
      report = begins-report c.loop-kind.report_writer r.0 r.2.given r.2.shows;
      written = HasGiven-empty _ _ c.send-in-Err.new.self r.2.given sent.empty
          (sent.bytes _ r.2.given r.2.waits);
    }) sent.counts.none)
