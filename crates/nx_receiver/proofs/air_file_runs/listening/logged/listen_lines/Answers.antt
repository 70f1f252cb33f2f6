use Rattle.std.proofs.Common.{rules, ◌≡◌, ◌∙◌, ◌++◌, ◌∷◌, [], true, false, Err, ap, refl, subst, sym}
use Rattle.std.proofs.lemmas.Result.{err_from_is_err_and}
use Rattle.nx_fec.specs.Transfers.{devices}
use Rattle.nx_fec.specs.air_files.LineReading.{GivesNext, SaysOver}
use Rattle.nx_fec.specs.declared.air_files.line_reader.NextLine.TheVariants as line
use Rattle.nx_fec.proofs.lemmas.line_runs.LineReading.{Given-not_read, asked-read, next-line, unfailed}
use Rattle.nx_fec.proofs.lemmas.line_runs.LineRun.{HasGiven-written, HasTaken-map}
use Rattle.nx_receiver.specs.Listener.{starts_by}
use Rattle.nx_receiver.specs.private.Listener.{StandsFromBy}
use Rattle.nx_receiver.specs.private.Runs.{StopsAtLineBy}
use Rattle.nx_receiver.proofs.lemmas.listening.Runs.{all-logged, some-logged, stop-told}
use Rattle.nx_receiver.proofs.lemmas.listening.Stops.{takes-all, takes-early, takes-lost, takes-lost-early}
use Rattle.nx_receiver.proofs.lemmas.listening.Stops.{takes-to}
use Rattle.nx_receiver.proofs.air_file_runs.listening.logged.listen_lines.Goals as goal

pub loop-kind-preserved-in_default : goal.loop-kind-preserved-in_default
loop-kind-preserved-in_default g c =
    let next = c.in-Ok-Line.ensures in
    let is : c.in-Ok-Line.field-0 ≡ line.Line c.in-Ok-Line.kind = search rules in
    record {
      same = next.same ∙ c.loop-kind.invariant.same;
      reader = unfailed _ _ (Given-not_read _) next.failed next.once;
      writer = search rules;
      taken = λ first s.
          let r = c.loop-kind.invariant.taken first s in
          let n = next-line g.R.Read.remaining 268435456 _ c.next.new.self r.0 c.in-Ok-Line.kind
          c.in-Ok-Line.field-0 is (next.gives 268435456 _ r.0 r.1) next.line in (
            r.0 ++ n.line ∷ [],
            n.given,
            c.in_default.ensures.taken first _ r.0 n.line n.latest r.2,
          );
      sent = λ over.
          let no : false ≡ true = sym (subst (SaysOver _ _) is next.over) ∙ over in
          absurd (cc);
    }

pub loop-kind-preserved : goal.loop-kind-preserved
loop-kind-preserved g c =
    let next = c.in-Ok-PieceOver.ensures in
    let sent = c.in_ok-send-in-Ok-PieceOver.ensures in
    let is : c.in-Ok-PieceOver.field-0 ≡ line.PieceOver = search rules in
    record {
      same = next.same ∙ c.loop-kind.invariant.same;
      reader = unfailed _ _ (Given-not_read _) next.failed next.once;
      writer = sent.counts.none;
      taken = λ first s.
          let r = c.loop-kind.invariant.taken first s in (
            r.0,
            subst (GivesNext g.R.Read.remaining 268435456
                (g.R.Read.remaining c.args.reader.now.inner) c.next.new.self r.0) is
                (next.gives 268435456 _ r.0 r.1),
            HasTaken-map (StandsFromBy g.C.ChannelReceiver.kind) first c.loop-kind.listener r.0 _ _
                (λ given k. sent.bytes _ given k) r.2,
          );
      sent = λ over. sent.empty;
    }

pub returns-in-Err-take_line : goal.returns-in-Err-take_line
returns-in-Err-take_line g c = λ first s.
    let kind = g.C.ChannelReceiver.kind in
    let r = c.loop-kind.invariant.taken first s in
    let next = c.in-Ok-Line.ensures in
    let is : c.in-Ok-Line.field-0 ≡ line.Line c.in-Ok-Line.kind = search rules in
    let n = next-line g.R.Read.remaining 268435456 _ c.next.new.self r.0 c.in-Ok-Line.kind
    c.in-Ok-Line.field-0 is (next.gives 268435456 _ r.0 r.1) next.line in
    let old = g.W.Write.contents c.args.writer.now.inner in
    let told = c.end_at_line.ensures in
    let stops = stop-told g.met.C.ChannelReceiver.laws first c.take_line.new.listener old _
    (g.W.Write.contents c.end_at_line.new.writer.inner) _ r.0 n.line c.lines.result
    c.in-Err-take_line.stop c.end_at_line.result
    (c.in-Err-take_line.ensures.taken first old r.0 n.line n.latest r.2) told.tells in
    let at : StopsAtLineBy kind.printing (starts_by kind first)
    (record { before = old; after = g.W.Write.contents c.end_at_line.new.writer.inner }) r.0 n.line
    c.next.new.self.scanner.lines c.end_at_line.result =
    subst (λ number. StopsAtLineBy kind.printing (starts_by kind first)
    (record { before = old; after = g.W.Write.contents c.end_at_line.new.writer.inner }) r.0 n.line
    number c.end_at_line.result) c.lines.ensures stops in
    takes-to kind first c.take_line.new.listener
    (devices g.R.Read.remaining g.W.Write.contents c.args.reader.now _ c.args.writer.now
    c.end_at_line.new.writer) c.next.new.self (search rules) r.0 n.line c.end_at_line.result n.good
    n.given (unfailed _ _ (Given-not_read _) next.failed next.once) at told.writes

pub returns-in_err-send-in-Ok-PieceOver : goal.returns-in_err-send-in-Ok-PieceOver
returns-in_err-send-in-Ok-PieceOver g c = λ first s.
    let kind = g.C.ChannelReceiver.kind in
    let r = c.loop-kind.invariant.taken first s in
    let next = c.in-Ok-PieceOver.ensures in
    let is : c.in-Ok-PieceOver.field-0 ≡ line.PieceOver = search rules in
    let lost = c.in_err-send-in-Ok-PieceOver in
    let p = err_from_is_err_and c.from_residual.result
    c.from_residual.ensures.1 in
    rw p.1 (rw p.2 (takes-lost kind first c.loop-kind.listener _ c.next.new.self (search rules) r.0
    lost.field-0.0.written
    (subst (GivesNext g.R.Read.remaining 268435456 (g.R.Read.remaining c.args.reader.now.inner)
    c.next.new.self r.0) is (next.gives 268435456 _ r.0 r.1))
    (unfailed _ _ (Given-not_read _) next.failed next.once)
    (some-logged g.met.C.ChannelReceiver.laws first c.loop-kind.listener _ _ _ _ r.0
    lost.field-0.0.written r.2 (λ given k. lost.ensures.bytes _ given k))
    (lost.ensures.counts.failed.0 refl)))

pub returns-in-Ok-End : goal.returns-in-Ok-End
returns-in-Ok-End g c = λ first s.
    let kind = g.C.ChannelReceiver.kind in
    let r = c.loop-kind.invariant.taken first s in
    let next = c.in-Ok-End.ensures in
    let is : c.in-Ok-End.field-0 ≡ line.End = search rules in
    takes-all kind first c.loop-kind.listener _ c.next.new.self (search rules) r.0
    c.lines-count.result c.bytes_sent-written.result
    (subst (GivesNext g.R.Read.remaining 268435456 (g.R.Read.remaining c.args.reader.now.inner)
    c.next.new.self r.0) is (next.gives 268435456 _ r.0 r.1))
    (unfailed _ _ (Given-not_read _) next.failed next.once)
    (HasTaken-map (StandsFromBy kind) first c.loop-kind.listener r.0 _ _
    (λ given k. HasGiven-written _ _ c.loop-kind.batch given c.bytes_sent-written.result
    (c.loop-kind.invariant.sent (subst (SaysOver _ _) is next.over)) c.bytes_sent-written.ensures
    k) r.2)
    (c.lines-count.ensures ∙ r.1.scans.count) c.loop-kind.invariant.writer

pub returns-in_err-send-in-Err : goal.returns-in_err-send-in-Err
returns-in_err-send-in-Err g c = λ first s.
    let kind = g.C.ChannelReceiver.kind in
    let r = c.loop-kind.invariant.taken first s in
    let next = c.in-Err.ensures in
    let lost = c.in_err-send-in-Err in
    let p = err_from_is_err_and c.from_residual-in_err-send-in-Err.result
    c.from_residual-in_err-send-in-Err.ensures.1 in
    rw p.1 (rw p.2 (takes-lost-early kind first c.loop-kind.listener _ c.next.new.self
    (search rules) r.0 c.in-Err.fault lost.field-0.0.written (next.gives 268435456 _ r.0 r.1)
    next.failed next.once
    (λ is. let over = asked-read c.loop-kind.lines c.next.new.self next.unread
    c.loop-kind.invariant.reader (next.failed.0 (ap Err is)) in
    let sent = (lost.ensures.idle (c.loop-kind.invariant.sent over)).0 in cc)
    (some-logged g.met.C.ChannelReceiver.laws first c.loop-kind.listener _ _ _ _ r.0
    lost.field-0.0.written r.2 (λ given k. lost.ensures.bytes _ given k))
    (lost.ensures.counts.failed.0 refl)))

pub returns-in-Err : goal.returns-in-Err
returns-in-Err g c = λ first s.
    let kind = g.C.ChannelReceiver.kind in
    let r = c.loop-kind.invariant.taken first s in
    let next = c.in-Err.ensures in
    let sent = c.in_ok-send-in-Err.ensures in
    rw c.from.ensures (takes-early kind first c.loop-kind.listener _ c.next.new.self (search rules)
    r.0 c.in-Err.fault (next.gives 268435456 _ r.0 r.1) next.failed next.once
    (all-logged first c.loop-kind.listener _ _ c.send-in-Err.new.self r.0 sent.empty
    (HasTaken-map (StandsFromBy kind) first c.loop-kind.listener r.0 _ _
    (λ given k. sent.bytes _ given k) r.2)) sent.counts.none)
