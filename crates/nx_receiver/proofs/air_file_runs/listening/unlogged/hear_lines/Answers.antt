use Rattle.std.proofs.Common.{rules, ◌≡◌, ◌∙◌, ◌++◌, ◌∷◌, [], subst, sym}
use Rattle.nx_fec.specs.Transfers.{input}
use Rattle.nx_fec.specs.air_files.AirFile.{Line}
use Rattle.nx_fec.specs.air_files.LineReading.{GivesNext, SaysLatest}
use Rattle.nx_fec.specs.air_files.Scanner.{line_with}
use Rattle.nx_fec.specs.declared.air_files.line_reader.NextLine.TheVariants as line
use Rattle.nx_fec.proofs.lemmas.line_runs.LineReading.{Given-not_read, next-line, unfailed}
use Rattle.nx_receiver.specs.private.Listener.{starts_of}
use Rattle.nx_receiver.specs.private.Unlogged.{StandsUnlogged}
use Rattle.nx_receiver.proofs.lemmas.listening.Lines.{last-line, refused-heard}
use Rattle.nx_receiver.proofs.lemmas.listening.Stops.{hears-all, hears-early, hears-to}
use Rattle.nx_receiver.proofs.air_file_runs.listening.unlogged.hear_lines.Goals as goal

pub loop-kind-preserved-in_default : goal.loop-kind-preserved-in_default
loop-kind-preserved-in_default g c =
    let next = c.in-Ok-Line.ensures in
    let is : c.in-Ok-Line.field-0 ≡ line.Line c.in-Ok-Line.kind = search rules in
    record {
      same = next.same ∙ c.loop-kind.invariant.same;
      reader = unfailed _ _ (Given-not_read _) next.failed next.once;
      taken = λ first s.
          let r = c.loop-kind.invariant.taken first s in
          let n = next-line g.R.Read.remaining 268435456 _ c.next.new.self r.0 c.in-Ok-Line.kind
          c.in-Ok-Line.field-0 is (next.gives 268435456 _ r.0 r.1) next.line in
          let said = subst (SaysLatest c.next.new.self.scanner.latest) is next.line in (
            r.0 ++ n.line ∷ [],
            n.given,
            subst (λ (l : Line). StandsUnlogged first c.take_unlogged.new.listener (r.0 ++ l ∷ []))
                (sym (last-line _ c.in-Ok-Line.kind c.elements.result.now n.line said n.latest
                c.elements.ensures))
                (c.in_default.ensures (starts_of first) r.0 r.2),
          );
    }

pub loop-kind-preserved : goal.loop-kind-preserved
loop-kind-preserved g c =
    let next = c.in-Ok-PieceOver.ensures in
    let is : c.in-Ok-PieceOver.field-0 ≡ line.PieceOver = search rules in
    record {
      same = next.same ∙ c.loop-kind.invariant.same;
      reader = unfailed _ _ (Given-not_read _) next.failed next.once;
      taken = λ first s.
          let r = c.loop-kind.invariant.taken first s in (
            r.0,
            subst (GivesNext g.R.Read.remaining 268435456
                (g.R.Read.remaining c.args.reader.now.inner) c.next.new.self r.0) is
                (next.gives 268435456 _ r.0 r.1),
            r.2,
          );
    }

pub returns-in-Err-take_unlogged : goal.returns-in-Err-take_unlogged
returns-in-Err-take_unlogged g c = λ first s.
    let r = c.loop-kind.invariant.taken first s in
    let next = c.in-Ok-Line.ensures in
    let is : c.in-Ok-Line.field-0 ≡ line.Line c.in-Ok-Line.kind = search rules in
    let n = next-line g.R.Read.remaining 268435456 _ c.next.new.self r.0 c.in-Ok-Line.kind
    c.in-Ok-Line.field-0 is (next.gives 268435456 _ r.0 r.1) next.line in
    let said = subst (SaysLatest c.next.new.self.scanner.latest) is next.line in
    let why = c.in-Err-take_unlogged.why in
    let now = c.take_unlogged.new.listener in
    let refused = refused-heard (starts_of first) c.loop-kind.listener now r.0 n.line
    (line_with c.in-Ok-Line.kind c.elements.result.now) why
    (last-line _ c.in-Ok-Line.kind c.elements.result.now n.line said n.latest c.elements.ensures)
    r.2 (c.in-Err-take_unlogged.ensures (starts_of first) r.0 r.2) in
    rw c.of_refusal.ensures (rw c.lines.ensures (hears-to first now
    (input g.R.Read.remaining c.args.reader.now _) c.next.new.self (search rules) r.0 n.line why
    n.good n.given (unfailed _ _ (Given-not_read _) next.failed next.once) refused.0 refused.1))

pub returns-in-Ok-End : goal.returns-in-Ok-End
returns-in-Ok-End g c = λ first s.
    let r = c.loop-kind.invariant.taken first s in
    let next = c.in-Ok-End.ensures in
    let is : c.in-Ok-End.field-0 ≡ line.End = search rules in
    hears-all first c.loop-kind.listener (input g.R.Read.remaining c.args.reader.now _)
    c.next.new.self (search rules) r.0 c.lines-count.result
    (subst (GivesNext g.R.Read.remaining 268435456 (g.R.Read.remaining c.args.reader.now.inner)
    c.next.new.self r.0) is (next.gives 268435456 _ r.0 r.1))
    (unfailed _ _ (Given-not_read _) next.failed next.once) r.2
    (c.lines-count.ensures ∙ r.1.scans.count)

pub returns-in-Err : goal.returns-in-Err
returns-in-Err g c = λ first s.
    let r = c.loop-kind.invariant.taken first s in
    let next = c.in-Err.ensures in
    rw c.from.ensures (hears-early first c.loop-kind.listener
    (input g.R.Read.remaining c.args.reader.now _) c.next.new.self (search rules) r.0
    c.in-Err.fault (next.gives 268435456 _ r.0 r.1) next.failed next.once r.2)
