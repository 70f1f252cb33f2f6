use Rattle.std.proofs.Common.{rules, ◌≡◌, ◌∙◌, ◌++◌, ◌∷◌, [], true, false, Err, refl, sym, ap, subst}
use Rattle.std.proofs.lemmas.Result.{err_from_is_err_and}
use Rattle.nx_fec.specs.air_files.LineReading.{GivesNext, SaysOver}
use Rattle.nx_fec.specs.declared.air_files.line_reader.NextLine.TheVariants as line
use Rattle.nx_fec.proofs.lemmas.line_runs.LineReading.{Given-not_read, asked-read, next-line, unfailed}
use Rattle.nx_fec.proofs.lemmas.line_runs.LineRun.{HasGiven-empty}
use Rattle.nx_station.specs.Damage.{Damage, damaged_file}
use Rattle.nx_station.proofs.lemmas.damage.DamageLaws.{damaged-all, damaged-early, damaged-lost}
use Rattle.nx_station.proofs.lemmas.damage.DamageLaws.{damaged-lost-early}
use Rattle.nx_station.proofs.damaging.damage.Goals as goal

pub loop-kind-preserved-in-Continue-1 : goal.loop-kind-preserved-in-Continue-1
loop-kind-preserved-in-Continue-1 g c =
    let damage : Damage = record { kind = c.args.kind; from = c.args.from; count = c.args.count } in
    let r = c.loop-kind.invariant.damaged in
    let next = c.in-Ok-Line.ensures in
    let is : c.in-Ok-Line.field-0 ≡ line.Line c.in-Ok-Line.kind = search rules in
    let n = next-line g.R.Read.remaining 268435456 _ c.next.new.self r.0 c.in-Ok-Line.kind
    c.in-Ok-Line.field-0 is (next.gives 268435456 _ r.0 r.1) next.line in
    record {
      same = next.same ∙ c.loop-kind.invariant.same;
      reader = unfailed _ _ (Given-not_read _) next.failed next.once;
      writer = c.in_ok-give_line-in-Ok-Line.ensures.counts.none;
      damaged = (
        r.0 ++ n.line ∷ [],
        n.given,
        c.in_ok-give_line-in-Ok-Line.ensures.given damage _ r.0 n.line
            (c.text.ensures n.line n.latest) n.kind_is r.2,
      );
      sent = λ over.
          let no : false ≡ true = sym (subst (SaysOver _ _) is next.over) ∙ over in
          absurd (cc);
    }

pub returns-in_err-give_line-in-Ok-Line : goal.returns-in_err-give_line-in-Ok-Line
returns-in_err-give_line-in-Ok-Line g c =
    let damage : Damage = record { kind = c.args.kind; from = c.args.from; count = c.args.count } in
    let r = c.loop-kind.invariant.damaged in
    let next = c.in-Ok-Line.ensures in
    let is : c.in-Ok-Line.field-0 ≡ line.Line c.in-Ok-Line.kind = search rules in
    let n = next-line g.R.Read.remaining 268435456 _ c.next.new.self r.0 c.in-Ok-Line.kind
    c.in-Ok-Line.field-0 is (next.gives 268435456 _ r.0 r.1) next.line in
    let lost = c.in_err-give_line-in-Ok-Line in
    let p = err_from_is_err_and c.from_residual.result c.from_residual.ensures.1 in
    rw p.1 (rw p.2 (damaged-lost damage _ c.next.new.self (search rules) (r.0 ++ n.line ∷ [])
    lost.field-0.0.written n.given (unfailed _ _ (Given-not_read _) next.failed next.once)
    (lost.ensures.given damage _ r.0 n.line (c.text.ensures n.line n.latest) n.kind_is r.2)
    (lost.ensures.counts.failed.0 refl)))

pub returns-in_err-send-in-Ok-PieceOver : goal.returns-in_err-send-in-Ok-PieceOver
returns-in_err-send-in-Ok-PieceOver g c =
    let damage : Damage = record { kind = c.args.kind; from = c.args.from; count = c.args.count } in
    let r = c.loop-kind.invariant.damaged in
    let next = c.in-Ok-PieceOver.ensures in
    let is : c.in-Ok-PieceOver.field-0 ≡ line.PieceOver = search rules in
    let lost = c.in_err-send-in-Ok-PieceOver in
    let p = err_from_is_err_and c.from_residual-in_err-send-in-Ok-PieceOver.result
    c.from_residual-in_err-send-in-Ok-PieceOver.ensures.1 in
    rw p.1 (rw p.2 (damaged-lost damage _ c.next.new.self (search rules) r.0
    lost.field-0.0.written
    (subst (GivesNext g.R.Read.remaining 268435456 (g.R.Read.remaining c.args.reader.now.inner)
    c.next.new.self r.0) is (next.gives 268435456 _ r.0 r.1))
    (unfailed _ _ (Given-not_read _) next.failed next.once)
    (lost.ensures.bytes _ (damaged_file damage r.0) r.2.given)
    (lost.ensures.counts.failed.0 refl)))

pub returns-in-Ok-End : goal.returns-in-Ok-End
returns-in-Ok-End g c =
    let damage : Damage = record { kind = c.args.kind; from = c.args.from; count = c.args.count } in
    let r = c.loop-kind.invariant.damaged in
    let next = c.in-Ok-End.ensures in
    let is : c.in-Ok-End.field-0 ≡ line.End = search rules in
    rw (ap (λ v. v.inverted) c.damaging.view_is) (
    damaged-all damage _ c.next.new.self (search rules) r.0 c.loop-kind.damaging
    (subst (GivesNext g.R.Read.remaining 268435456 (g.R.Read.remaining c.args.reader.now.inner)
    c.next.new.self r.0) is (next.gives 268435456 _ r.0 r.1))
    (unfailed _ _ (Given-not_read _) next.failed next.once)
    r.2.stands (HasGiven-empty _ _ c.loop-kind.batch _
    (c.loop-kind.invariant.sent (subst (SaysOver _ _) is next.over)) r.2.given)
    c.loop-kind.invariant.writer)

pub returns-in_err-send-in-Err : goal.returns-in_err-send-in-Err
returns-in_err-send-in-Err g c =
    let damage : Damage = record { kind = c.args.kind; from = c.args.from; count = c.args.count } in
    let r = c.loop-kind.invariant.damaged in
    let next = c.in-Err.ensures in
    let lost = c.in_err-send-in-Err in
    let p = err_from_is_err_and c.from_residual-in_err-send-in-Err.result
    c.from_residual-in_err-send-in-Err.ensures.1 in
    rw p.1 (rw p.2 (damaged-lost-early damage _ c.next.new.self (search rules) r.0 c.in-Err.fault
    lost.field-0.0.written (next.gives 268435456 _ r.0 r.1) next.failed next.once
    (λ is. let over = asked-read c.loop-kind.lines c.next.new.self next.unread
    c.loop-kind.invariant.reader (next.failed.0 (ap Err is)) in
    let sent = (lost.ensures.idle (c.loop-kind.invariant.sent over)).0 in cc)
    (lost.ensures.bytes _ (damaged_file damage r.0) r.2.given)
    (lost.ensures.counts.failed.0 refl)))

pub returns-in-Err : goal.returns-in-Err
returns-in-Err g c =
    let damage : Damage = record { kind = c.args.kind; from = c.args.from; count = c.args.count } in
    let r = c.loop-kind.invariant.damaged in
    let next = c.in-Err.ensures in
    let sent = c.in_ok-send-in-Err.ensures in
    rw c.from.ensures (
    damaged-early damage _ c.next.new.self (search rules) r.0 c.in-Err.fault
    (next.gives 268435456 _ r.0 r.1) next.failed next.once
    (HasGiven-empty _ _ c.send-in-Err.new.self _ sent.empty
    (sent.bytes _ (damaged_file damage r.0) r.2.given)) sent.counts.none)
