use Rattle.std.proofs.Common.{◌∙◌, ◌++◌, ◌∷◌, [], List, ℕ, None, Some, ap, append-nil, map, option_to_list, refl}
use Rattle.std.proofs.Common.{subst, sym, take}
use Rattle.nx_watch.specs.private.Scanning.{IsScanning}
use Rattle.nx_watch.specs.private.LoggingListener.{TakesLines, logging_to}
use Rattle.nx_watch.proofs.lemmas.lines.AnyLines.{said-some}
use Rattle.nx_watch.proofs.lemmas.lines.Run.{taken-idle, whole-behind}
use Rattle.nx_watch.proofs.lemmas.lines.Told.{tells-on}
use Rattle.nx_watch.proofs.lemmas.lines.Scanning.{parts}
use Rattle.nx_watch.specs.declared.lines.any_lines.AnyLines.{AnyLines}
use Rattle.nx_watch.proofs.line_run.LineRun.take_next.Goals as goal

pub returns-in-PieceOver-clause-taken : goal.returns-in-PieceOver-clause-taken
returns-in-PieceOver-clause-taken g c =
    let k = c.in-PieceOver.ensures.looks in
    let piece = c.args.self.now.lines.piece in (
      k.count,
      k.within,
      k.rest,
      λ start first old bytes force r. record {
        lines = r.lines;
        scans = subst (IsScanning c.next.new.self.scanner (bytes ++ take k.count piece))
            (append-nil r.lines) (k.scans bytes r.lines r.scans);
        taken = r.taken;
        tells = λ behind. tells-on first c.args.self.now.effects old
            (g.F.Write.contents c.args.notices.now.inner) c.args.notices.now.failures bytes
            (take k.count piece) behind r.lines r.tells;
      },
    )

pub returns-in-Unknown-clause-taken : goal.returns-in-Unknown-clause-taken
returns-in-Unknown-clause-taken g c =
    let k = c.in-Unknown.ensures.looks in
    let piece = c.args.self.now.lines.piece in
    let stands = TakesLines g.C.ChannelReceiver.kind g.D.DiskFile g.W.Write.contents in (
      k.count,
      k.within,
      ap (λ (l : AnyLines). l.piece) c.pass_line.ensures.reader ∙ k.rest,
      λ start first old bytes force r. record {
        lines = r.lines ++ None ∷ [];
        scans = subst (λ (l : AnyLines). IsScanning l.scanner (bytes ++ take k.count piece)
            (r.lines ++ None ∷ [])) (sym c.pass_line.ensures.reader)
            (k.scans bytes r.lines r.scans);
        taken = taken-idle stands start (logging_to c.args.logging.now c.args.writer.now) first
            r.lines None r.taken refl refl;
        tells = λ behind. c.pass_line.ensures.tells first old
            ((bytes ++ take k.count piece) ++ behind) r.lines
            (k.reason bytes r.lines r.scans behind)
            (tells-on first c.args.self.now.effects old
            (g.F.Write.contents c.args.notices.now.inner) c.args.notices.now.failures bytes
            (take k.count piece) behind r.lines r.tells);
      },
    )

pub returns-in-Ok-clause-taken : goal.returns-in-Ok-clause-taken
returns-in-Ok-clause-taken g c =
    let k = c.in-Known.ensures.looks in
    let piece = c.args.self.now.lines.piece in
    let latest = c.next.new.self.scanner.scanner.latest in
    let one = said-some latest c.in-Known.kind c.in-Known.ensures.line in (
      k.count,
      k.within,
      ap (λ (l : AnyLines). l.piece) c.take_known.ensures.reader ∙ k.rest,
      λ start first old bytes force r.
          let front = bytes ++ take k.count piece in
          let taken = λ (behind : List ℕ). c.in-Ok.ensures.taken start first old (front ++ behind)
          r.lines one.0 force one.1 r.taken (tells-on first c.args.self.now.effects old
          (g.F.Write.contents c.args.notices.now.inner) c.args.notices.now.failures bytes
          (take k.count piece) behind r.lines r.tells) in
          record {
            lines = r.lines ++ Some one.0 ∷ [];
            scans = subst (λ (l : AnyLines). IsScanning l.scanner front
                (r.lines ++ Some one.0 ∷ [])) (sym c.take_known.ensures.reader)
                (subst (λ l. IsScanning c.next.new.self.scanner front (r.lines ++ l))
                (ap (λ o. map Some (option_to_list o)) one.1) (k.scans bytes r.lines r.scans));
            taken = (taken []).0;
            tells = λ behind. (taken behind).1;
          },
    )

pub returns-in-Err-clause-taken : goal.returns-in-Err-clause-taken
returns-in-Err-clause-taken g c =
    let k = c.in-Known.ensures.looks in
    let piece = c.args.self.now.lines.piece in
    let latest = c.next.new.self.scanner.scanner.latest in
    let one = said-some latest c.in-Known.kind c.in-Known.ensures.line in (
      k.count,
      k.within,
      ap (λ (l : AnyLines). l.piece) c.take_known.ensures.reader ∙ k.rest,
      λ start first old bytes force r more.
          let front = bytes ++ take k.count piece in
          let scans = subst (λ l. IsScanning c.next.new.self.scanner front (r.lines ++ l))
          (ap (λ o. map Some (option_to_list o)) one.1) (k.scans bytes r.lines r.scans) in
          let p = parts c.next.new.self.scanner _ _ scans in
          c.in-Err.ensures.taken start first old ((bytes ++ piece) ++ more) r.lines one.0 force
          one.1 r.taken (tells-on first c.args.self.now.effects old
          (g.F.Write.contents c.args.notices.now.inner) c.args.notices.now.failures bytes piece
          more r.lines r.tells) p.front p.are _
          (whole-behind bytes piece more p.front _ k.count p.whole),
    )
