use Rattle.std.proofs.Common.{◌≡◌, ◌⊎◌, ◌∙◌, ◌++◌, ℕ, List, [], append-nil, arith, inl, inr, length, subst}
use Rattle.std.specs.Io.KnownBytes.{IsAtEnd}
use Rattle.nx_watch.specs.Stamps.{counted_of, stamps_of}
use Rattle.nx_watch.specs.private.LoggingListener.{TakesLines, logging_to}
use Rattle.nx_watch.specs.AnyLines.{cut_line}
use Rattle.nx_watch.specs.private.Running.{HasToldSo, IsToldByEnd, TellsFirst}
use Rattle.nx_watch.specs.private.Stamping.{StandsStamped, telling}
use Rattle.nx_watch.proofs.lemmas.lines.Run.{answers-told, none-taken, run-starts}
use Rattle.nx_watch.proofs.lemmas.lines.Told.{by-end}
use Rattle.nx_watch.proofs.lemmas.log.Stamping.{ends-stamped, running-stamped}
use Rattle.nx_watch.proofs.line_run.watch_lines.Goals as goal

-- the limit is the room that there was
at-limit : (End : Type 0) (bytes : List ℕ) (room limit : ℕ) → End ⊎ (length bytes ≡ room)
    → room ≡ limit → End ⊎ (length bytes ≡ limit)
at-limit End bytes room limit (inl end) is = inl end
at-limit End bytes room limit (inr all) is = inr (all ∙ is)

pub returns-in-Ok-clause-watched : goal.returns-in-Ok-clause-watched
returns-in-Ok-clause-watched g c = λ start old force well stood told.
    let disk = g.D.DiskFile in
    let kind = g.C.ChannelReceiver.kind in
    let stands = TakesLines kind disk g.W.Write.contents in
    let before = logging_to start c.args.writer.now in
    let r = c.in-Ok.ensures.read before c.args.first old force well
    (run-starts stands before (logging_to c.args.logging.now c.args.writer.now) c.args.first _ old
    (g.F.Write.contents c.args.notices.now.inner) c.args.notices.now.failures
    c.new.ensures.stands c.new-2.ensures
    (none-taken kind disk g.W.Write.contents start c.args.logging.now
    c.args.writer.now stood c.requires.writer) told) in
    let run = r.5.1.from_start in
    let taken = running-stamped kind disk g.W.Write.contents g.F.Write.contents old c.args.first
    before
    (logging_to c.read_lines.new.logging c.read_lines.new.writer) c.read_lines.new.self r.3
    (g.F.Write.contents c.read_lines.new.notices.inner) c.read_lines.new.notices.failures r.0
    (stamps_of c.read_lines.new.reader) r.5.1 in
    let e = c.end.ensures c.args.first r.3 r.0 run.lines run.scans
    (subst (λ b. TellsFirst c.args.first c.read_lines.new.self.effects r.3
    (g.F.Write.contents c.read_lines.new.notices.inner) c.read_lines.new.notices.failures b
    run.lines) (append-nil r.0) (run.tells [])) in (
      r.0,
      r.1,
      (omega (arith, r.2.0, c.new.ensures.room), r.2.1),
      (
        at-limit _ _ _ _ r.5.0 c.new.ensures.room,
        run.lines,
        e.rest,
        e.are,
        taken,
        e.counted,
        by-end c.args.first old r.3 c.read_lines.new.logging.keeper.has_failed
            (g.F.Write.contents c.end.new.notices.inner) c.end.new.notices.failures r.0
            (run.lines ++ cut_line e.rest) r.4 e.told,
      ),
    )

pub returns-in-Err-clause-watched : goal.returns-in-Err-clause-watched
returns-in-Err-clause-watched g c = λ start old force well stood told.
    let disk = g.D.DiskFile in
    let kind = g.C.ChannelReceiver.kind in
    let stands = TakesLines kind disk g.W.Write.contents in
    let before = logging_to start c.args.writer.now in
    let stamps = stamps_of c.read_lines.new.reader in
    let now = logging_to c.read_lines.new.logging c.read_lines.new.writer in
    let now_told = g.F.Write.contents c.read_lines.new.notices.inner in
    let failures = c.read_lines.new.notices.failures in
    let r = c.in-Err.ensures.read before c.args.first old force well
    (run-starts stands before (logging_to c.args.logging.now c.args.writer.now) c.args.first _ old
    (g.F.Write.contents c.args.notices.now.inner) c.args.notices.now.failures
    c.new.ensures.stands c.new-2.ensures
    (none-taken kind disk g.W.Write.contents start c.args.logging.now
    c.args.writer.now stood c.requires.writer) told) in (
      r.0,
      r.1,
      (omega (arith, r.2.0, c.new.ensures.room), r.2.1),
      answers-told (record {
        stands = StandsStamped (telling kind disk g.W.Write.contents g.F.Write.contents old)
            c.args.first r.0 stamps;
        start = before;
        now = now;
        first = c.args.first;
        AtEnd = ⊥;
        tells = TellsFirst c.args.first c.read_lines.new.self.effects r.3 now_told failures r.0;
      }) (IsAtEnd (g.R.Read.remaining (counted_of c.read_lines.new.reader).inner)
          ⊎ (length r.0 ≡ c.args.limit))
          (λ lines. HasToldSo old (g.F.Write.contents c.count.new.notices.inner)
          c.count.new.notices.failures (IsToldByEnd c.args.first r.0 lines
          c.read_lines.new.logging.keeper.has_failed)) c.in-Err.end r.0
          (λ lines tells. by-end c.args.first old r.3 c.read_lines.new.logging.keeper.has_failed
          (g.F.Write.contents c.count.new.notices.inner) c.count.new.notices.failures r.0 lines r.4
          (c.count.ensures.told c.args.first r.3 r.0 lines tells))
          (ends-stamped kind disk g.W.Write.contents g.F.Write.contents old c.args.first before now
          c.read_lines.new.self.effects r.3 now_told failures c.in-Err.end r.0 stamps r.5),
    )
