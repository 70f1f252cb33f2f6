use Rattle.std.proofs.Common.{◌≡◌, false, ◌+◌, ◌≤◌, ◌∙◌, ◌++◌, ◌∷◌, [], ℕ, List, inl, inr, length}
use Rattle.std.proofs.Common.{length-append, ap, sym, take, subst, arith, append-nil, refl}
use Rattle.std.specs.List.{All}
use Rattle.std.proofs.KnownBytes.{Consumes-kept, Consumes-trans}
use Rattle.std.specs.Io.KnownBytes.{Consumes}
use Rattle.nx_receiver.specs.Listener.{ListeningOver, starts_by}
use Rattle.nx_watch.specs.Stamp.{stamp}
use Rattle.nx_watch.specs.Stamps.{bytes_given, counted_of, stamps_of}
use Rattle.nx_watch.specs.private.AnyReading.{GoesOn}
use Rattle.nx_watch.specs.private.LoggingListener.{LoggingTo, TakesLines, logging_to}
use Rattle.nx_watch.specs.private.Running.{EndsRun, IsBeside, IsRunning, TellsFirst, ToldBefore, ToldBeside, beside}
use Rattle.nx_watch.specs.private.Stamping.{RunsStamped, WasRunning, telling}
use Rattle.nx_watch.specs.declared.line_run.LineRun.{LineRun}
use Rattle.nx_watch.specs.declared.line_run.WatchEnd.TheVariants.{Read}
use Rattle.nx_watch.specs.declared.lines.line_effects.StartMoments.{StartMoments}
use Rattle.nx_watch.specs.declared.stamped.StampedReader.{StampedReader}
use Rattle.nx_watch.proofs.lemmas.lines.AnyLines.{looked-all, looked-length, looked-on, running-fails}
use Rattle.nx_watch.proofs.lemmas.lines.AnyLines.{running-read}
use Rattle.nx_watch.proofs.lemmas.lines.Run.{answers-told, running-told}
use Rattle.nx_watch.proofs.lemmas.lines.Told.{told-beside}
use Rattle.nx_watch.proofs.lemmas.log.Stamping.{later-bytes, reads-on, says-too, stamp-now, stamped-now}
use Rattle.nx_watch.proofs.line_run.LineRun.read_lines.Goals as goal
use Rattle.nx_watch.proofs.line_run.LineRun.read_lines.Goals.{After-read}

-- the lines of the piece were taken, and what there was to tell was told
settled : (g : _) → (c : After-read g)
    → (start : LoggingTo g.row.D.Denot g.row.C.Denot g.row.W.Denot) (first : StartMoments)
    (old : ToldBefore)
    → (starts_by g.C.ChannelReceiver.kind start.logging.listener).moment ≡ first.newest
    → c.args.logging.now.keeper.has_failed ≡ false
    → IsRunning (TakesLines g.C.ChannelReceiver.kind g.D.DiskFile g.W.Write.contents) start
    (logging_to c.args.logging.now c.args.writer.now) first c.args.self.now (beside old)
    (g.F.Write.contents c.args.notices.now.inner) c.args.notices.now.failures []
    → (bytes : List ℕ)
    × Consumes (g.R.Read.remaining (counted_of c.args.reader.now).inner)
    (g.R.Read.remaining (counted_of c.loop-has_failed.reader).inner) bytes
    × (length bytes + c.take_next.new.self.lines.room ≡ c.args.self.now.lines.room)
    × (told : ToldBeside) × IsBeside old c.take_next.new.logging.keeper.has_failed told
    × RunsStamped (telling g.C.ChannelReceiver.kind g.D.DiskFile g.W.Write.contents
    g.F.Write.contents old) first bytes
    c.take_next.new.self.effects.lines start
    (λ since. IsRunning (TakesLines g.C.ChannelReceiver.kind g.D.DiskFile g.W.Write.contents) since
    (logging_to c.take_next.new.logging c.take_next.new.writer) first c.take_next.new.self told
    (g.F.Write.contents c.tell_failed_put.new.notices.inner)
    c.tell_failed_put.new.notices.failures bytes) (stamps_of c.loop-has_failed.reader)
settled g c start first old force well h =
    let disk = g.D.DiskFile in
    let kind = g.C.ChannelReceiver.kind in
    let contents = g.W.Write.contents in
    let told = g.F.Write.contents in
    let stands = TakesLines kind disk contents in
    let inv = c.loop-has_failed.invariant in
    let r = inv.read start first old force well h in
    let t = c.in-Ok-false.ensures.taken in
    let piece = c.loop-has_failed.self.lines.piece in
    let run = c.take_next.new.self in
    let rest = run.lines.piece in
    let none : rest ≡ [] =
    subst (GoesOn piece rest) c.in-Ok-false.field-0-test c.in-Ok-false.ensures.on in
    let before = logging_to c.loop-has_failed.logging c.loop-has_failed.writer in
    let now = logging_to c.take_next.new.logging c.take_next.new.writer in
    let mid = c.take_next.new.notices in
    let after = c.tell_failed_put.new.notices in
    let b = told-beside told mid after run.effects old r.3 c.loop-has_failed.had_failed
    c.take_next.new.logging.keeper.has_failed r.4
    (λ k. c.take_next.ensures.failed (inv.failed k)) c.tell_failed_put.ensures in
    let bytes = r.0 ++ take t.0 piece in
    let step = λ (since : LoggingTo g.row.D.Denot g.row.C.Denot g.row.W.Denot)
    (same : (starts_by g.C.ChannelReceiver.kind since.logging.listener).moment ≡ first.newest)
    (k : IsRunning stands since before first c.loop-has_failed.self r.3
    (told c.loop-has_failed.notices.inner) c.loop-has_failed.notices.failures r.0).
    running-told stands since now first run r.3 b.0 (told mid.inner) mid.failures
    (told after.inner) after.failures bytes (λ bs lines x. b.2 first bs lines x) tt
    (t.3 since first r.3 r.0 same k) in (
      bytes,
      looked-all _ _ bytes rest none
          (subst (Consumes _ _) (looked-on r.0 piece rest t.0 t.2) r.1),
      omega (
        arith,
        r.2,
        looked-length r.0 piece rest t.0 t.2,
        ap (λ (l : List ℕ). length l) none,
        c.take_next.ensures.unread,
      ),
      b.0,
      b.1,
      record {
        from_start = step start force r.5.from_start;
        from_reads = later-bytes kind disk contents told old first start r.0 (take t.0 piece)
            (λ lines. length lines ≤ c.loop-has_failed.self.effects.lines)
            (λ lines. length lines ≤ run.effects.lines)
            (λ since. IsRunning stands since before first c.loop-has_failed.self r.3
            (told c.loop-has_failed.notices.inner) c.loop-has_failed.notices.failures r.0)
            (λ since. IsRunning stands since now first run b.0 (told after.inner) after.failures
            bytes)
            (λ lines few. omega (arith, few, c.take_next.ensures.grows))
            (λ since is k. step since
            (ap (λ (l : ListeningOver _). (starts_by g.C.ChannelReceiver.kind l).moment) is ∙ force)
            k)
            (stamps_of c.loop-has_failed.reader) r.5.from_reads;
      },
    )

-- all that stood at the reads, and at the one that is made now
stamped : (g : _) → (c : After-read g)
    → (start : LoggingTo g.row.D.Denot g.row.C.Denot g.row.W.Denot) (first : StartMoments)
    (old : ToldBefore)
    → (force : (starts_by g.C.ChannelReceiver.kind start.logging.listener).moment ≡ first.newest)
    → (well : c.args.logging.now.keeper.has_failed ≡ false)
    → (h : IsRunning (TakesLines g.C.ChannelReceiver.kind g.D.DiskFile g.W.Write.contents) start
    (logging_to c.args.logging.now c.args.writer.now) first c.args.self.now (beside old)
    (g.F.Write.contents c.args.notices.now.inner) c.args.notices.now.failures [])
    → (gave : ℕ) → stamps_of c.read.new.reader ≡ stamp (bytes_given c.loop-has_failed.reader) gave
    c.take_next.new.logging.keeper.log.device c.take_next.new.writer c.tell_failed_put.new.notices
    ∷ stamps_of c.loop-has_failed.reader
    → All (WasRunning (telling g.C.ChannelReceiver.kind g.D.DiskFile g.W.Write.contents
    g.F.Write.contents old) start first
    (settled g c start first old force well h).0
    (λ lines. length lines ≤ c.take_next.new.self.effects.lines)
    (λ since. IsRunning (TakesLines g.C.ChannelReceiver.kind g.D.DiskFile g.W.Write.contents) since
    (logging_to c.take_next.new.logging c.take_next.new.writer) first c.take_next.new.self
    (settled g c start first old force well h).3
    (g.F.Write.contents c.tell_failed_put.new.notices.inner)
    c.tell_failed_put.new.notices.failures (settled g c start first old force well h).0))
    (stamps_of c.read.new.reader)
stamped g c start first old force well h gave made =
    let disk = g.D.DiskFile in
    let kind = g.C.ChannelReceiver.kind in
    let contents = g.W.Write.contents in
    let told = g.F.Write.contents in
    let inv = c.loop-has_failed.invariant in
    let s = settled g c start first old force well h in
    let run = c.take_next.new.self in
    let after = c.tell_failed_put.new.notices in
    let at = bytes_given c.loop-has_failed.reader in
    stamped-now kind disk contents told old first start s.0
    (λ lines. length lines ≤ run.effects.lines)
    (λ since. IsRunning (TakesLines kind disk contents) since
    (logging_to c.take_next.new.logging c.take_next.new.writer) first run s.3 (told after.inner)
    after.failures s.0)
    (stamp at gave c.take_next.new.logging.keeper.log.device c.take_next.new.writer after)
    (stamps_of c.loop-has_failed.reader) (stamps_of c.read.new.reader) made
    (stamp-now kind disk contents told old first start c.take_next.new.logging
    c.take_next.new.writer
    after run s.3 s.0 at gave s.4 (omega (arith, inv.given, s.2, c.take_next.ensures.unread))
    c.in-Ok-false.ensures.open (λ content file left. g.met.D.DiskFile.only_now content _ file left)
    s.5.from_start) s.5.from_reads

pub loop-has_failed-preserved-in-Ok-true : goal.loop-has_failed-preserved-in-Ok-true
loop-has_failed-preserved-in-Ok-true g c =
    let disk = g.D.DiskFile in
    let kind = g.C.ChannelReceiver.kind in
    let contents = g.W.Write.contents in
    let told = g.F.Write.contents in
    let stands = TakesLines kind disk contents in
    let inv = c.loop-has_failed.invariant in
    let was = c.loop-has_failed in
    let before = logging_to was.logging was.writer in
    let piece = was.self.lines.piece in
    let run = c.take_next.new.self in
    let t = c.in-Ok-true.ensures.taken in
    let same_room = c.take_next.ensures.unread in
    record {
      writer = c.in-Ok-true.ensures.open;
      reader = inv.reader;
      stamps = inv.stamps;
      cuts = inv.cuts;
      consumed = inv.consumed;
      given = omega (arith, inv.given, same_room);
      room = omega (arith, inv.room, c.in-Ok-true.ensures.room, same_room);
      within = c.in-Ok-true.ensures.within;
      few = omega (arith, inv.few, c.in-Ok-true.ensures.few, same_room);
      fewer = c.in-Ok-true.ensures.fewer;
      failed = λ h. c.take_next.ensures.failed (inv.failed h);
      read = λ start first old force well h.
          let r = inv.read start first old force well h in (
            r.0 ++ take t.0 piece,
            subst (Consumes _ _) (looked-on r.0 piece run.lines.piece t.0 t.2) r.1,
            omega (
              arith,
              r.2,
              looked-length r.0 piece run.lines.piece t.0 t.2,
              same_room,
            ),
            r.3,
            r.4,
            record {
              from_start = t.3 start first r.3 r.0 force r.5.from_start;
              from_reads = later-bytes kind disk contents told old first start r.0 (take t.0 piece)
                  (λ lines. length lines ≤ was.self.effects.lines)
                  (λ lines. length lines ≤ run.effects.lines)
                  (λ since. IsRunning stands since before first was.self r.3
                  (told was.notices.inner) was.notices.failures r.0)
                  (λ since. IsRunning stands since
                  (logging_to c.take_next.new.logging c.take_next.new.writer) first run r.3
                  (told c.take_next.new.notices.inner) c.take_next.new.notices.failures
                  (r.0 ++ take t.0 piece))
                  (λ lines few. omega (arith, few, c.take_next.ensures.grows))
                  (λ since is k. t.3 since first r.3 r.0
                  (ap (λ (l : ListeningOver _). (starts_by g.C.ChannelReceiver.kind l).moment) is ∙
                  force) k)
                  (stamps_of was.reader) r.5.from_reads;
            },
          );
    }

pub loop-has_failed-preserved : goal.loop-has_failed-preserved
loop-has_failed-preserved g c =
    let disk = g.D.DiskFile in
    let kind = g.C.ChannelReceiver.kind in
    let contents = g.W.Write.contents in
    let told = g.F.Write.contents in
    let stands = TakesLines kind disk contents in
    let inv = c.loop-has_failed.invariant in
    let run = c.take_next.new.self in
    let new : LineRun = record { lines = c.read.new.self; effects = run.effects } in
    let now = logging_to c.take_next.new.logging c.take_next.new.writer in
    let after = c.tell_failed_put.new.notices in
    let w = c.in-Bytes.ensures.read.1 in
    let same_room = c.take_next.ensures.unread in
    let same = c.read.ensures.scanner in
    let scanner_room = ap (λ s. s.scanner.allowance) same in
    let at = (goal.at.loop-has_failed-preserved g c).After-read in
    record {
      writer = c.in-Ok-false.ensures.open;
      reader = w.well;
      stamps = reads-on (stamps_of c.loop-has_failed.reader) (stamps_of c.read.new.reader)
          (bytes_given c.loop-has_failed.reader) (length c.read.new.self.piece)
          (bytes_given c.read.new.reader) _ _ _ c.in-Bytes.ensures.read.0
          (omega (arith, inv.given, w.given, w.room, same_room, c.requires.limit)) w.few inv.stamps;
      cuts = c.read.ensures.cuts ∙ inv.cuts;
      consumed = (
        inv.consumed.0 ++ c.read.new.self.piece,
        Consumes-trans _ _ _ _ _ inv.consumed.1 w.consumed,
        omega (
          arith,
          length-append inv.consumed.0 c.read.new.self.piece,
          inv.consumed.2,
          inv.given,
          w.given,
          w.room,
          same_room,
          c.requires.limit,
        ),
      );
      given = omega (arith, inv.given, w.given, w.room, same_room, c.requires.limit);
      room = omega (arith, inv.room, w.room, c.in-Ok-false.ensures.room, same_room, scanner_room);
      within = omega (arith, c.in-Ok-false.ensures.within, scanner_room);
      few = omega (arith, inv.few, c.in-Ok-false.ensures.few, w.room, same_room);
      fewer = c.in-Ok-false.ensures.fewer;
      failed = λ h. h;
      read = λ start first old force well h.
          let s = settled g at start first old force well h in (
            s.0,
            Consumes-trans _ _ _ _ _ s.1 w.consumed,
            omega (arith, s.2, w.room),
            s.3,
            s.4,
            record {
              from_start = running-read stands start now first run new s.3 (told after.inner)
                  after.failures s.0 same refl s.5.from_start;
              from_reads = says-too kind disk contents told old first start s.0
                  (λ lines. length lines ≤ run.effects.lines)
                  (λ lines. length lines ≤ run.effects.lines)
                  (λ since. IsRunning stands since now first run s.3 (told after.inner)
                  after.failures s.0)
                  (λ since. IsRunning stands since now first new s.3 (told after.inner)
                  after.failures s.0) (λ stamp was. was.behind)
                  (λ since is k. running-read stands since now first run new s.3 (told after.inner)
                  after.failures s.0 same refl k) (stamps_of c.read.new.reader)
                  (stamped g at start first old force well h (length c.read.new.self.piece)
                  c.in-Bytes.ensures.read.0);
            },
          );
    }

pub returns-in-End-clause-read : goal.returns-in-End-clause-read
returns-in-End-clause-read g c = λ start first old force well h.
    let disk = g.D.DiskFile in
    let kind = g.C.ChannelReceiver.kind in
    let contents = g.W.Write.contents in
    let told = g.F.Write.contents in
    let stands = TakesLines kind disk contents in
    let run = c.take_next.new.self in
    let new : LineRun = record { lines = c.read.new.self; effects = run.effects } in
    let now = logging_to c.take_next.new.logging c.take_next.new.writer in
    let after = c.tell_failed_put.new.notices in
    let same = c.read.ensures.scanner in
    let at = (goal.at.returns-in-End-clause-read g c).After-read in
    let inv = c.loop-has_failed.invariant in
    let s = settled g at start first old force well h in
    let on = λ (since : LoggingTo g.row.D.Denot g.row.C.Denot g.row.W.Denot)
    (k : IsRunning stands since now first run s.3 (told after.inner) after.failures s.0).
    running-read stands since now first run new s.3 (told after.inner) after.failures s.0 same refl
    k in
    elim c.in-End.ensures.read [
      | inl e ↦ (
        s.0,
        subst (λ (r : StampedReader _ _ _ _). Consumes
            (g.R.Read.remaining (counted_of c.args.reader.now).inner)
            (g.R.Read.remaining (counted_of r).inner) s.0) (sym e.1) s.1,
        (
          omega (arith, s.2),
          omega (
            arith,
            s.2,
            inv.given,
            c.take_next.ensures.unread,
            ap (λ (r : StampedReader _ _ _ _). bytes_given r) e.1,
          ),
        ),
        s.3,
        s.4,
        (
          inr (omega (arith, s.2, e.0)),
          record {
            from_start = on start s.5.from_start;
            from_reads = says-too kind disk contents told old first start s.0
                (λ lines. length lines ≤ run.effects.lines)
                (λ lines. length lines ≤ run.effects.lines)
                (λ since. IsRunning stands since now first run s.3 (told after.inner)
                after.failures s.0)
                (λ since. IsRunning stands since now first new s.3 (told after.inner)
                after.failures s.0) (λ stamp was. was.behind) (λ since is k. on since k)
                (stamps_of c.read.new.reader)
                (subst (λ (r : StampedReader _ _ _ _). All
                (WasRunning (telling kind disk contents told old) start first s.0
                (λ lines. length lines ≤ run.effects.lines)
                (λ since. IsRunning stands since now first run s.3 (told after.inner)
                after.failures s.0)) (stamps_of r)) (sym e.1) s.5.from_reads);
          },
        ),
      )
      | inr e ↦ (
        s.0,
        Consumes-kept _ _ _ s.0 s.1 e.1.keeps,
        (
          omega (arith, s.2),
          omega (
            arith,
            s.2,
            inv.given,
            e.1.given,
            c.take_next.ensures.unread,
            c.requires.limit,
          ),
        ),
        s.3,
        s.4,
        (
          inl e.1.at_end,
          record {
            from_start = on start s.5.from_start;
            from_reads = says-too kind disk contents told old first start s.0
                (λ lines. length lines ≤ run.effects.lines)
                (λ lines. length lines ≤ run.effects.lines)
                (λ since. IsRunning stands since now first run s.3 (told after.inner)
                after.failures s.0)
                (λ since. IsRunning stands since now first new s.3 (told after.inner)
                after.failures s.0) (λ stamp was. was.behind) (λ since is k. on since k)
                (stamps_of c.read.new.reader)
                (stamped g at start first old force well h 0 e.0);
          },
        ),
      )
    ]

pub returns-in-Failed-clause-read : goal.returns-in-Failed-clause-read
returns-in-Failed-clause-read g c = λ start first old force well h.
    let disk = g.D.DiskFile in
    let kind = g.C.ChannelReceiver.kind in
    let contents = g.W.Write.contents in
    let told = g.F.Write.contents in
    let stands = TakesLines kind disk contents in
    let run = c.take_next.new.self in
    let now = logging_to c.take_next.new.logging c.take_next.new.writer in
    let after = c.tell_failed_put.new.notices in
    let at = (goal.at.returns-in-Failed-clause-read g c).After-read in
    let inv = c.loop-has_failed.invariant in
    let s = settled g at start first old force well h in
    let e = c.in-Failed.ensures.read in (
      s.0,
      Consumes-kept _ _ _ s.0 s.1 e.1.keeps,
      (
        omega (arith, s.2),
        omega (
          arith,
          s.2,
          inv.given,
          e.1.given,
          c.take_next.ensures.unread,
          c.requires.limit,
        ),
      ),
      s.3,
      s.4,
      record {
        from_start = running-fails stands start now first run s.3 (told after.inner) after.failures
            s.0 s.5.from_start;
        from_reads = says-too kind disk contents told old first start s.0
            (λ lines. length lines ≤ run.effects.lines)
            (λ lines. length lines ≤ run.effects.lines)
            (λ since. IsRunning stands since now first run s.3 (told after.inner) after.failures
            s.0)
            (λ since. EndsRun stands since now first run.effects s.3 (told after.inner)
            after.failures Read s.0) (λ stamp was. was.behind)
            (λ since is k. running-fails stands since now first run s.3 (told after.inner)
            after.failures s.0 k) (stamps_of c.read.new.reader)
            (stamped g at start first old force well h 0 e.0);
      },
    )

pub returns-in-Err-clause-read : goal.returns-in-Err-clause-read
returns-in-Err-clause-read g c = λ start first old force well h.
    let disk = g.D.DiskFile in
    let kind = g.C.ChannelReceiver.kind in
    let contents = g.W.Write.contents in
    let told = g.F.Write.contents in
    let stands = TakesLines kind disk contents in
    let inv = c.loop-has_failed.invariant in
    let was = c.loop-has_failed in
    let r = inv.read start first old force well h in
    let t = c.in-Err.ensures.taken in
    let piece = was.self.lines.piece in
    let bytes = r.0 ++ piece in
    let run = c.take_next.new.self in
    let before = logging_to was.logging was.writer in
    let now = logging_to c.take_next.new.logging c.take_next.new.writer in
    let mid = c.take_next.new.notices in
    let after = c.tell_failed_put-in-Err.new.notices in
    let b = told-beside told mid after run.effects old r.3 was.had_failed
    c.take_next.new.logging.keeper.has_failed r.4
    (λ k. c.take_next.ensures.failed (inv.failed k)) c.tell_failed_put-in-Err.ensures in
    let step = λ (since : LoggingTo g.row.D.Denot g.row.C.Denot g.row.W.Denot)
    (same : (starts_by g.C.ChannelReceiver.kind since.logging.listener).moment ≡ first.newest)
    (k : IsRunning stands since before first was.self r.3 (told was.notices.inner)
    was.notices.failures r.0).
    subst (λ l. EndsRun stands since now first run.effects b.0 (told after.inner) after.failures
    c.in-Err.end l) (append-nil bytes)
    (answers-told (record {
      stands = stands;
      start = since;
      now = now;
      first = first;
      AtEnd = ⊥;
      tells = TellsFirst first run.effects r.3 (told mid.inner) mid.failures (bytes ++ []);
    }) ⊥ (TellsFirst first run.effects b.0 (told after.inner) after.failures (bytes ++ []))
    c.in-Err.end (bytes ++ []) (λ lines x. b.2 first (bytes ++ []) lines x)
    (t.3 since first r.3 r.0 same k [])) in (
      bytes,
      r.1,
      (
        omega (arith, r.2, length-append r.0 piece),
        omega (arith, r.2, length-append r.0 piece, inv.given),
      ),
      b.0,
      b.1,
      record {
        from_start = step start force r.5.from_start;
        from_reads = later-bytes kind disk contents told old first start r.0 piece
            (λ lines. length lines ≤ was.self.effects.lines)
            (λ lines. length lines ≤ run.effects.lines)
            (λ since. IsRunning stands since before first was.self r.3 (told was.notices.inner)
            was.notices.failures r.0)
            (λ since. EndsRun stands since now first run.effects b.0 (told after.inner)
            after.failures c.in-Err.end bytes)
            (λ lines few. omega (arith, few, c.take_next.ensures.grows))
            (λ since is k. step since
            (ap (λ (l : ListeningOver _). (starts_by g.C.ChannelReceiver.kind l).moment) is ∙ force)
            k)
            (stamps_of was.reader) r.5.from_reads;
      },
    )
