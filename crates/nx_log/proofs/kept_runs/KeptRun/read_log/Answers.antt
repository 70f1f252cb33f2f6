use Rattle.std.proofs.Common.{◌≡◌, ◌≤◌, ◌∙◌, ◌++◌, inl, inr, length, length-append, length-drop}
use Rattle.std.proofs.Common.{ap, sym, take, drop, subst, arith}
use Rattle.std.proofs.KnownBytes.{Consumes-kept, Consumes-trans}
use Rattle.std.proofs.lemmas.List.{length-take-le, take-append-le}
use Rattle.std.proofs.lemmas.Result.{err_from_is_err_and}
use Rattle.std.specs.Io.KnownBytes.{Consumes}
use Rattle.nx_fec.proofs.lemmas.devices.TransferLaws.{Ok-not_err, Writes-sound}
use Rattle.nx_log.proofs.lemmas.kept.Runs.{part_all, unread_ends}
use Rattle.nx_log.proofs.kept_runs.KeptRun.read_log.Goals as goal

pub returns-in_err-send-clause-read : goal.returns-in_err-send-clause-read
returns-in_err-send-clause-read g c = λ from old low h.
    let r = c.loop-room.invariant.read from old low h in
    let run = r.3 in
    let p = err_from_is_err_and c.from_residual.result c.from_residual.ensures.1 in (
      r.0,
      r.1,
      omega (arith, r.2),
      rw p.1 (rw p.2 (part_all c.args.query.now c.args.form from _ c.loop-room.self.log r.0
          run.entries _ run.at
          (c.in_err-send.ensures.given c.args.query.now c.args.form old run.entries run.given))),
    )

pub returns-in-End-clause-read : goal.returns-in-End-clause-read
returns-in-End-clause-read g c = λ from old low h.
    let r = c.loop-room.invariant.read from old low h in
    let run = r.3 in
    let sent = c.in_ok-send.ensures.given c.args.query.now c.args.form old run.entries run.given
    in (
      r.0,
      Consumes-kept _ _ _ r.0 r.1 c.in-End.ensures.0,
      omega (arith, r.2),
      (
        inl c.in-End.ensures.1,
        record { entries = run.entries; at = run.at; given = sent.0 },
      ),
    )

pub returns-in-Failed-clause-read : goal.returns-in-Failed-clause-read
returns-in-Failed-clause-read g c = λ from old low h.
    let r = c.loop-room.invariant.read from old low h in
    let run = r.3 in
    let sent = c.in_ok-send.ensures.given c.args.query.now c.args.form old run.entries run.given
    in (
      r.0,
      Consumes-kept _ _ _ r.0 r.1 c.in-Failed.ensures.0,
      omega (arith, r.2),
      unread_ends c.args.query.now c.args.form from _ c.loop-room.self.log r.0 run.entries
          c.unread.result run.at
          (c.unread.ensures.ended c.args.form old run.entries sent.0 sent.1),
    )

pub returns-in_err-take_piece-clause-read : goal.returns-in_err-take_piece-clause-read
returns-in_err-take_piece-clause-read g c = λ from old low h.
    let r = c.loop-room.invariant.read from old low h in
    let run = r.3 in
    let sent = c.in_ok-send.ensures.given c.args.query.now c.args.form old run.entries run.given
    in
    let b = c.next_piece.new.buffer in
    let most = c.min-most.result in
    let count = c.in-Bytes.count in
    let behind = drop most c.loop-room.buffer in
    let fits : length b ≡ most = c.next_piece.auto.buffer
    ∙ length-take-le most c.loop-room.buffer
    (omega (arith, c.min-most.ensures, c.loop-room.invariant.chunk)) in
    let piece = take count (b ++ behind) in
    let front : piece ≡ take count b = take-append-le count b behind c.in-Bytes.ensures.1 in
    let size : length piece ≡ count =
    ap length front ∙ length-take-le count b c.in-Bytes.ensures.1 in
    let read = subst (Consumes (g.R.Read.remaining c.loop-room.reader.inner)
    (g.R.Read.remaining c.next_piece.new.reader.inner)) (sym front) c.in-Bytes.ensures.2 in
    let within : length (r.0 ++ piece) ≤ 9223372036854775807 =
    omega (
      arith,
      r.2,
      length-append r.0 piece,
      size,
      c.in-Bytes.ensures.1,
      fits,
      c.min-most.ensures,
    ) in
    let p = err_from_is_err_and c.from_residual-in_err-take_piece.result
    c.from_residual-in_err-take_piece.ensures.1 in (
      r.0 ++ piece,
      Consumes-trans _ _ _ _ _ r.1 read,
      within,
      rw p.1 (rw p.2 (c.in_err-take_piece.ensures.taken from old r.0
          (omega (arith, within, low))
          (record { entries = run.entries; at = run.at; given = sent.0 }))),
    )

pub loop-room-preserved : goal.loop-room-preserved
loop-room-preserved g c =
    let inv = c.loop-room.invariant in
    let b = c.next_piece.new.buffer in
    let most = c.min-most.result in
    let count = c.in-Bytes.count in
    let behind = drop most c.loop-room.buffer in
    let fits : length b ≡ most = c.next_piece.auto.buffer
    ∙ length-take-le most c.loop-room.buffer (omega (arith, c.min-most.ensures, inv.chunk)) in
    let piece = take count (b ++ behind) in
    let front : piece ≡ take count b = take-append-le count b behind c.in-Bytes.ensures.1 in
    let size : length piece ≡ count =
    ap length front ∙ length-take-le count b c.in-Bytes.ensures.1 in
    let read' = subst (Consumes (g.R.Read.remaining c.loop-room.reader.inner)
    (g.R.Read.remaining c.next_piece.new.reader.inner)) (sym front) c.in-Bytes.ensures.2 in
    let few : count ≤ c.loop-room.room =
    omega (arith, c.in-Bytes.ensures.1, fits, c.min-most.ensures) in
    record {
      writer = Writes-sound _ _ _ (λ written. Ok-not_err _ _) c.in_ok-take_piece.ensures.writes;
      reader = c.in-Bytes.ensures.3;
      chunk = omega (
        arith,
        length-append b behind,
        length-drop most c.loop-room.buffer,
        fits,
        inv.chunk,
        c.min-most.ensures,
      );
      bound = omega (arith, inv.bound);
      sound = c.in_ok-take_piece.ensures.sound;
      read = λ from old low h.
          let r = inv.read from old low h in
          let run = r.3 in
          let sent = c.in_ok-send.ensures.given c.args.query.now c.args.form old run.entries
          run.given in
          let within : length (r.0 ++ piece) ≤ 9223372036854775807 =
          omega (arith, r.2, size, few, length-append r.0 piece) in (
            r.0 ++ piece,
            Consumes-trans _ _ _ _ _ r.1 read',
            omega (arith, r.2, size, few, length-append r.0 piece),
            c.in_ok-take_piece.ensures.taken from old r.0 (omega (arith, within, low))
                (record { entries = run.entries; at = run.at; given = sent.0 }),
          );
    }

pub returns-clause-read : goal.returns-clause-read
returns-clause-read g c = λ from old low h.
    let r = c.loop-room.invariant.read from old low h in (
      r.0,
      r.1,
      omega (arith, r.2),
      (inr (omega (arith, r.2, c.loop-room-test.false)), r.3),
    )
