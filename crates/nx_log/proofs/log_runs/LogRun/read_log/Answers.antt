use Rattle.std.proofs.Common.{◌≡◌, ◌≤◌, ◌∙◌, ◌++◌, inl, inr, length, length-append, length-drop}
use Rattle.std.proofs.Common.{ap, sym, take, drop, subst, arith}
use Rattle.std.proofs.KnownBytes.{Consumes-kept, Consumes-trans}
use Rattle.std.proofs.lemmas.List.{length-take-le, take-append-le}
use Rattle.std.proofs.lemmas.Result.{err_from_is_err_and}
use Rattle.std.specs.Io.KnownBytes.{Consumes}
use Rattle.nx_fec.proofs.lemmas.devices.TransferLaws.{Ok-not_err, Writes-sound}
use Rattle.std.specs.Prelude.{map}
use Rattle.nx_log.specs.NotedReader.{counted_of}
use Rattle.nx_log.specs.Places.{unplaced}
use Rattle.nx_log.specs.Salvage.{entries_in}
use Rattle.nx_log.proofs.lemmas.runs.LogRuns.{part-all}
use Rattle.nx_log.proofs.log_runs.LogRun.read_log.Goals as goal

pub returns-in_err-send-clause-read : goal.returns-in_err-send-clause-read
returns-in_err-send-clause-read g c = λ damaged old told h.
    let r = c.loop-room.invariant.read damaged old told h in
    let run = r.3 in
    let p = err_from_is_err_and c.from_residual.result c.from_residual.ensures.1 in (
      r.0,
      r.1,
      omega (arith, r.2),
      rw p.1 (rw p.2 (part-all c.args.query.now c.args.form damaged old c.loop-room.self _ _ r.0
          run _ _
          (c.in_err-send.ensures.given c.args.query.now c.args.form old
          (map unplaced (entries_in run.stretches ++ run.last)) run.given))),
    )

pub returns-in-End-clause-read : goal.returns-in-End-clause-read
returns-in-End-clause-read g c = λ damaged old told h.
    let r = c.loop-room.invariant.read damaged old told h in
    let run = r.3 in
    let sent = c.in_ok-send.ensures.given c.args.query.now c.args.form old
    (map unplaced (entries_in run.stretches ++ run.last)) run.given in (
      r.0,
      Consumes-kept _ _ _ r.0 r.1 c.in-End.ensures.piece.0,
      omega (arith, r.2),
      (
        inl c.in-End.ensures.piece.1,
        record {
          stretches = run.stretches;
          rest = run.rest;
          last = run.last;
          torn = run.torn;
          cut = run.cut;
          at = run.at;
          given = sent.0;
          told = run.told;
          ended = run.ended;
          first = run.first;
          passing = run.passing;
          mode = run.mode;
          stands = run.stands;
        },
      ),
    )

pub returns-in-Failed-clause-read : goal.returns-in-Failed-clause-read
returns-in-Failed-clause-read g c = λ damaged old told h.
    let r = c.loop-room.invariant.read damaged old told h in
    let run = r.3 in
    let sent = c.in_ok-send.ensures.given c.args.query.now c.args.form old
    (map unplaced (entries_in run.stretches ++ run.last)) run.given in (
      r.0,
      Consumes-kept _ _ _ r.0 r.1 c.in-Failed.ensures.piece.0,
      omega (arith, r.2),
      c.unread.ensures.ended c.args.form damaged old _ r.0 (record {
        stretches = run.stretches;
        rest = run.rest;
        last = run.last;
        torn = run.torn;
        cut = run.cut;
        at = run.at;
        given = sent.0;
        told = run.told;
        ended = run.ended;
        first = run.first;
        passing = run.passing;
        mode = run.mode;
        stands = run.stands;
      }) sent.1,
    )

pub returns-in_err-take_piece-clause-read : goal.returns-in_err-take_piece-clause-read
returns-in_err-take_piece-clause-read g c = λ damaged old told h.
    let r = c.loop-room.invariant.read damaged old told h in
    let run = r.3 in
    let sent = c.in_ok-send.ensures.given c.args.query.now c.args.form old
    (map unplaced (entries_in run.stretches ++ run.last)) run.given in
    let b = c.next_piece.new.buffer in
    let most = c.min-most.result in
    let count = c.in-Bytes.count in
    let behind = drop most c.loop-room.buffer in
    let fits : length b ≡ most = c.next_piece.auto.buffer
    ∙ length-take-le most c.loop-room.buffer
    (omega (arith, c.min-most.ensures, c.loop-room.invariant.chunk)) in
    let piece = take count (b ++ behind) in
    let front : piece ≡ take count b = take-append-le count b behind c.in-Bytes.ensures.piece.1 in
    let size : length piece ≡ count =
    ap length front ∙ length-take-le count b c.in-Bytes.ensures.piece.1 in
    let read = subst (Consumes (g.R.Read.remaining (counted_of c.loop-room.reader).inner)
    (g.R.Read.remaining (counted_of c.next_piece.new.self).inner)) (sym front)
    c.in-Bytes.ensures.piece.2 in
    let p = err_from_is_err_and c.from_residual-in_err-take_piece.result
    c.from_residual-in_err-take_piece.ensures.1 in (
      r.0 ++ piece,
      Consumes-trans _ _ _ _ _ r.1 read,
      omega (
        arith,
        r.2,
        length-append r.0 piece,
        size,
        c.in-Bytes.ensures.piece.1,
        fits,
        c.min-most.ensures,
      ),
      rw p.1 (rw p.2 (c.in_err-take_piece.ensures.taken damaged old told r.0
          (omega (
            arith,
            r.2,
            length-append r.0 piece,
            size,
            c.in-Bytes.ensures.piece.1,
            fits,
            c.min-most.ensures,
          ))
          (record {
            stretches = run.stretches;
            rest = run.rest;
            last = run.last;
            torn = run.torn;
            cut = run.cut;
            at = run.at;
            given = sent.0;
            told = run.told;
            ended = run.ended;
            first = run.first;
            passing = run.passing;
            mode = run.mode;
            stands = run.stands;
          }))),
    )

pub loop-room-preserved : goal.loop-room-preserved
loop-room-preserved g c =
    let inv = c.loop-room.invariant in
    let b = c.next_piece.new.buffer in
    let most = c.min-most.result in
    let count = c.in-Bytes.count in
    let behind = drop most c.loop-room.buffer in
    let fits : length b ≡ most = c.next_piece.auto.buffer
    ∙ length-take-le most c.loop-room.buffer (omega (arith, c.min-most.ensures, inv.chunk)) in
    let piece = take count (b ++ behind) in
    let front : piece ≡ take count b = take-append-le count b behind c.in-Bytes.ensures.piece.1 in
    let size : length piece ≡ count =
    ap length front ∙ length-take-le count b c.in-Bytes.ensures.piece.1 in
    let read' = subst (Consumes (g.R.Read.remaining (counted_of c.loop-room.reader).inner)
    (g.R.Read.remaining (counted_of c.next_piece.new.self).inner)) (sym front)
    c.in-Bytes.ensures.piece.2 in
    let low : count ≤ c.loop-room.room =
    omega (arith, c.in-Bytes.ensures.piece.1, fits, c.min-most.ensures) in
    record {
      writer = Writes-sound _ _ _ (λ written. Ok-not_err _ _) c.in_ok-take_piece.ensures.writes;
      reader = c.in-Bytes.ensures.piece.3;
      chunk = omega (
        arith,
        length-append b behind,
        length-drop most c.loop-room.buffer,
        fits,
        inv.chunk,
        c.min-most.ensures,
      );
      bound = omega (arith, inv.bound);
      reading = c.in_ok-take_piece.ensures.reading;
      read = λ damaged old told h.
          let r = inv.read damaged old told h in
          let run = r.3 in
          let sent = c.in_ok-send.ensures.given c.args.query.now c.args.form old
          (map unplaced (entries_in run.stretches ++ run.last)) run.given in (
            r.0 ++ piece,
            Consumes-trans _ _ _ _ _ r.1 read',
            omega (arith, r.2, size, low, length-append r.0 piece),
            c.in_ok-take_piece.ensures.taken damaged old told r.0
                (omega (arith, r.2, size, low, length-append r.0 piece))
                (record {
                  stretches = run.stretches;
                  rest = run.rest;
                  last = run.last;
                  torn = run.torn;
                  cut = run.cut;
                  at = run.at;
                  given = sent.0;
                  told = run.told;
                  ended = run.ended;
                  first = run.first;
                  passing = run.passing;
                  mode = run.mode;
                  stands = run.stands;
                }),
          );
    }

pub returns-clause-read : goal.returns-clause-read
returns-clause-read g c = λ damaged old told h.
    let r = c.loop-room.invariant.read damaged old told h in (
      r.0,
      r.1,
      omega (arith, r.2),
      (inr (omega (arith, r.2, c.loop-room-test.false)), r.3),
    )
