use Rattle.std.proofs.Common.{◌≤◌, ◌-◌, ◌++◌, drop, length, take, subst, sym, arith, ℕ, List}
use Rattle.std.proofs.lemmas.Result.{err_from_is_err_and}
use Rattle.nx_fec.proofs.lemmas.devices.Piece.{piece-next, piece-whole}
use Rattle.nx_fec.proofs.lemmas.devices.TransferLaws.{Ok-not_err, Writes-sound}
use Rattle.nx_log.specs.LogRun.{most_read}
use Rattle.nx_log.specs.private.LogRunning.{EndsRun, IsRunning}
use Rattle.nx_log.specs.Notices.{notices_of}
use Rattle.nx_log.proofs.log_runs.LogRun.take_piece.Goals as goal

still_within : (bytes piece : List ℕ) (at : ℕ) → length (bytes ++ piece) ≤ most_read
    → length ((bytes ++ take at piece) ++ take (length piece - at) (drop at piece)) ≤ most_read
still_within bytes piece at h =
    subst (λ l. length l ≤ most_read) (sym (piece-whole bytes piece at)) h

pub returns-in_err-at-clause-taken : goal.returns-in_err-at-clause-taken
returns-in_err-at-clause-taken g c = λ damaged old told bytes within h.
    let p = err_from_is_err_and c.from_residual.result c.from_residual.ensures.1 in
    rw p.1 (rw p.2 (subst (λ l. EndsRun c.args.query.now c.args.form damaged
    (record { before = old; after = g.W.Write.contents c.take_front.new.writer.inner })
    (notices_of told (g.N.Write.contents c.take_front.new.notices.inner)
    c.take_front.new.notices.failures) l
    c.in_err-at.field-0.0)
    (piece-whole bytes c.args.piece.now c.loop-at.at)
    (c.in_err-at.ensures.taken damaged old told (bytes ++ take c.loop-at.at c.args.piece.now)
    (still_within bytes c.args.piece.now c.loop-at.at within)
    (c.loop-at.invariant.taken damaged old told bytes within h))))

pub loop-at-preserved : goal.loop-at-preserved
loop-at-preserved g c = record {
  writer = Writes-sound _ _ _ (λ written. Ok-not_err _ _) c.in_ok-at.ensures.writes;
  within = omega (arith, c.in_ok-at.ensures.within);
  reading = c.in_ok-at.ensures.reading;
  taken = λ damaged old told bytes within h.
      subst (IsRunning c.args.query.now c.args.form damaged old c.take_front.new.self
      (g.W.Write.contents c.take_front.new.writer.inner)
      (notices_of told (g.N.Write.contents c.take_front.new.notices.inner)
      c.take_front.new.notices.failures))
      (piece-next bytes c.args.piece.now c.loop-at.at c.in_ok-at.field-0)
      (c.in_ok-at.ensures.taken damaged old told (bytes ++ take c.loop-at.at c.args.piece.now)
      (still_within bytes c.args.piece.now c.loop-at.at within)
      (c.loop-at.invariant.taken damaged old told bytes within h));
}
