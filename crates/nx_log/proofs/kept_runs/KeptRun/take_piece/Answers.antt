use Rattle.std.proofs.Common.{◌≤◌, ◌+◌, ◌-◌, ◌++◌, drop, length, take, subst, sym, arith, ℕ, List}
use Rattle.std.proofs.lemmas.Result.{err_from_is_err_and}
use Rattle.nx_fec.proofs.lemmas.devices.Piece.{piece-next, piece-whole}
use Rattle.nx_fec.proofs.lemmas.devices.TransferLaws.{Ok-not_err, Writes-sound}
use Rattle.nx_log.specs.private.KeptRunning.{EndsKeptRun, IsKeptRunning, most_places}
use Rattle.nx_log.proofs.kept_runs.KeptRun.take_piece.Goals as goal

still_within : (from : ℕ) (bytes piece : List ℕ) (at : ℕ)
    → from + length (bytes ++ piece) ≤ most_places
    → from + length ((bytes ++ take at piece) ++ take (length piece - at) (drop at piece))
    ≤ most_places
still_within from bytes piece at h =
    subst (λ l. from + length l ≤ most_places) (sym (piece-whole bytes piece at)) h

pub returns-in_err-at-clause-taken : goal.returns-in_err-at-clause-taken
returns-in_err-at-clause-taken g c = λ from old bytes within h.
    let p = err_from_is_err_and c.from_residual.result c.from_residual.ensures.1 in
    rw p.1 (rw p.2 (subst (λ l. EndsKeptRun c.args.query.now c.args.form from
    (record { before = old; after = g.W.Write.contents c.take_part.new.writer.inner }) l
    c.in_err-at.field-0.0)
    (piece-whole bytes c.args.piece.now c.loop-at.at)
    (c.in_err-at.ensures.taken from old (bytes ++ take c.loop-at.at c.args.piece.now)
    (still_within from bytes c.args.piece.now c.loop-at.at within)
    (c.loop-at.invariant.taken from old bytes within h))))

pub loop-at-preserved : goal.loop-at-preserved
loop-at-preserved g c = record {
  writer = Writes-sound _ _ _ (λ written. Ok-not_err _ _) c.in_ok-at.ensures.writes;
  within = omega (arith, c.in_ok-at.ensures.within);
  sound = c.in_ok-at.ensures.sound;
  taken = λ from old bytes within h.
      subst (IsKeptRunning c.args.query.now c.args.form from old c.take_part.new.self
      (g.W.Write.contents c.take_part.new.writer.inner))
      (piece-next bytes c.args.piece.now c.loop-at.at c.in_ok-at.field-0)
      (c.in_ok-at.ensures.taken from old (bytes ++ take c.loop-at.at c.args.piece.now)
      (still_within from bytes c.args.piece.now c.loop-at.at within)
      (c.loop-at.invariant.taken from old bytes within h));
}
