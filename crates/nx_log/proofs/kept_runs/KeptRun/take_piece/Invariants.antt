use Rattle.std.proofs.Common.{◌≡◌, ◌+◌, ◌-◌, ◌≤◌, ℕ, Option, List, ◌++◌, length, take}
use Rattle.nx_log.specs.private.KeptReading.{IsSound}
use Rattle.nx_log.specs.private.KeptRunning.{IsKeptRunning, most_places}
use Rattle.nx_log.proofs.kept_runs.KeptRun.take_piece.Given as goal

-- the entries that ended so far were given
abbrev pub invariant-loop-at : goal.invariant-loop-at
invariant-loop-at g l = record {
  writer : l.writer.failures ≡ 0;
  within : l.at ≤ length l.piece;
  sound : IsSound l.self.log;
  taken : (from : ℕ) (old : Option (List ℕ)) (bytes : List ℕ)
      → from + length (bytes ++ l.piece) ≤ most_places
      → IsKeptRunning l.query l.form from old l.fn.self (g.W.Write.contents l.fn.writer.inner)
      bytes
      → IsKeptRunning l.query l.form from old l.self (g.W.Write.contents l.writer.inner)
      (bytes ++ take l.at l.piece);
}

abbrev pub decreases-loop-at : goal.decreases-loop-at
decreases-loop-at g l = length l.piece - l.at
