use Rattle.std.proofs.Common.{◌≡◌, ◌-◌, ◌≤◌, ℕ, Option, List, ◌++◌, length, take}
use Rattle.nx_log.specs.LogRun.{most_read}
use Rattle.nx_log.specs.private.LogRunning.{IsReading, IsRunning}
use Rattle.nx_log.specs.Notices.{notices_of}
use Rattle.nx_log.specs.declared.damage.Damaged.{Damaged}
use Rattle.nx_log.proofs.log_runs.LogRun.take_piece.Given as goal

-- the entries that ended so far were given
abbrev pub invariant-loop-at : goal.invariant-loop-at
invariant-loop-at g l = record {
  writer : l.writer.failures ≡ 0;
  within : l.at ≤ length l.piece;
  reading : IsReading l.self.log;
  taken : (damaged : Damaged) (old told : Option (List ℕ)) (bytes : List ℕ)
      → length (bytes ++ l.piece) ≤ most_read
      → IsRunning l.query l.form damaged old l.fn.self (g.W.Write.contents l.fn.writer.inner)
      (notices_of told (g.N.Write.contents l.fn.notices.inner) l.fn.notices.failures) bytes
      → IsRunning l.query l.form damaged old l.self (g.W.Write.contents l.writer.inner)
      (notices_of told (g.N.Write.contents l.notices.inner) l.notices.failures)
      (bytes ++ take l.at l.piece);
}

abbrev pub decreases-loop-at : goal.decreases-loop-at
decreases-loop-at g l = length l.piece - l.at
