use Rattle.std.proofs.Common.{◌≡◌, ◌+◌, ◌≤◌, ℕ, Option, List, [], length}
use Rattle.std.specs.Io.KnownBytes.{Consumes}
use Rattle.nx_log.specs.LogRun.{most_read}
use Rattle.nx_log.specs.private.LogRunning.{IsReading, IsRunning}
use Rattle.nx_log.specs.NotedReader.{counted_of}
use Rattle.nx_log.specs.Notices.{notices_of}
use Rattle.nx_log.specs.declared.damage.Damaged.{Damaged}
use Rattle.nx_log.proofs.log_runs.LogRun.read_log.Given as goal

-- the entries of all bytes so far were given
abbrev pub invariant-loop-room : goal.invariant-loop-room
invariant-loop-room g l = record {
  writer : l.writer.failures ≡ 0;
  reader : (counted_of l.reader).failures ≡ 0;
  chunk : length l.buffer ≡ 65536;
  bound : l.room ≤ most_read;
  reading : IsReading l.self.log;
  read : (damaged : Damaged) (old told : Option (List ℕ))
      → IsRunning l.query l.form damaged old l.fn.self (g.W.Write.contents l.fn.writer.inner)
      (notices_of told (g.N.Write.contents l.fn.notices.inner) l.fn.notices.failures) []
      → (bytes : List ℕ)
      × Consumes (g.R.Read.remaining (counted_of l.fn.reader).inner)
      (g.R.Read.remaining (counted_of l.reader).inner) bytes
      × (length bytes + l.room ≡ most_read)
      × IsRunning l.query l.form damaged old l.self (g.W.Write.contents l.writer.inner)
      (notices_of told (g.N.Write.contents l.notices.inner) l.notices.failures) bytes;
}

abbrev pub decreases-loop-room : goal.decreases-loop-room
decreases-loop-room g l = l.room
