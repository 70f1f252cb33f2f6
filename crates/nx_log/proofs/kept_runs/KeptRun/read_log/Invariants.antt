use Rattle.std.proofs.Common.{◌≡◌, ◌+◌, ◌≤◌, ℕ, Option, List, [], length}
use Rattle.std.specs.Io.KnownBytes.{Consumes}
use Rattle.nx_log.specs.LogRun.{most_read}
use Rattle.nx_log.specs.private.KeptReading.{IsSound}
use Rattle.nx_log.specs.private.KeptRunning.{IsKeptRunning}
use Rattle.nx_log.proofs.kept_runs.KeptRun.read_log.Given as goal

-- the entries of all bytes so far were given
abbrev pub invariant-loop-room : goal.invariant-loop-room
invariant-loop-room g l = record {
  writer : l.writer.failures ≡ 0;
  reader : l.reader.failures ≡ 0;
  chunk : length l.buffer ≡ 65536;
  bound : l.room ≤ most_read;
  sound : IsSound l.self.log;
  read : (from : ℕ) (old : Option (List ℕ)) → from ≤ most_read
      → IsKeptRunning l.query l.form from old l.fn.self (g.W.Write.contents l.fn.writer.inner) []
      → (bytes : List ℕ)
      × Consumes (g.R.Read.remaining l.fn.reader.inner) (g.R.Read.remaining l.reader.inner) bytes
      × (length bytes + l.room ≡ most_read)
      × IsKeptRunning l.query l.form from old l.self (g.W.Write.contents l.writer.inner) bytes;
}

abbrev pub decreases-loop-room : goal.decreases-loop-room
decreases-loop-room g l = l.room
