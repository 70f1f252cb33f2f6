use Rattle.std.proofs.Common.{◌≡◌, ◌<◌, ◌≤◌, ◌-◌, length, vec_len}
use Rattle.std.specs.Io.KnownBytes.{Consumes}
use Rattle.nx_fec.specs.Runs.{file_limit}
use Rattle.nx_fec.proofs.air_files.reading.read_whole.Given as goal

-- all pieces that were read were appended
abbrev pub invariant-loop-count : goal.invariant-loop-count
invariant-loop-count g l = record {
  none : l.reader.failures ≡ 0;
  chunk : 0 < length l.buffer;
  within : vec_len l.bytes ≤ file_limit;
  read : Consumes (g.R.Read.remaining l.fn.reader.inner) (g.R.Read.remaining l.reader.inner)
      l.bytes.items;
}

abbrev pub decreases-loop-count : goal.decreases-loop-count
decreases-loop-count g l = file_limit - vec_len l.bytes
