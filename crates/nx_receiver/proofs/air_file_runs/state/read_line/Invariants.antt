use Rattle.std.proofs.Common.{◌≡◌, ◌-◌, length}
use Rattle.std.specs.Io.KnownBytes.{Consumes}
use Rattle.nx_memory.specs.StateText.{IsShortLine}
use Rattle.nx_receiver.proofs.air_file_runs.state.read_line.Given as goal

-- the bytes that were read are the beginning of a line
abbrev pub invariant-loop-line : goal.invariant-loop-line
invariant-loop-line g l = record {
  none : l.reader.failures ≡ 0;
  part : IsShortLine l.line.items;
  consumed : Consumes (g.R.Read.remaining l.initial.reader.inner)
      (g.R.Read.remaining l.reader.inner)
      l.line.items;
}

abbrev pub decreases-loop-line : goal.decreases-loop-line
decreases-loop-line g l = 17 - length l.line.items
