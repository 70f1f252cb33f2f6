use Rattle.std.proofs.Common.{◌≡◌, ◌+◌, length}
use Rattle.std.specs.Io.KnownBytes.{Consumes}
use Rattle.nx_memory.specs.StateText.{BeginsText}
use Rattle.nx_receiver.specs.air_file_runs.State.{ended_lines}
use Rattle.nx_receiver.proofs.air_file_runs.state.read_state.Given as goal

-- the lines that were read begin a text of a state
abbrev pub invariant-loop-line : goal.invariant-loop-line
invariant-loop-line g l = record {
  none : l.reader.failures ≡ 0;
  begins : BeginsText l.text;
  count : l.line ≡ length l.text + 1;
  consumed : Consumes (g.R.Read.remaining l.initial.reader.inner)
      (g.R.Read.remaining l.reader.inner)
      (ended_lines l.text);
}
