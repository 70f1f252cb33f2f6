use Rattle.std.proofs.Common.{◌≡◌, ◌-◌, ◌≤◌, length, take}
use Rattle.nx_fec.specs.air_files.LineRuns.{HasGiven}
use Rattle.nx_memory.specs.StateText.{text_2}
use Rattle.nx_receiver.specs.air_file_runs.State.{ended_lines}
use Rattle.nx_receiver.proofs.air_file_runs.state.write_state.Given as goal

-- the lines before the place were given
abbrev pub invariant-loop-line : goal.invariant-loop-line
invariant-loop-line g l = record {
  none : l.writer.failures ≡ 0;
  within : l.place ≤ length (text_2 l.states);
  given : HasGiven (g.W.Write.contents l.initial.writer.inner) (g.W.Write.contents l.writer.inner)
      l.batch (ended_lines (take l.place (text_2 l.states)));
}

abbrev pub decreases-loop-line : goal.decreases-loop-line
decreases-loop-line g l = length (text_2 l.states) - l.place
