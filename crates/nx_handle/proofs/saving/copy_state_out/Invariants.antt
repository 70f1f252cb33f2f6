use Rattle.std.proofs.Common.{◌*◌, ◌-◌, ◌≤◌, length, take}
use Rattle.nx_memory.specs.StateText.{text_2}
use Rattle.nx_receiver.specs.air_file_runs.State.{ended_lines}
use Rattle.nx_handle.specs.CallerRoom.{IsCopiedOut, room}
use Rattle.nx_handle.proofs.saving.copy_state_out.Given as goal

-- the lines before the place were copied
abbrev pub invariant-loop-line : goal.invariant-loop-line
invariant-loop-line l = record {
  within : l.place ≤ length (text_2 l.states);
  few : l.written ≤ 17 * l.place;
  copied : IsCopiedOut (ended_lines (take l.place (text_2 l.states)))
      (room l.fn.space l.space l.written);
}

abbrev pub decreases-loop-line : goal.decreases-loop-line
decreases-loop-line l = length (text_2 l.states) - l.place
