use Rattle.std.proofs.Common.{◌≡◌, ◌≤◌, ◌-◌, ◌++◌, drop, length}
use Rattle.nx_memory.specs.StateText.{BeginsText}
use Rattle.nx_receiver.specs.air_file_runs.State.{ended_lines}
use Rattle.nx_handle.proofs.saving.read_lines.Given as goal

-- the lines that were read begin a text of a state
abbrev pub invariant-loop-count : goal.invariant-loop-count
invariant-loop-count l = record {
  within : l.at ≤ length l.bytes;
  begins : BeginsText l.text;
  whole : l.bytes ≡ ended_lines l.text ++ drop l.at l.bytes;
}

abbrev pub decreases-loop-count : goal.decreases-loop-count
decreases-loop-count l = length l.bytes - l.at
