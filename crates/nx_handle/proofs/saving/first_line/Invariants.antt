use Rattle.std.proofs.Common.{◌≤◌, ◌-◌, length, take}
use Rattle.nx_memory.specs.StateText.{IsShortLine}
use Rattle.nx_handle.proofs.saving.first_line.Given as goal

-- no byte so far is a line feed
abbrev pub invariant-loop-count : goal.invariant-loop-count
invariant-loop-count l = record {
  within : l.count ≤ length l.bytes;
  few : l.count ≤ 16;
  short : IsShortLine (take l.count l.bytes);
}

abbrev pub decreases-loop-count : goal.decreases-loop-count
decreases-loop-count l = length l.bytes - l.count
