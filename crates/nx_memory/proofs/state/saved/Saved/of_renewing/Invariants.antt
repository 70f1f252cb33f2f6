use Rattle.std.proofs.Common.{◌≡◌, ◌≤◌, ◌++◌, drop, length}
use Rattle.nx_memory.specs.Content.{last_known}
use Rattle.nx_memory.proofs.state.saved.Saved.of_renewing.Given as goal

-- those of the entries so far are taken over, and those to come
abbrev pub invariant-loop-place : goal.invariant-loop-place
invariant-loop-place l = record {
  kept : l.entries.items ++ last_known (drop l.place l.all) ≡ last_known l.all;
  few : length l.entries.items ≤ l.place;
}
