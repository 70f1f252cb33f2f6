use Rattle.std.proofs.Common.{◌≡◌, ◌≤◌, length, take}
use Rattle.std.specs.Prelude.{filter}
use Rattle.nx_watch.specs.Start.{is_near}
use Rattle.nx_watch.proofs.kept_log.start.near_entries.Given as goal

-- the near ones of the entries so far
abbrev pub invariant-loop-entry : goal.invariant-loop-entry
invariant-loop-entry l = record {
  near : l.near.items ≡ filter (is_near l.moment) (take l.entry-index l.entries);
  few : length l.near.items ≤ l.entry-index;
}
