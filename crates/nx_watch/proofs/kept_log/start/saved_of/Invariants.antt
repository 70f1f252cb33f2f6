use Rattle.std.proofs.Common.{◌≡◌, take}
use Rattle.nx_watch.proofs.kept_log.start.saved_of.Given as goal

-- the first entries were entered
abbrev pub invariant-loop-entry : goal.invariant-loop-entry
invariant-loop-entry l = l.memory ≡ take l.entry-index l.entries
