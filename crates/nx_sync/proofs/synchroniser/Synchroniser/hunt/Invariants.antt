use Rattle.std.proofs.Common.{◌+◌, ◌-◌, ◌<◌, ◌≤◌, length}
use Rattle.nx_sync.specs.private.Calls.{Passes}
use Rattle.nx_sync.proofs.synchroniser.Synchroniser.hunt.Given as goal

-- the elements so far were heard, none of them ends a pattern, and the next one is not too early
-- for one
abbrev pub invariant-loop-at : goal.invariant-loop-at
invariant-loop-at l =
    Passes l.fn.self l.bits l.at l.self × (l.at < length l.bits → 27 ≤ l.fn.self.seen + l.at)

abbrev pub decreases-loop-at : goal.decreases-loop-at
decreases-loop-at l = length l.bits - l.at
