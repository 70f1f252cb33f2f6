use Rattle.std.proofs.Common.{◌+◌, ◌-◌, ◌<◌, ◌≤◌}
use Rattle.nx_code.specs.Packed.{packed_part}
use Rattle.nx_sync.specs.private.Calls.{Passes}
use Rattle.nx_sync.proofs.synchroniser.Synchroniser.hunt_packed.Given as goal

-- the elements so far were heard, none of them ends a pattern, and the next one is not too early
-- for one
abbrev pub invariant-loop-at : goal.invariant-loop-at
invariant-loop-at l =
    Passes l.fn.self (packed_part l.numbers l.from l.count) l.at l.self
    × (l.at ≤ l.count)
    × (l.at < l.count → 27 ≤ l.fn.self.seen + l.at)

abbrev pub decreases-loop-at : goal.decreases-loop-at
decreases-loop-at l = l.count - l.at
