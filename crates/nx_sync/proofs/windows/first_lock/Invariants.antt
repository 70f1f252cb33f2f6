use Rattle.std.proofs.Common.{◌-◌, ◌≤◌, length}
use Rattle.nx_sync.specs.Windows.{HasNoLock}
use Rattle.nx_sync.proofs.windows.first_lock.Given as goal

-- no pattern so far
abbrev pub invariant-loop-at : goal.invariant-loop-at
invariant-loop-at l = (l.at ≤ length l.windows) × HasNoLock l.windows l.at

abbrev pub decreases-loop-at : goal.decreases-loop-at
decreases-loop-at l = length l.windows - l.at
