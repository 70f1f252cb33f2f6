use Rattle.std.proofs.Common.{ℕ, ◌≡◌, ◌+◌, ◌-◌, ◌/◌, ◌^◌, ◌<◌, ◌≤◌, false}
use Rattle.nx_sync.specs.Windows.{is_lock_window}
use Rattle.nx_sync.specs.private.Windows.{joined, window_in}
use Rattle.nx_sync.proofs.packed_hunt.count_by_windows.Given as goal

-- no pattern so far
abbrev pub invariant-loop-at : goal.invariant-loop-at
invariant-loop-at l = record {
  within : l.at ≤ l.count;
  rest : l.rest ≡ joined l.window l.number / 2 ^ l.at;
  clear : (k : ℕ) → k < l.at
      → is_lock_window (window_in (joined l.window l.number) (k + 1)) ≡ false;
}

abbrev pub decreases-loop-at : goal.decreases-loop-at
decreases-loop-at l = l.count - l.at
