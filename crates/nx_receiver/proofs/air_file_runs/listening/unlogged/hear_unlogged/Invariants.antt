use Rattle.std.proofs.Common.{◌≡◌, ◌-◌, ◌≤◌, List, [], length, take}
use Rattle.nx_copies.specs.copies.Shares.{Given, Starts}
use Rattle.nx_receiver.specs.Listener.{then_elements}
use Rattle.nx_receiver.specs.private.Unlogged.{HasHeardGiven}
use Rattle.nx_receiver.proofs.air_file_runs.listening.unlogged.hear_unlogged.Given as goal

-- the first elements were heard
abbrev pub invariant-loop-at : goal.invariant-loop-at
invariant-loop-at l = record {
  within : l.at ≤ length l.packed;
  moment : l.listener.has_moment ≡ l.fn.listener.has_moment;
  heard : (starts : Starts) (given : List Given)
      → HasHeardGiven starts l.fn.listener (then_elements given l.channel [])
      → HasHeardGiven starts l.listener (then_elements given l.channel (take l.at l.packed));
}

abbrev pub decreases-loop-at : goal.decreases-loop-at
decreases-loop-at l = length l.packed - l.at
