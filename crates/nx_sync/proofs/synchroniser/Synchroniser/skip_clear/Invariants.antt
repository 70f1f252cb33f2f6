use Rattle.std.proofs.Common.{◌≡◌, ◌-◌, ◌*◌, ◌≤◌}
use Rattle.nx_code.specs.Packed.{packed_part}
use Rattle.nx_sync.specs.private.Calls.{Passes}
use Rattle.nx_sync.proofs.synchroniser.Synchroniser.skip_clear.Given as goal

-- the numbers so far were heard, and none of their elements ends a pattern
abbrev pub invariant-loop-at : goal.invariant-loop-at
invariant-loop-at l =
    Passes l.fn.self (packed_part l.numbers (64 * l.first) (64 * l.count)) (64 * l.at) l.self
    × (l.at ≤ l.count)
    × (l.at ≡ 0 → l.self ≡ l.fn.self)

abbrev pub decreases-loop-at : goal.decreases-loop-at
decreases-loop-at l = l.count - l.at
