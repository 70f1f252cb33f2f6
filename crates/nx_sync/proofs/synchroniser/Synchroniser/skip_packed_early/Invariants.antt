use Rattle.std.proofs.Common.{◌≡◌, take}
use Rattle.nx_code.specs.Packed.{packed_part}
use Rattle.nx_sync.specs.private.Calls.{heard_all}
use Rattle.nx_sync.proofs.synchroniser.Synchroniser.skip_packed_early.Given as goal

-- the elements so far were heard
abbrev pub invariant-loop-at : goal.invariant-loop-at
invariant-loop-at l =
    l.self ≡ heard_all l.fn.self (take l.at (packed_part l.numbers l.from l.count))
