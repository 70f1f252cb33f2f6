use Rattle.std.proofs.Common.{◌≡◌, take}
use Rattle.nx_sync.specs.private.Calls.{heard_all}
use Rattle.nx_sync.proofs.synchroniser.Synchroniser.skip_early.Given as goal

-- the elements so far were heard
abbrev pub invariant-loop-bit : goal.invariant-loop-bit
invariant-loop-bit l = l.self ≡ heard_all l.fn.self (take l.bit-index l.bits)
