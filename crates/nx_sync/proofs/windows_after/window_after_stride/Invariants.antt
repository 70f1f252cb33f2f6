use Rattle.std.proofs.Common.{◌≡◌, ◌-◌, ◌<◌, ◌^◌, drop}
use Rattle.nx_code.specs.Word.{number_of}
use Rattle.nx_sync.proofs.windows_after.window_after_stride.Given as goal

-- the number so far is that of the elements from here on
abbrev pub invariant-loop-place : goal.invariant-loop-place
invariant-loop-place l = (l.number ≡ number_of (drop l.place l.bits))
    × (l.number < 2 ^ (21 - l.place))
