use Rattle.std.proofs.Common.{ℕ, ◌≡◌, ◌+◌, ◌^◌, ◌<◌, length, take, get_or}
use Rattle.nx_sync.specs.private.Windows.{window_after}
use Rattle.nx_sync.proofs.windows_after.windows_after.Given as goal

-- the windows so far, and the last one of them
abbrev pub invariant-loop-place : goal.invariant-loop-place
invariant-loop-place l =
    (length l.windows ≡ 21)
    × (l.last < 2 ^ 28)
    × (l.last ≡ window_after l.window (take l.place l.bits))
    × ((k : ℕ) → k < l.place → get_or l.windows k 0 ≡ window_after l.window (take (k + 1) l.bits))
