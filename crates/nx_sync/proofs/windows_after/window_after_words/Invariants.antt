use Rattle.std.proofs.Common.{◌≡◌, ◌<◌, ◌^◌, ℕ, slice_index, take}
use Rattle.nx_sync.specs.private.Eight.{window_after_words}
use Rattle.nx_sync.proofs.windows_after.window_after_words.Given as goal

-- the window after the words so far, each of which is one of 128
abbrev pub invariant-loop-place : goal.invariant-loop-place
invariant-loop-place l = record {
  value : l.last ≡ window_after_words l.window (take l.place l.words);
  within : l.last < 2 ^ 28;
  small : (k : ℕ) → k < l.place → slice_index l.words k < 128;
}
