use Rattle.std.proofs.Common.{◌≡◌, take}
use Rattle.nx_sync.specs.private.Eight.{marks_after_words}
use Rattle.nx_sync.proofs.mark_bits.Marks.push_words.Given as goal

-- the marks after the words so far
abbrev pub invariant-loop-place : goal.invariant-loop-place
invariant-loop-place l = l.self ≡ marks_after_words l.fn.self (take l.place l.words)
