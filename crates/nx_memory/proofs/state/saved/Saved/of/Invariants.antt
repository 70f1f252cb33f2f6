use Rattle.std.proofs.Common.{◌≡◌, take}
use Rattle.nx_memory.proofs.state.saved.Saved.of.Given as goal

-- the first entries were taken over
abbrev pub invariant-loop-place : goal.invariant-loop-place
invariant-loop-place g l = l.entries.items ≡ take l.place (g.M.Recall.content l.memory)
