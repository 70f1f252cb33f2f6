use Rattle.std.proofs.Common.{◌≡◌, take}
use Rattle.nx_memory.proofs.state.saved.Saved.load.Given as goal

-- the first entries were entered
abbrev pub invariant-loop-entry : goal.invariant-loop-entry
invariant-loop-entry g l = g.M.Recall.content l.memory ≡ take l.entry-index l.entry-items
