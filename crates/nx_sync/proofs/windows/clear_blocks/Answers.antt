use Rattle.std.proofs.Common.{inl, inr, arith}
use Rattle.std.proofs.lemmas.Bool.{cases_lt}
use Rattle.nx_sync.proofs.windows.clear_blocks.Goals as goal

-- the windows before the block, and those of the block
pub loop-at-preserved : goal.loop-at-preserved
loop-at-preserved c = (
  omega arith,
  λ k h. elim (cases_lt k c.loop-at.at) [
    | inl before ↦ c.loop-at.invariant.1 k before
    | inr after ↦ c.is_clear.ensures c.if-not-is_clear.false k after h
  ],
)
