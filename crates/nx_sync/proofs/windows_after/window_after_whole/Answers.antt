use Rattle.std.proofs.Common.{sym, arith}
use Rattle.nx_sync.proofs.lemmas.hunting.Blocks.{window_after-all}
use Rattle.nx_sync.proofs.windows_after.window_after_whole.Goals as goal

pub returns-clause-value : goal.returns-clause-value
returns-clause-value c window h =
    sym (window_after-all window c.args.number h (omega (arith, c.ranges.number)))
