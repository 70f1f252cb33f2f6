use Rattle.std.proofs.Common.{sym, ◌∙◌}
use Rattle.std.proofs.lemmas.Bool.{not-true}
use Rattle.nx_sync.specs.private.Windows.{joined}
use Rattle.nx_sync.proofs.lemmas.hunting.Blocks.{all_quiet, all_quiet_by_two}
use Rattle.nx_sync.proofs.packed_hunt.has_no_lock.Goals as goal

pub returns-then-not-may_lock_in_blocks : goal.returns-then-not-may_lock_in_blocks
returns-then-not-may_lock_in_blocks c h =
    all_quiet (joined c.args.window c.args.number)
    (sym c.may_lock_in_blocks.ensures ∙ c.if-not-may_lock_in_blocks.true)

pub returns : goal.returns
returns c h =
    all_quiet_by_two (joined c.args.window c.args.number)
    (sym c.may_lock_in_both.ensures ∙ not-true c.may_lock_in_both.result h)
