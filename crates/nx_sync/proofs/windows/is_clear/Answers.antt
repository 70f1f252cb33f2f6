use Rattle.std.proofs.lemmas.Bool.{eqb-true}
use Rattle.nx_sync.proofs.lemmas.hunting.Lanes.{no_lock_by_masks, mask_of}
use Rattle.nx_sync.specs.Windows.{window_before_rx}
use Rattle.nx_sync.proofs.windows.is_clear.Goals as goal

-- both masks are empty
pub returns-then-dx-eq0 : goal.returns-then-dx-eq0
returns-then-dx-eq0 c h k low high =
    no_lock_by_masks c.args.windows.now c.args.at c.requires c.if-dx-eq0.true
    (eqb-true (mask_of c.args.windows.now c.args.at window_before_rx) 0 h) k low high
