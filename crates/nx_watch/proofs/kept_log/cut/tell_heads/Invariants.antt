use Rattle.std.proofs.Common.{◌≤◌, ◌-◌, List, ℕ, length}
use Rattle.std.specs.List.{flat_map}
use Rattle.nx_watch.specs.CutTold.{head_told}
use Rattle.nx_watch.specs.private.Cutting.{AreHeadsBefore, TellsMore}
use Rattle.nx_watch.proofs.kept_log.cut.tell_heads.Given as goal

-- the heads before the place were told
abbrev pub invariant-loop-at : goal.invariant-loop-at
invariant-loop-at g l = record {
  inside : l.at ≤ length l.bytes;
  told : (heads : List (List ℕ)) × AreHeadsBefore l.bytes l.at heads
      × TellsMore g.F.Write.contents l.fn.notices l.notices (flat_map head_told heads);
}

abbrev pub decreases-loop-at : goal.decreases-loop-at
decreases-loop-at g l = length l.bytes - l.at
