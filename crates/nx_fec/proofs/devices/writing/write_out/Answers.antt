use Rattle.std.proofs.Common.{arith, ◌∙◌}
use Rattle.nx_fec.proofs.lemmas.devices.WritingLaws.{Appends-next}
use Rattle.nx_fec.proofs.devices.writing.write_out.Goals as goal

pub loop-at-preserved : goal.loop-at-preserved
loop-at-preserved g c = record {
  none = c.in-Ok.ensures.counted.ok ∙ c.loop-at.invariant.none;
  within = omega (arith, c.in-Ok.ensures.bound);
  taken = Appends-next _ _ _ _ _ _ c.loop-at.invariant.taken c.in-Ok.ensures.bytes;
}
