use Rattle.std.proofs.Common.{◌∙◌, sym, ap, arith, length-set}
use Rattle.nx_fec.specs.air_files.AirFile.{element_digit}
use Rattle.nx_fec.proofs.lemmas.devices.WritingLaws.{digits-more}
use Rattle.nx_fec.proofs.devices.writing.push_line.Goals as goal
use Rattle.nx_fec.proofs.devices.writing.push_line.Goals.{then-line-place, else-line-place}

pub loop-place-preserved : goal.loop-place-preserved
loop-place-preserved c =
    let within = c.loop-place-test.true in
    let size = c.loop-place.invariant.size in
    record {
      size = length-set _ _ _ ∙ size;
      same = digits-more _ _ _ _ (omega (arith, within, size, c.requires.short)) within
          c.loop-place.invariant.same
          (elim c.if-line-place.branch [
            | then-line-place w ↦ w.digits-is ∙ sym (ap element_digit w.if-line-place.true)
            | else-line-place w ↦ w.digits-is ∙ sym (ap element_digit w.if-line-place.false)
          ]);
    }
