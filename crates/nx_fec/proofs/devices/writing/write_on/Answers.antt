use Rattle.std.proofs.Common.{arith}
use Rattle.nx_fec.proofs.lemmas.devices.WritingLaws.{WroteSome-after}
use Rattle.nx_fec.proofs.devices.writing.write_on.Goals as goal

pub returns-in-Err-clause-bytes : goal.returns-in-Err-clause-bytes
returns-in-Err-clause-bytes g c = λ first before h.
    let part = c.in-Err.ensures.err in
    let joined = WroteSome-after first _ _ before _ _ h.appended part in
    record {
      taken = joined.taken;
      fewer = joined.fewer;
      counted = omega (arith, h.counted, part.counted, c.saturating_add-in-Err.ensures);
      appended = joined.appended;
    }
