use Rattle.std.proofs.Common.{arith}
use Rattle.nx_fec.proofs.lemmas.devices.WritingLaws.{WroteSome-after}
use Rattle.nx_station.proofs.sending.write_air.Goals as goal

pub returns-in-Err-clause-err : goal.returns-in-Err-clause-err
returns-in-Err-clause-err g c =
    let joined = WroteSome-after _ _ _ c.args.line.now _ _ c.in_ok-write_out.ensures.ok
    c.in-Err.ensures.err in
    record {
      taken = joined.taken;
      fewer = joined.fewer;
      counted = omega (arith, joined.counted, c.saturating_add.ensures);
      appended = joined.appended;
    }
