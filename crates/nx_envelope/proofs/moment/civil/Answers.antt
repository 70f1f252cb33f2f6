use Rattle.std.proofs.Common.{◌≡◌, ◌/◌, ◌%◌, refl, arith}
use Rattle.jiff_core.proofs.SignedLemmas.{signed_arith}
use Rattle.nx_envelope.specs.private.CivilTimes.{IsCivilTime, IsMomentOf}
use Rattle.nx_envelope.specs.declared.moment.CivilTime.{CivilTime}
use Rattle.nx_envelope.proofs.moment.civil.Goals as goal

pub returns-clause-shown : goal.returns-clause-shown
returns-clause-shown c =
    let t : CivilTime = c.in_ok-time.time in
    let civil : IsCivilTime t = c.in_ok-time.ensures.civil in
    let is : IsMomentOf t c.args.moment = c.in_ok-time.ensures.moment in
    let hour : c.args.moment % 86400 / 3600 ≡ t.hour =
    omega (arith, signed_arith, is, civil.hour, civil.minute, civil.second) in
    let minute : c.args.moment % 3600 / 60 ≡ t.minute =
    omega (arith, signed_arith, is, civil.hour, civil.minute, civil.second) in
    let second : c.args.moment % 60 ≡ t.second =
    omega (arith, signed_arith, is, civil.hour, civil.minute, civil.second) in
    record {
      year = t.year;
      month = t.month;
      day = t.day;
      date = civil.date;
      is_day = omega (arith, signed_arith, is, civil.hour, civil.minute, civil.second);
      is_text = rw (
        c.two_digits.ensures,
        c.two_digits-2.ensures,
        c.two_digits-3.ensures,
        c.two_digits-4.ensures,
        c.two_digits-5.ensures,
        c.two_digits-6.ensures,
        c.two_digits-7.ensures,
        hour,
        minute,
        second,
      ) refl;
    }
