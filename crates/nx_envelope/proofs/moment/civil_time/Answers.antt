use Rattle.std.proofs.Common.{◌≡◌, pos, ◌/◌, arith, w64, ◌∙◌}
use Rattle.std.proofs.lemmas.Int.{to_z_pos}
use Rattle.jiff_core.proofs.SignedLemmas.{signed_arith}
use Rattle.jiff_core.specs.Date.{epoch_day}
use Rattle.nx_envelope.proofs.lemmas.moments.CivilTimes.{year_of_day, moment_of_day, as_byte, day_below_128}
use Rattle.nx_envelope.proofs.moment.civil_time.Goals as goal

pub overflow_cast-result : goal.overflow_cast-result
overflow_cast-result c =
    let day : epoch_day c.in-Ok.date ≡ pos (c.args.moment / 86400) =
    c.in-Ok.ensures.value ∙ to_z_pos w64 (c.args.moment / 86400) (omega arith) in
    rw (c.year.ensures, c.from_plain-date.ensures)
    (omega (arith, signed_arith, year_of_day c.in-Ok.date c.args.moment day, c.in-Ok.date.year_in))

pub returns-clause-moment : goal.returns-clause-moment
returns-clause-moment c =
    rw (
      c.year.ensures,
      c.month.ensures,
      c.day.ensures,
      c.hour.ensures,
      c.minute.ensures,
      c.second.ensures,
      c.from_plain-date.ensures,
      c.from_plain-time.ensures,
      as_byte c.in-Ok.date.month (omega (arith, c.in-Ok.date.month_in)),
      as_byte c.in-Ok.date.day (day_below_128 c.in-Ok.date),
      as_byte c.from_second.result.hour (omega (arith, c.from_second.result.hour_in)),
      as_byte c.from_second.result.minute (omega (arith, c.from_second.result.minute_in)),
      as_byte c.from_second.result.second (omega (arith, c.from_second.result.second_in)),
    )
    (moment_of_day c.in-Ok.date c.from_second.result c.args.moment
    (c.in-Ok.ensures.value ∙ to_z_pos w64 (c.args.moment / 86400) (omega arith))
    c.from_second.ensures.seconds)
