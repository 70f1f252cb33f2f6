-- What a moment's civil time is, from the number of its day.
use Rattle.std.proofs.Common.{◌≡◌, ℕ, ◌/◌, ◌%◌, subst, arith, ℤ, pos, negsuc, ◌+ℤ◌, ◌*ℤ◌, ◌≤ℤ◌, unsigned_abs}
use Rattle.std.proofs.Common.{w8, w16, to_z, of_z, refl, ◌<◌}
use Rattle.std.proofs.lemmas.Int.{by_lt_z}
use Rattle.jiff_core.specs.declared.civil.date.Date.{Date}
use Rattle.jiff_core.specs.declared.civil.time.Time.{Time}
use Rattle.jiff_core.specs.Calendar.{days_from_civil}
use Rattle.jiff_core.specs.Date.{epoch_day}
use Rattle.jiff_core.specs.Time.{time_seconds}
use Rattle.jiff_core.proofs.CalendarLemmas.{day_count-epoch, day_count-lt_year}
use Rattle.jiff_core.proofs.CalendarLemmas.{days_from_civil-day_count}
use Rattle.jiff_core.proofs.CalendarLemmas.{days_in_month_bounds}
use Rattle.jiff_core.proofs.DateLemmas.{civil}
use Rattle.jiff_core.proofs.SignedLemmas.{back_small, signed_arith}

-- a date from 1970-01-01 on has a year from 1970 on
pub year_from_epoch : (d : Date) → pos 0 ≤ℤ epoch_day d → pos 1970 ≤ℤ d.year
year_from_epoch d h =
    by_lt_z d.year (pos 1970)
    (λ lt. absurd (omega (
      arith,
      signed_arith,
      days_from_civil-day_count d.year d.month d.day,
      day_count-lt_year d.year d.month d.day (pos 1970) 1 1 (civil d) (omega arith) lt,
      day_count-epoch,
    )))
    (λ ge. ge)

-- a year of the calendar that is not negative is its own cast to an unsigned number
pub cast_year : (y : ℤ) → pos 0 ≤ℤ y → y ≤ℤ pos 9999
    → y ≡ pos (unsigned_abs (to_z w16 (of_z w16 y)))
cast_year (pos n) low high = rw (back_small w16 (pos n) (omega (arith, signed_arith))) refl
cast_year (negsuc n) low high = absurd (omega (arith, signed_arith))

-- the date whose day number is how many whole days a moment has, has a year that stands as it is
-- cast
pub year_of_day : (d : Date) (moment : ℕ) → epoch_day d ≡ pos (moment / 86400)
    → d.year ≡ pos (unsigned_abs (to_z w16 (of_z w16 d.year)))
year_of_day d moment e =
    let from : pos 1970 ≤ℤ d.year = year_from_epoch d (omega (arith, signed_arith)) in
    cast_year d.year (omega (arith, signed_arith)) d.year_in.1

-- so that date and the time of the rest of the day are those of the moment
pub moment_of_day : (d : Date) (time : Time) (moment : ℕ) → epoch_day d ≡ pos (moment / 86400)
    → time_seconds time ≡ moment % 86400
    → days_from_civil (pos (unsigned_abs (to_z w16 (of_z w16 d.year)))) d.month d.day *ℤ pos 86400
    +ℤ pos (time_seconds time) ≡ pos moment
moment_of_day d time moment e f =
    subst (λ (year : ℤ). days_from_civil year d.month d.day *ℤ pos 86400
    +ℤ pos (time_seconds time) ≡ pos moment) (year_of_day d moment e)
    (omega (arith, signed_arith, e, f))

-- a number below 128 stands as it is where it is cast to a byte
pub as_byte : (n : ℕ) → n < 128 → unsigned_abs (to_z w8 (of_z w8 (pos n))) ≡ n
as_byte n low = rw (back_small w8 (pos n) (omega (arith, signed_arith, low))) refl

-- and so does the day of a date
pub day_below_128 : (d : Date) → d.day < 128
day_below_128 d = omega (arith, d.day_in, days_in_month_bounds d.year d.month)
