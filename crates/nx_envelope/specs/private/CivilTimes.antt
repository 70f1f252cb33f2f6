-- The date and the time of day of a moment, as the calendar gives them (this profile).
use Rattle.std.specs.Prelude.{◌≡◌, ℕ, ◌+◌, ◌*◌, ◌<◌, pos, ◌+ℤ◌, ◌*ℤ◌}
use Rattle.jiff_core.specs.Calendar.{IsCivilDate, days_from_civil}
use Rattle.nx_envelope.specs.declared.moment.CivilTime.{CivilTime}

-- the calendar has this day, and a clock shows this time
pub record IsCivilTime (t : CivilTime) : Type 0 where
  pub date : IsCivilDate (pos t.year) t.month t.day
  pub hour : t.hour < 24
  pub minute : t.minute < 60
  pub second : t.second < 60

-- 86,400 times the day number of the date, 0 for 1970-01-01, and the seconds since midnight are the
-- moment
abbrev pub IsMomentOf : CivilTime → ℕ → Type 0
IsMomentOf t moment =
    days_from_civil (pos t.year) t.month t.day *ℤ pos 86400
    +ℤ pos (t.hour * 3600 + t.minute * 60 + t.second) ≡ pos moment
