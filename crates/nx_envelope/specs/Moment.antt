-- This profile: a moment is a count of whole seconds since 1970-01-01 00:00:00 UTC, and is printed
-- as the civil date and time of the Gregorian calendar.
use Rattle.std.specs.Prelude.{◌≡◌, ℕ, ◌/◌, ◌%◌, List, ◌++◌, codes, pos}
use Rattle.jiff_core.specs.Calendar.{IsCivilDate, days_from_civil}
use Rattle.nx_envelope.specs.Identity.{two_digits}

-- the last moment that is printed, 2999-12-31 23:59:59
abbrev pub last_moment : ℕ
last_moment = 32503679999

-- The text shows the moment as YYYY-MM-DD HH:MM:SS. The date is the one whose day number, 0 for
-- 1970-01-01, is how many whole days of 86,400 seconds the moment has; the time is that of this
-- day.
pub record IsShownAs (moment : ℕ) (text : List ℕ) : Type 0 where
  pub year : ℕ
  pub month : ℕ
  pub day : ℕ
  pub date : IsCivilDate (pos year) month day
  pub is_day : days_from_civil (pos year) month day ≡ pos (moment / 86400)
  pub is_text : text ≡ two_digits (year / 100) ++ two_digits (year % 100)
      ++ codes "-" ++ two_digits month ++ codes "-" ++ two_digits day
      ++ codes " " ++ two_digits (moment % 86400 / 3600)
      ++ codes ":" ++ two_digits (moment % 3600 / 60) ++ codes ":" ++ two_digits (moment % 60)

-- the moment has a civil text
pub record HasText (moment : ℕ) : Type 0 where
  pub text : List ℕ
  pub is_shown : IsShownAs moment text
