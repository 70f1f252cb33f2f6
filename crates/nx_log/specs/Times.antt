-- The times by which a query names moments (this profile).
use Rattle.std.specs.Prelude.{◌≡◌, ℕ, ◌≤◌, ◌⊎◌, List, [], ◌++◌, codes, length, slice_set}
use Rattle.std.specs.Str.Parse.{IsNumeral, digits_value}
use Rattle.nx_code.specs.Reading.{space}
use Rattle.nx_envelope.specs.Moment.{IsShownAs, last_moment}

-- how many digits a year has, and a date without its hyphens
abbrev pub year_digits : ℕ
year_digits = 4

abbrev pub date_digits : ℕ
date_digits = 8

-- so many bytes could be a year, or a date without its hyphens
abbrev pub CouldBeDate : List ℕ → Type 0
CouldBeDate text = (length text ≡ year_digits) ⊎ (length text ≡ date_digits)

-- the text is of digits alone, which could be no year and no date, and they write the moment
pub record WritesMoment (text : List ℕ) (moment : ℕ) : Type 0 where
  pub digits : IsNumeral 10 text
  pub no_date : ¬ CouldBeDate text
  pub value : moment ≡ digits_value 10 text

-- how many bytes the date of a civil time has
abbrev pub date_length : ℕ
date_length = 10

-- the letter T, which ISO 8601 writes between a date and a time of day
abbrev pub letter_t : ℕ
letter_t = 84

-- a civil time with this byte between its date and its time of day
abbrev pub joined_by : ℕ → List ℕ → List ℕ
joined_by between civil = slice_set civil date_length between

-- a civil time as ISO 8601 joins its date and its time of day: with a T for the space behind the
-- date
abbrev pub joined : List ℕ → List ℕ
joined civil = joined_by letter_t civil

-- what may stand there: that T, or the space
abbrev pub IsBetween : ℕ → Type 0
IsBetween between = (between ≡ letter_t) ⊎ (between ≡ space)

-- The text is a date and a time of day, YYYY-MM-DDTHH:MM:SS, or what of it stands before `rest`. A
-- space may stand for the T, and a Z behind it. With `rest` it shows the moment.
pub record WritesTime (rest text : List ℕ) (moment : ℕ) : Type 0 where
  pub civil : List ℕ
  pub shown : IsShownAs moment (civil ++ rest)
  pub between : ℕ
  pub is_between : IsBetween between
  pub zone : List ℕ
  pub utc : (zone ≡ []) ⊎ (zone ≡ codes "Z")
  pub spelled : text ≡ joined_by between civil ++ zone

-- Time: the text names a moment in range, where a date alone, YYYY-MM-DD, means this second of its
-- day, and a time to the minute this second of its minute.
abbrev pub NamesMoment : List ℕ → List ℕ → List ℕ → ℕ → Type 0
NamesMoment of_day of_minute text moment = (moment ≤ last_moment)
    × (WritesMoment text moment ⊎ WritesTime [] text moment ⊎ WritesTime of_minute text moment
    ⊎ IsShownAs moment (text ++ of_day))

-- the moment since which entries are asked for: of a date or a minute, its first second
abbrev pub IsSince : List ℕ → ℕ → Type 0
IsSince text moment = NamesMoment (codes " 00:00:00") (codes ":00") text moment

-- the moment until which entries are asked for: of a date or a minute, its last second
abbrev pub IsUntil : List ℕ → ℕ → Type 0
IsUntil text moment = NamesMoment (codes " 23:59:59") (codes ":59") text moment
