-- Every moment to the last one has a civil text.
use Rattle.std.proofs.Common.{◌≡◌, ℕ, zero, suc, ◌+◌, ◌/◌, ◌<◌, ◌≤◌, inl, inr, ℤ, pos, ◌+ℤ◌, refl}
use Rattle.std.proofs.Common.{ap, ◌∙◌, arith, rules}
use Rattle.std.proofs.lemmas.Bool.Decides.{leb_tells}
use Rattle.jiff_core.specs.Calendar.{IsCivilDate, days_from_civil, days_in_month}
use Rattle.jiff_core.proofs.CalendarLemmas.{day_count-epoch, days_from_civil-day_count}
use Rattle.jiff_core.proofs.CalendarLemmas.{days_in_month_bounds}
use Rattle.jiff_core.proofs.DateLemmas.{days_from_civil-day, days_from_civil-next_month}
use Rattle.jiff_core.proofs.DateLemmas.{days_from_civil-next_year, days_from_civil-max}
use Rattle.jiff_core.proofs.SignedLemmas.{signed_arith}
use Rattle.nx_envelope.specs.Moment.{HasText, last_moment}

-- the date with that day number
pub record DateOf (day_number : ℕ) : Type 0 where
  pub year : ℕ
  pub month : ℕ
  pub day : ℕ
  pub is_date : IsCivilDate (pos year) month day
  pub number : days_from_civil (pos year) month day ≡ pos day_number

first_day : DateOf 0
first_day = record {
  year = 1970;
  month = 1;
  day = 1;
  is_date = (search rules, search rules, search rules);
  number = omega (arith, signed_arith, days_from_civil-day_count (pos 1970) 1 1, day_count-epoch);
}

in_month : (n : ℕ) (d : DateOf n) → d.day + 1 ≤ days_in_month (pos d.year) d.month → DateOf (n + 1)
in_month n d le =
    let next = days_from_civil-day (pos d.year) d.month d.day (d.day + 1) d.is_date.2.0
    (omega arith) in
    record {
      year = d.year;
      month = d.month;
      day = d.day + 1;
      is_date = (d.is_date.0, d.is_date.1, (omega arith, le));
      number = omega (arith, signed_arith, next, d.number);
    }

next_month : (n : ℕ) (d : DateOf n) → d.day ≡ days_in_month (pos d.year) d.month → d.month + 1 ≤ 12
    → DateOf (n + 1)
next_month n d last le =
    let next = days_from_civil-next_month (pos d.year) d.month d.day d.is_date.1.0 last in
    let long = days_in_month_bounds (pos d.year) (d.month + 1) in
    record {
      year = d.year;
      month = d.month + 1;
      day = 1;
      is_date = (d.is_date.0, (omega arith, le), (omega arith, omega (arith, long.1)));
      number = next ∙ ap (λ (z : ℤ). z +ℤ pos 1) d.number;
    }

-- no moment reaches the year 10000
year_below : (n : ℕ) (d : DateOf n) → n < 2932896 → d.month ≡ 12 → d.day ≡ 31 → d.year < 9999
year_below n d few month day =
    elim (leb_tells 9999 d.year) [
      | inl p ↦ let year : d.year ≡ 9999 = omega (arith, signed_arith, p.1, d.is_date.0.1) in
          let number : days_from_civil (pos 9999) 12 31 ≡ pos n =
          rw (year, month, day) at d.number in
          absurd (omega (arith, signed_arith, number, days_from_civil-max, few))
      | inr p ↦ p.1
    ]

next_year : (n : ℕ) (d : DateOf n) → n < 2932896 → d.month ≡ 12 → d.day ≡ 31 → DateOf (n + 1)
next_year n d few month day =
    let below = year_below n d few month day in
    let next = days_from_civil-next_year (pos d.year) (pos (d.year + 1)) (search rules)
    (omega (arith, signed_arith)) in
    let number : days_from_civil (pos d.year) 12 31 ≡ pos n = rw (month, day) at d.number in
    record {
      year = d.year + 1;
      month = 1;
      day = 1;
      is_date = ((search rules, omega (arith, signed_arith, below)), search rules, search rules);
      number = next ∙ ap (λ (z : ℤ). z +ℤ pos 1) number;
    }

next_day : (n : ℕ) → n < 2932896 → DateOf n → DateOf (n + 1)
next_day n few d =
    elim (leb_tells (d.day + 1) (days_in_month (pos d.year) d.month)) [
      | inl p ↦ in_month n d p.1
      | inr p ↦ let last : d.day ≡ days_in_month (pos d.year) d.month =
          omega (arith, p.1, d.is_date.2.1) in elim (leb_tells (d.month + 1) 12) [
            | inl q ↦ next_month n d last q.1
            | inr q ↦ let month : d.month ≡ 12 = omega (arith, q.1, d.is_date.1.1) in
                next_year n d few month (last ∙ rw month refl)
          ]
    ]

date_of : (n : ℕ) → n < 2932897 → DateOf n
date_of zero few = first_day
date_of (suc n) few =
    let more : n + 1 ≡ suc n = omega arith in
    rw (← more) (next_day n (omega (arith, few)) (date_of n (omega (arith, few))))

-- so is a moment, by its day and the time of that day
shown : (moment : ℕ) → DateOf (moment / 86400) → HasText moment
shown moment d = record {
  text = _;
  is_shown = record {
    year = d.year;
    month = d.month;
    day = d.day;
    date = d.is_date;
    is_day = d.number;
    is_text = refl;
  };
}

pub every_moment : (moment : ℕ) → moment ≤ last_moment → HasText moment
every_moment moment le = shown moment (date_of (moment / 86400) (omega (arith, le)))
