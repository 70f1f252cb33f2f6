-- A moment has one civil text, and what the calendar gives shows it.
use Rattle.std.proofs.Common.{◌≡◌, ℕ, List, pos, sym, ◌∙◌, arith}
use Rattle.jiff_core.specs.declared.civil.date.Date.{Date}
use Rattle.jiff_core.proofs.DateLemmas.{epoch_day_injective}
use Rattle.jiff_core.proofs.SignedLemmas.{signed_arith}
use Rattle.nx_envelope.specs.Moment.{IsShownAs}

-- the date that a text shows
abbrev date_of : {moment : ℕ} {text : List ℕ} → IsShownAs moment text → Date
date_of s = record {
  year = pos s.year;
  month = s.month;
  day = s.day;
  year_in = s.date.0;
  month_in = s.date.1;
  day_in = s.date.2;
}

-- the dates of one moment have one day number, so they are one, and the text is one
pub one_text : (moment : ℕ) (text other : List ℕ) → IsShownAs moment text → IsShownAs moment other
    → text ≡ other
one_text moment text other s o =
    let date = epoch_day_injective (date_of s) (date_of o) (s.is_day ∙ sym o.is_day) in
    let year : s.year ≡ o.year = omega (arith, signed_arith, date.0) in
    let month : s.month ≡ o.month = date.1 in
    let day : s.day ≡ o.day = date.2 in
    s.is_text ∙ rw (year, month, day) (sym o.is_text)
