-- A civil time by its numbers, from each on: what bytes lack of one.
use Rattle.std.proofs.Common.{◌≡◌, inl, inr, ℕ, ◌+◌, ◌-◌, ◌*◌, ◌/◌, ◌%◌, ◌<◌, ◌≤◌, List, [], ◌∷◌, ◌++◌, ap, drop, get_or, pos, sym, ◌∙◌, subst, refl, arith, length, lit≤, append-nil, append_assoc}
use Rattle.std.specs.Prelude.{codes}
use Rattle.std.proofs.lemmas.Bool.{cases_lt}
use Rattle.std.proofs.lemmas.List.{append_cancel_left, length-append, nil_from_length}
use Rattle.jiff_core.specs.Calendar.{IsCivilDate, day_count, days_from_civil, days_in_month}
use Rattle.jiff_core.proofs.CalendarLemmas.{day_count-epoch, day_count-lt_year, day_count-day_of_year, days_in_month_bounds, days_from_civil-day_count, day_count-later_year}
use Rattle.jiff_core.proofs.MarchLemmas.{day_count-early}
use Rattle.jiff_core.proofs.SignedLemmas.{signed_arith}
use Rattle.nx_envelope.specs.Identity.{two_digits}
use Rattle.nx_envelope.specs.Moment.{IsShownAs, last_moment}
use Rattle.nx_log.specs.declared.entries.lack.Lack.{Lack}
use Rattle.nx_log.specs.private.Stages.{IsCivilTime, IsNumber, IsTime, Joined, Lacks, Spells, year_from}
use Rattle.nx_log.specs.declared.entries.lack.Lack.TheVariants.{Unfinished, Broken}
use Rattle.nx_log.proofs.lemmas.reading.Pieces.{same_text}
use Rattle.nx_log.proofs.lemmas.beginnings.Joins.{join, lacks_at, lacks_behind, lacks_same, some_joined}
use Rattle.nx_log.proofs.lemmas.beginnings.Lists.{joined}

day_count-3000 : day_count (pos 3000) 1 1 ≡ 4_748_153
day_count-3000 = day_count-early (pos 3000) 12999 1 1 refl (omega arith) (omega arith) (omega arith)

-- the years of the moments in range
pub year_in_range : (moment : ℕ) (text : List ℕ) → moment ≤ last_moment
    → (s : IsShownAs moment text) → (1970 ≤ s.year) × (s.year ≤ 2999)
year_in_range moment text small s =
    let y = s.year in
    let m = s.month in
    let d = s.day in
    let n = moment / 86400 in
    let date = s.date in
    let count = days_from_civil-day_count (pos y) m d in
    let is : day_count (pos y) m d ≡ 4_371_953 + n =
    omega (arith, rw s.is_day at count) in
    let first : 1970 ≤ y = elim (cases_lt y 1970) [
      | inl less ↦ absurd (omega (
        arith,
        is,
        day_count-epoch,
        day_count-lt_year (pos y) m d (pos 1970) 1 1 date (omega arith)
            (omega (arith, signed_arith)),
      ))
      | inr more ↦ more
    ] in
    let last : y ≤ 2999 = elim (cases_lt y 3000) [
      | inl less ↦ omega arith
      | inr more ↦
          let place = day_count-day_of_year (pos y) m d date.2.0 in
          let whole : 4_748_153 ≤ day_count (pos y) 1 1 = elim (cases_lt 3000 y) [
            | inl later ↦ omega (
              arith,
              day_count-3000,
              day_count-later_year (pos 3000) (pos y) (omega (arith, signed_arith))
                  (omega (arith, signed_arith)),
            )
            | inr not_later ↦
                let same : y ≡ 3000 = omega arith in
                rw same (omega (arith, day_count-3000))
          ] in
          absurd (omega (arith, is, place, whole))
    ] in
    (first, last)

-- the days of these years, from 0 on
pub day_in_range : (year month day : ℕ) → 1970 ≤ year → year ≤ 2999
    → IsCivilDate (pos year) month day
    → (n : ℕ) × (days_from_civil (pos year) month day ≡ pos n) × (n ≤ 376_199)
day_in_range year month day low high date =
    let count = day_count (pos year) month day in
    let late : 4_371_953 ≤ count = elim (cases_lt 1970 year) [
      | inl later ↦
          let place = day_count-day_of_year (pos year) month day date.2.0 in
          omega (
            arith,
            day_count-epoch,
            place,
            day_count-later_year (pos 1970) (pos year) (omega (arith, signed_arith))
                (omega (arith, signed_arith)),
          )
      | inr not_later ↦
          let same : year ≡ 1970 = omega arith in
          let place = rw same at (day_count-day_of_year (pos year) month day date.2.0) in
          rw same (omega (arith, day_count-epoch, place))
    ] in
    let early : count < 4_748_153 = omega (
      arith,
      day_count-3000,
      day_count-lt_year (pos year) month day (pos 3000) 1 1 date (omega arith)
          (omega (arith, signed_arith)),
    ) in (
      count - 4_371_953,
      omega (arith, signed_arith, days_from_civil-day_count (pos year) month day),
      omega arith,
    )

-- a civil time by its numbers, those of its year by two digits each
abbrev pub time_text : (century year month day hour minute second : ℕ) → List ℕ
time_text century year month day hour minute second =
    two_digits century ++ (two_digits year ++ ((codes "-" ++ two_digits month)
    ++ ((codes "-" ++ two_digits day) ++ ((codes " " ++ two_digits hour)
    ++ ((codes ":" ++ two_digits minute) ++ (codes ":" ++ two_digits second))))))

-- the numbers of a moment show it
pub shows : (n century year month day hour minute second : ℕ) → n ≤ 376_199 → year ≤ 99
    → IsCivilDate (pos (century * 100 + year)) month day
    → days_from_civil (pos (century * 100 + year)) month day ≡ pos n
    → hour ≤ 23 → minute ≤ 59 → second ≤ 59
    → IsCivilTime (n * 86400 + (hour * 3600 + minute * 60) + second)
    (time_text century year month day hour minute second)
shows n century year month day hour minute second small two date is_day hours minutes seconds =
    let moment = n * 86400 + (hour * 3600 + minute * 60) + second in
    let days : moment / 86400 ≡ n = omega arith in
    let century_is : (century * 100 + year) / 100 ≡ century = omega arith in
    let year_is : (century * 100 + year) % 100 ≡ year = omega arith in
    let hour_is : moment % 86400 / 3600 ≡ hour = omega arith in
    let minute_is : moment % 3600 / 60 ≡ minute = omega arith in
    let second_is : moment % 60 ≡ second = omega arith in
    record {
      in_range = omega arith;
      shown = record {
        year = century * 100 + year;
        month = month;
        day = day;
        date = date;
        is_day = rw days is_day;
        is_text = rw (century_is, year_is, hour_is, minute_is, second_is) refl;
      };
    }

-- ---- from each number on

abbrev pub FromSecond : List ℕ → Type 0
FromSecond = Spells (IsNumber (codes ":") 0 59)

abbrev pub FromMinute : List ℕ → Type 0
FromMinute = Joined (IsNumber (codes ":") 0 59) (λ minute. FromSecond)

abbrev pub FromHour : List ℕ → Type 0
FromHour = Joined (IsNumber (codes " ") 0 23) (λ hour. FromMinute)

abbrev pub FromDay : ℕ → ℕ → List ℕ → Type 0
FromDay year month =
    Joined (IsNumber (codes "-") 1 (days_in_month (pos year) month)) (λ day. FromHour)

abbrev pub FromMonth : ℕ → List ℕ → Type 0
FromMonth year = Joined (IsNumber (codes "-") 1 12) (FromDay year)

abbrev pub FromYear : ℕ → List ℕ → Type 0
FromYear century =
    Joined (IsNumber [] (year_from century) 99) (λ year. FromMonth (century * 100 + year))

abbrev pub FromCentury : List ℕ → Type 0
FromCentury = Joined (IsNumber [] 19 29) FromYear

-- a number in range, spelled
number : (before : List ℕ) (least most n : ℕ) → least ≤ n → n ≤ most
    → IsNumber before least most n (before ++ two_digits n)
number before least most n enough few =
    record { enough = enough; few = few; is_spelled = refl }

-- a year in range, by its century
year_enough : (year : ℕ) → 1970 ≤ year → year_from (year / 100) ≤ year % 100
year_enough year low = elim (cases_lt (year / 100) 20) [
  | inl first ↦ let is : year / 100 ≡ 19 = omega arith in rw is (omega arith)
  | inr later ↦ grind arith
]

pub year_low : (century year : ℕ) → 19 ≤ century → year_from century ≤ year
    → 1970 ≤ century * 100 + year
year_low century year low enough = elim (cases_lt century 20) [
  | inl first ↦ let is : century ≡ 19 = omega arith in
      let least : 70 ≤ year = rw is at enough in rw is (omega arith)
  | inr later ↦ omega arith
]

pub from_time : (text : List ℕ) → Spells IsCivilTime text → FromCentury text
from_time text time =
    let moment = time.0 in
    let s = time.1.shown in
    let years = year_in_range moment text time.1.in_range s in
    let date = s.date in
    let whole : s.year / 100 * 100 + s.year % 100 ≡ s.year = omega arith in
    subst FromCentury (sym s.is_text)
    (join (IsNumber [] 19 29) FromYear (s.year / 100) (two_digits (s.year / 100)) _
    (number [] 19 29 (s.year / 100) (omega arith) (omega arith))
    (join (IsNumber [] (year_from (s.year / 100)) 99)
    (λ year. FromMonth (s.year / 100 * 100 + year)) (s.year % 100) (two_digits (s.year % 100)) _
    (number [] (year_from (s.year / 100)) 99 (s.year % 100) (year_enough s.year years.0)
    (omega arith))
    (rw whole (join (IsNumber (codes "-") 1 12) (FromDay s.year) s.month
    (codes "-" ++ two_digits s.month) _ (number (codes "-") 1 12 s.month date.1.0 date.1.1)
    (join (IsNumber (codes "-") 1 (days_in_month (pos s.year) s.month)) (λ day. FromHour) s.day
    (codes "-" ++ two_digits s.day) _
    (number (codes "-") 1 (days_in_month (pos s.year) s.month) s.day date.2.0 date.2.1)
    (join (IsNumber (codes " ") 0 23) (λ hour. FromMinute) (moment % 86400 / 3600)
    (codes " " ++ two_digits (moment % 86400 / 3600)) _
    (number (codes " ") 0 23 (moment % 86400 / 3600) (omega arith) (omega arith))
    (join (IsNumber (codes ":") 0 59) (λ minute. FromSecond) (moment % 3600 / 60)
    (codes ":" ++ two_digits (moment % 3600 / 60)) _
    (number (codes ":") 0 59 (moment % 3600 / 60) (omega arith) (omega arith))
    (moment % 60, number (codes ":") 0 59 (moment % 60) (omega arith) (omega arith)))))))))

pub to_time : (text : List ℕ) → FromCentury text → Spells IsCivilTime text
to_time text century =
    let year = century.is_rest in
    let month = year.is_rest in
    let day = month.is_rest in
    let hour = day.is_rest in
    let minute = hour.is_rest in
    let second = minute.is_rest in
    let minutes = joined _ _ _ _ _ minute.split minute.is_piece.is_spelled second.1.is_spelled in
    let hours = joined _ _ _ _ _ hour.split hour.is_piece.is_spelled minutes in
    let days = joined _ _ _ _ _ day.split day.is_piece.is_spelled hours in
    let months = joined _ _ _ _ _ month.split month.is_piece.is_spelled days in
    let years = joined _ _ _ _ _ year.split year.is_piece.is_spelled months in
    let whole = joined _ _ _ _ _ century.split century.is_piece.is_spelled years in
    let low = year_low century.piece year.piece century.is_piece.enough year.is_piece.enough in
    let few = century.is_piece.few in
    let two = year.is_piece.few in
    let high : century.piece * 100 + year.piece ≤ 2999 = omega arith in
    let date : IsCivilDate (pos (century.piece * 100 + year.piece)) month.piece day.piece = (
      (omega (arith, signed_arith), omega (arith, signed_arith)),
      (month.is_piece.enough, month.is_piece.few),
      (day.is_piece.enough, day.is_piece.few),
    ) in
    let n = day_in_range (century.piece * 100 + year.piece) month.piece day.piece low high date in
    let shown = shows n.0 century.piece year.piece month.piece day.piece hour.piece minute.piece
    second.0 n.2 two date n.1 hour.is_piece.few minute.is_piece.few second.1.few in
    (_, subst (IsCivilTime _) (sym whole) shown)

-- ---- each can be begun

pub some_second : (rest : List ℕ) × FromSecond rest
some_second = (codes ":00", (0, number (codes ":") 0 59 0 (lit≤ tt) (lit≤ tt)))

pub some_minute : (rest : List ℕ) × FromMinute rest
some_minute = some_joined (IsNumber (codes ":") 0 59) (λ minute. FromSecond) 0 (codes ":00")
    (number (codes ":") 0 59 0 (lit≤ tt) (lit≤ tt)) some_second

pub some_hour : (rest : List ℕ) × FromHour rest
some_hour = some_joined (IsNumber (codes " ") 0 23) (λ hour. FromMinute) 0 (codes " 00")
    (number (codes " ") 0 23 0 (lit≤ tt) (lit≤ tt)) some_minute

pub some_day : (year month : ℕ) → (rest : List ℕ) × FromDay year month rest
some_day year month =
    let most = days_in_month (pos year) month in
    let bounds = days_in_month_bounds (pos year) month in
    some_joined (IsNumber (codes "-") 1 most) (λ day. FromHour) 1 (codes "-01")
    (number (codes "-") 1 most 1 (lit≤ tt) (omega (arith, bounds))) some_hour

pub some_month : (year : ℕ) → (rest : List ℕ) × FromMonth year rest
some_month year = some_joined (IsNumber (codes "-") 1 12) (FromDay year) 1 (codes "-01")
    (number (codes "-") 1 12 1 (lit≤ tt) (lit≤ tt)) (some_day year 1)

pub some_year : (century : ℕ) → (rest : List ℕ) × FromYear century rest
some_year century =
    some_joined (IsNumber [] (year_from century) 99) (λ year. FromMonth (century * 100 + year)) 70
    (codes "70") (number [] (year_from century) 99 70 (grind arith) (lit≤ tt))
    (some_month (century * 100 + 70))

pub some_time : (text : List ℕ) × Spells IsCivilTime text
some_time =
    let some = some_joined (IsNumber [] 19 29) FromYear 19 (codes "19")
    (number [] 19 29 19 (lit≤ tt) (lit≤ tt)) (some_year 19) in
    (some.0, to_time some.0 some.1)

-- ---- what is lacked

same_digits : (a b : ℕ) (x y : List ℕ) → two_digits a ++ x ≡ two_digits b ++ y
    → (a ≡ b) × (x ≡ y)
same_digits a b x y e =
    let tens : 48 + a / 10 ≡ 48 + b / 10 = ap (λ l. get_or l 0 0) e in
    let units : 48 + a % 10 ≡ 48 + b % 10 = ap (λ l. get_or l 1 0) e in
    (omega arith, ap (drop 2) e)

-- behind one of the numbers
pub behind_number : (before : List ℕ) (least most : ℕ) (rest_is : ℕ → List ℕ → Type 0)
    (bytes : List ℕ) (lack : Lack) (n : ℕ) (rest : List ℕ) → (least ≤ n) × (n ≤ most)
    → bytes ≡ before ++ (two_digits n ++ rest) → Lacks (rest_is n) rest lack
    → Lacks (Joined (IsNumber before least most) rest_is) bytes lack
behind_number before least most rest_is bytes lack n rest range e =
    lacks_behind (IsNumber before least most) rest_is bytes lack n (before ++ two_digits n) rest
    (number before least most n range.0 range.1)
    (e ∙ sym (append_assoc before (two_digits n) rest))
    (λ other t x y is same.
    let one = same_digits n other x y (append_cancel_left before _ _
    (sym (append_assoc before (two_digits n) x) ∙ same ∙ ap (λ l. l ++ y) is.is_spelled
    ∙ append_assoc before (two_digits other) y)) in
    (one.1, λ l f. subst (λ k. rest_is k l) (sym one.0) f))

pub lacks_time : (bytes : List ℕ) (lack : Lack) → Lacks FromCentury bytes lack
    → Lacks (Spells IsCivilTime) bytes lack
lacks_time bytes lack = lacks_same FromCentury (Spells IsCivilTime) bytes lack to_time from_time

-- what is a civil time lacks nothing of one
pub not_lacked : (bytes : List ℕ) (lack : Lack) → Lacks (Spells IsCivilTime) bytes lack
    → (moment : ℕ) → IsCivilTime moment bytes → ⊥
not_lacked bytes Unfinished l moment is =
    let short = ap length is.shown.is_text in
    let long = ap length l.1.1.shown.is_text in
    l.2 (nil_from_length l.0 (omega (arith, short, long, length-append bytes l.0)))
not_lacked bytes (Broken left) l moment is =
    l.never l.behind bytes [] (moment, is) (append_assoc l.front (l.byte ∷ []) l.behind
    ∙ ap (λ b. l.front ++ b) (sym l.first) ∙ sym l.split ∙ sym (append-nil bytes))

-- ---- with the space behind it

module _ (bytes : List ℕ) (lack : Lack) where
  pub lacks_civil : Lacks (Spells IsCivilTime) bytes lack → Lacks (Spells IsTime) bytes lack
  lacks_civil = lacks_at (Spells IsCivilTime) (Spells IsTime) []
      (λ s h. (
        32 ∷ [],
        (
          h.0,
          record {
            civil = s;
            in_range = h.1.in_range;
            shown = h.1.shown;
            is_spelled = refl;
          },
        ),
      ))
      (λ s x y is e. (
        is.1.civil,
        32 ∷ [],
        (is.0, record { in_range = is.1.in_range; shown = is.1.shown }),
        is.1.is_spelled,
      ))
      bytes bytes lack refl

  pub lacks_space : (moment : ℕ) (civil rest : List ℕ) → moment ≤ last_moment
      → IsShownAs moment civil → bytes ≡ civil ++ rest
      → Lacks (λ spelled. spelled ≡ codes " ") rest lack → Lacks (Spells IsTime) bytes lack
  lacks_space moment civil rest small shown =
      lacks_at (λ spelled. spelled ≡ codes " ") (Spells IsTime) civil
      (λ s h. (
        [],
        (
          moment,
          record {
            civil = civil;
            in_range = small;
            shown = shown;
            is_spelled = ap (λ l. civil ++ l) (append-nil s ∙ h);
          },
        ),
      ))
      (λ s x y is e.
      let other = is.1.civil in
      let same = same_text civil other x ((codes " ") ++ y)
      (ap length shown.is_text ∙ sym (ap length is.1.shown.is_text))
      (e ∙ ap (λ l. l ++ y) is.1.is_spelled ∙ append_assoc other (codes " ") y) in
      (codes " ", [], refl, is.1.is_spelled ∙ ap (λ l. l ++ codes " ") (sym same.piece)))
      bytes rest lack
