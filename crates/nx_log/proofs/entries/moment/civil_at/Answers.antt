use Rattle.std.proofs.Common.{◌≡◌, ℕ, ◌+◌, ◌*◌, ◌≤◌, ◌++◌, ap, arith, pos, subst, to_z, w16, ◌∙◌}
use Rattle.std.specs.Prelude.{codes}
use Rattle.std.proofs.lemmas.Int.{to_z_pos}
use Rattle.std.proofs.lemmas.Result.{err_from_is_err_and}
use Rattle.jiff_core.specs.Calendar.{IsCivilDate, days_from_civil, days_in_month}
use Rattle.jiff_core.proofs.SignedLemmas.{signed_arith}
use Rattle.nx_envelope.specs.Identity.{two_digits}
use Rattle.nx_log.proofs.lemmas.beginnings.Joins.{lacks_within}
use Rattle.nx_log.proofs.lemmas.beginnings.Times.{behind_number, lacks_time, shows, some_day, some_hour, some_minute, some_month, some_second, some_year, time_text, year_low}
use Rattle.nx_log.proofs.entries.moment.civil_at.Goals as goal

-- the library's days of a month are those of the year whose digits were read
most_is : (month a b century year most : ℕ) → a ≡ century → b ≡ year → century ≤ 29 → year ≤ 99
    → most ≡ days_in_month (to_z w16 (a * 100 + b)) month
    → most ≡ days_in_month (pos (century * 100 + year)) month
most_is month a b century year most a_is b_is few two is =
    let same : a * 100 + b ≡ century * 100 + year = omega arith in
    is ∙ ap (λ z. days_in_month z month) (to_z_pos w16 (a * 100 + b) (omega arith) ∙ ap pos same)

pub returns-in_err-century-clause-lacks : goal.returns-in_err-century-clause-lacks
returns-in_err-century-clause-lacks c =
    let p = err_from_is_err_and c.from_residual.result
    c.from_residual.ensures.1 in
    rw p.1 (rw p.2 (lacks_time _ _ (lacks_within _ _ _ _ (λ n t is. some_year n)
    c.in_err-century.ensures.lacks)))

pub returns-in_err-year-clause-lacks : goal.returns-in_err-year-clause-lacks
returns-in_err-year-clause-lacks c =
    let p = err_from_is_err_and c.from_residual-in_err-year.result
    c.from_residual-in_err-year.ensures.1 in
    let century = c.in_ok-century in
    rw p.1 (rw p.2 (lacks_time _ _ (behind_number _ _ _ _ _ _ century.century _
    century.ensures.in_range
    century.ensures.found (lacks_within _ _ _ _ (λ n t is. some_month (century.century * 100 + n))
    (rw c.first_year.ensures at c.in_err-year.ensures.lacks)))))

pub returns-in_err-month-clause-lacks : goal.returns-in_err-month-clause-lacks
returns-in_err-month-clause-lacks c =
    let p = err_from_is_err_and c.from_residual-in_err-month.result
    c.from_residual-in_err-month.ensures.1 in
    let century = c.in_ok-century in
    let year = c.in_ok-year in
    let from = rw c.first_year.ensures at year.ensures.in_range in
    rw p.1 (rw p.2 (lacks_time _ _ (behind_number _ _ _ _ _ _ century.century _
    century.ensures.in_range
    century.ensures.found (behind_number _ _ _ _ _ _ year.year _ from year.ensures.found
    (lacks_within _ _ _ _ (λ n t is. some_day (century.century * 100 + year.year) n)
    c.in_err-month.ensures.lacks)))))

pub returns-in_err-day-clause-lacks : goal.returns-in_err-day-clause-lacks
returns-in_err-day-clause-lacks c =
    let p = err_from_is_err_and c.from_residual-in_err-day.result
    c.from_residual-in_err-day.ensures.1 in
    let century = c.in_ok-century in
    let year = c.in_ok-year in
    let from = rw c.first_year.ensures at year.ensures.in_range in
    let month = c.in_ok-month in
    let most = most_is month.month c.from.result c.from-2.result century.century year.year
    c.days_in_month.result c.from.ensures c.from-2.ensures century.ensures.in_range.1
    year.ensures.in_range.1 c.days_in_month.ensures.value in
    rw p.1 (rw p.2 (lacks_time _ _ (behind_number _ _ _ _ _ _ century.century _
    century.ensures.in_range
    century.ensures.found (behind_number _ _ _ _ _ _ year.year _ from year.ensures.found
    (behind_number _ _ _ _ _ _ month.month _ month.ensures.in_range month.ensures.found
    (lacks_within _ _ _ _ (λ n t is. some_hour)
    (rw most at c.in_err-day.ensures.lacks)))))))

pub returns-in_err-hour-clause-lacks : goal.returns-in_err-hour-clause-lacks
returns-in_err-hour-clause-lacks c =
    let p = err_from_is_err_and c.from_residual-in_err-hour.result
    c.from_residual-in_err-hour.ensures.1 in
    let century = c.in_ok-century in
    let year = c.in_ok-year in
    let from = rw c.first_year.ensures at year.ensures.in_range in
    let month = c.in_ok-month in
    let most = most_is month.month c.from.result c.from-2.result century.century year.year
    c.days_in_month.result c.from.ensures c.from-2.ensures century.ensures.in_range.1
    year.ensures.in_range.1 c.days_in_month.ensures.value in
    let day = c.in_ok-day in
    let to = rw most at day.ensures.in_range in
    rw p.1 (rw p.2 (lacks_time _ _ (behind_number _ _ _ _ _ _ century.century _
    century.ensures.in_range
    century.ensures.found (behind_number _ _ _ _ _ _ year.year _ from year.ensures.found
    (behind_number _ _ _ _ _ _ month.month _ month.ensures.in_range month.ensures.found
    (behind_number _ _ _ _ _ _ day.day _ to day.ensures.found
    (lacks_within _ _ _ _ (λ n t is. some_minute) c.in_err-hour.ensures.lacks)))))))

pub returns-in_err-minute-clause-lacks : goal.returns-in_err-minute-clause-lacks
returns-in_err-minute-clause-lacks c =
    let p = err_from_is_err_and c.from_residual-in_err-minute.result
    c.from_residual-in_err-minute.ensures.1 in
    let century = c.in_ok-century in
    let year = c.in_ok-year in
    let from = rw c.first_year.ensures at year.ensures.in_range in
    let month = c.in_ok-month in
    let most = most_is month.month c.from.result c.from-2.result century.century year.year
    c.days_in_month.result c.from.ensures c.from-2.ensures century.ensures.in_range.1
    year.ensures.in_range.1 c.days_in_month.ensures.value in
    let day = c.in_ok-day in
    let to = rw most at day.ensures.in_range in
    let hour = c.in_ok-hour in
    rw p.1 (rw p.2 (lacks_time _ _ (behind_number _ _ _ _ _ _ century.century _
    century.ensures.in_range
    century.ensures.found (behind_number _ _ _ _ _ _ year.year _ from year.ensures.found
    (behind_number _ _ _ _ _ _ month.month _ month.ensures.in_range month.ensures.found
    (behind_number _ _ _ _ _ _ day.day _ to day.ensures.found
    (behind_number _ _ _ _ _ _ hour.hour _ hour.ensures.in_range hour.ensures.found
    (lacks_within _ _ _ _ (λ n t is. some_second) c.in_err-minute.ensures.lacks))))))))

pub returns-in_err-second-clause-lacks : goal.returns-in_err-second-clause-lacks
returns-in_err-second-clause-lacks c =
    let p = err_from_is_err_and c.from_residual-in_err-second.result
    c.from_residual-in_err-second.ensures.1 in
    let century = c.in_ok-century in
    let year = c.in_ok-year in
    let from = rw c.first_year.ensures at year.ensures.in_range in
    let month = c.in_ok-month in
    let most = most_is month.month c.from.result c.from-2.result century.century year.year
    c.days_in_month.result c.from.ensures c.from-2.ensures century.ensures.in_range.1
    year.ensures.in_range.1 c.days_in_month.ensures.value in
    let day = c.in_ok-day in
    let to = rw most at day.ensures.in_range in
    let hour = c.in_ok-hour in
    let minute = c.in_ok-minute in
    rw p.1 (rw p.2 (lacks_time _ _ (behind_number _ _ _ _ _ _ century.century _
    century.ensures.in_range
    century.ensures.found (behind_number _ _ _ _ _ _ year.year _ from year.ensures.found
    (behind_number _ _ _ _ _ _ month.month _ month.ensures.in_range month.ensures.found
    (behind_number _ _ _ _ _ _ day.day _ to day.ensures.found
    (behind_number _ _ _ _ _ _ hour.hour _ hour.ensures.in_range hour.ensures.found
    (behind_number _ _ _ _ _ _ minute.minute _ minute.ensures.in_range minute.ensures.found
    c.in_err-second.ensures.lacks))))))))

pub returns-clause-found : goal.returns-clause-found
returns-clause-found c =
    let century = c.in_ok-century in
    let year = c.in_ok-year in
    let from = rw c.first_year.ensures at year.ensures.in_range in
    let month = c.in_ok-month in
    let most = most_is month.month c.from.result c.from-2.result century.century year.year
    c.days_in_month.result c.from.ensures c.from-2.ensures century.ensures.in_range.1
    year.ensures.in_range.1 c.days_in_month.ensures.value in
    let day = c.in_ok-day in
    let to = rw most at day.ensures.in_range in
    let hour = c.in_ok-hour in
    let minute = c.in_ok-minute in
    let second = c.in_ok-second in
    let low = year_low century.century year.year century.ensures.in_range.0 from.0 in
    let high = century.ensures.in_range.1 in
    let two = from.1 in
    let same : c.from.result * 100 + c.from-2.result ≡ century.century * 100 + year.year =
    omega (arith, c.from.ensures, c.from-2.ensures) in
    let date : IsCivilDate (pos (century.century * 100 + year.year)) month.month day.day = (
      (omega (arith, signed_arith), omega (arith, signed_arith)),
      month.ensures.in_range,
      to,
    ) in
    let shown = shows c.day_number.result century.century year.year month.month day.day hour.hour
    minute.minute second.second c.day_number.ensures.below two date
    (subst (λ y. days_from_civil (pos y) month.month day.day ≡ pos c.day_number.result) same
    c.day_number.ensures.value) hour.ensures.in_range.1 minute.ensures.in_range.1
    second.ensures.in_range.1 in (
      time_text century.century year.year month.month day.day hour.hour minute.minute
          second.second,
      rw (c.from-3.ensures, c.from-4.ensures, c.from-5.ensures) shown.shown,
      century.ensures.found ∙ ap (λ l. two_digits century.century ++ l) (year.ensures.found
          ∙ ap (λ l. two_digits year.year ++ l) (month.ensures.found
          ∙ ap (λ l. codes "-" ++ (two_digits month.month ++ l)) (day.ensures.found
          ∙ ap (λ l. codes "-" ++ (two_digits day.day ++ l)) (hour.ensures.found
          ∙ ap (λ l. codes " " ++ (two_digits hour.hour ++ l)) (minute.ensures.found
          ∙ ap (λ l. codes ":" ++ (two_digits minute.minute ++ l)) second.ensures.found))))),
    )
