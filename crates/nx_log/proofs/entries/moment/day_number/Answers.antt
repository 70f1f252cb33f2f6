use Rattle.std.proofs.Common.{◌≡◌, ℕ, ℤ, ◌≤◌, ◌<◌, ◌^◌, ap, arith, of_z, pos, refl, to_z, w16, w32, w8, ◌∙◌}
use Rattle.std.proofs.lemmas.Int.{to_z_pos}
use Rattle.jiff_core.proofs.SignedLemmas.{back_small, signed_arith}
use Rattle.jiff_core.proofs.CalendarLemmas.{days_in_month_bounds}
use Rattle.jiff_core.specs.Calendar.{IsCivilDate, days_from_civil}
use Rattle.nx_log.proofs.lemmas.beginnings.Times.{day_in_range}
use Rattle.nx_log.proofs.entries.moment.day_number.Goals as goal

-- what the library says of a date, as an unsigned number
day_is : (year month day m d : ℕ) (y z : ℤ) → (1970 ≤ year) × (year ≤ 2999)
    → IsCivilDate (pos year) month day → y ≡ pos year → m ≡ month → d ≡ day
    → z ≡ days_from_civil y m d
    → (n : ℕ) × (to_z w32 (of_z w32 z) ≡ pos n) × (days_from_civil (pos year) month day ≡ pos n)
    × (n ≤ 376_199)
day_is year month day m d y z range date y_is m_is d_is is =
    let n = day_in_range year month day range.0 range.1 date in
    let number : z ≡ pos n.0 = is ∙ rw (y_is, m_is, d_is) n.1 in
    let few = n.2 in
    let small : n.0 < 2 ^ 31 = omega arith in (
      n.0,
      ap (λ z. to_z w32 (of_z w32 z)) number ∙ back_small w32 (pos n.0) small,
      n.1,
      few,
    )

pub overflow_cast-result : goal.overflow_cast-result
overflow_cast-result c =
    let value = c.in-Ok.ensures.value in
    let few = days_in_month_bounds (pos c.args.year) c.args.month in
    let month = value.1 ∙ to_z_pos w8 _ (omega arith) in
    let day = value.2 ∙ to_z_pos w8 _ (omega (arith, few)) in
    let e = day_is c.args.year c.args.month c.args.day c.in-Ok.date.month c.in-Ok.date.day
    c.in-Ok.date.year c.to_unix_epoch_day.result c.requires.year c.requires.date
    (value.0 ∙ to_z_pos w16 _ (omega arith)) (omega (arith, signed_arith, month))
    (omega (arith, signed_arith, day))
    (c.to_unix_epoch_day.ensures.value ∙ rw c.to_plain.ensures refl) in
    let below = e.3 in rw e.1 (tt, omega arith)

pub returns-clause-value : goal.returns-clause-value
returns-clause-value c =
    let value = c.in-Ok.ensures.value in
    let few = days_in_month_bounds (pos c.args.year) c.args.month in
    let month = value.1 ∙ to_z_pos w8 _ (omega arith) in
    let day = value.2 ∙ to_z_pos w8 _ (omega (arith, few)) in
    let e = day_is c.args.year c.args.month c.args.day c.in-Ok.date.month c.in-Ok.date.day
    c.in-Ok.date.year c.to_unix_epoch_day.result c.requires.year c.requires.date
    (value.0 ∙ to_z_pos w16 _ (omega arith)) (omega (arith, signed_arith, month))
    (omega (arith, signed_arith, day))
    (c.to_unix_epoch_day.ensures.value ∙ rw c.to_plain.ensures refl) in
    rw e.1 e.2

pub returns-clause-below : goal.returns-clause-below
returns-clause-below c =
    let value = c.in-Ok.ensures.value in
    let few = days_in_month_bounds (pos c.args.year) c.args.month in
    let month = value.1 ∙ to_z_pos w8 _ (omega arith) in
    let day = value.2 ∙ to_z_pos w8 _ (omega (arith, few)) in
    let e = day_is c.args.year c.args.month c.args.day c.in-Ok.date.month c.in-Ok.date.day
    c.in-Ok.date.year c.to_unix_epoch_day.result c.requires.year c.requires.date
    (value.0 ∙ to_z_pos w16 _ (omega arith)) (omega (arith, signed_arith, month))
    (omega (arith, signed_arith, day))
    (c.to_unix_epoch_day.ensures.value ∙ rw c.to_plain.ensures refl) in
    rw e.1 e.3
