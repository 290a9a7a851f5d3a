use Rattle.std.proofs.Common.{◌≡◌, ℕ, ◌<◌, ℤ, pos, arith, w8, w16, to_z, of_z, to_z-of_z, FitsSigned, refl, ◌∙◌}
use Rattle.std.proofs.lemmas.Int.{ints}
use Rattle.jiff_core.specs.Calendar.{IsYear}
use Rattle.jiff_core.proofs.CalendarLemmas.{days_in_month_bounds}
use Rattle.jiff_core.proofs.SignedLemmas.{signed_arith}
use Rattle.vault_base_time.proofs.calendar.Date.of_civil.Goals as goal

year_fits : (z y : ℤ) → IsYear y → z ≡ y → to_z w16 (of_z w16 z) ≡ y
year_fits z y is e =
    let f : FitsSigned w16 z = omega (arith, signed_arith, is, e) in
    to_z-of_z f ∙ e

small_fits : (z : ℤ) (n : ℕ) → z ≡ pos n → n < 128 → to_z w8 (of_z w8 z) ≡ pos n
small_fits z n e h =
    let f : FitsSigned w8 z = omega (arith, signed_arith, e, h) in
    to_z-of_z f ∙ e

pub overflow_cast-result : goal.overflow_cast-result
overflow_cast-result c =
    let is : IsYear c.args.date.year = c.args.date.year_in in
    rw (year_fits c.year.result c.args.date.year is c.year.ensures) (omega (arith, ints, c.requires.le), omega (arith, ints, c.requires.le, is))

pub returns-clause-year : goal.returns-clause-year
returns-clause-year c =
    let is : IsYear c.args.date.year = c.args.date.year_in in
    rw (year_fits c.year.result c.args.date.year is c.year.ensures) (omega (arith, ints, c.requires.le))

pub returns-clause-month : goal.returns-clause-month
returns-clause-month c =
    let in_range = c.args.date.month_in in
    rw (small_fits c.month.result c.args.date.month c.month.ensures (omega (arith, in_range))) refl

pub returns-clause-day : goal.returns-clause-day
returns-clause-day c =
    let in_range = c.args.date.day_in in
    rw (small_fits c.day.result c.args.date.day c.day.ensures (omega (arith, in_range, days_in_month_bounds c.args.date.year c.args.date.month))) refl
