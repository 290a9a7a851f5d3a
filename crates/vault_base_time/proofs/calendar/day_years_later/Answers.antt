use Rattle.std.proofs.Common.{◌≡◌, ℕ, ◌+◌, ◌<◌, ◌≤◌, nat_le, min, pos, Some, None, if◌then◌else◌, arith, ◌∙◌}
use Rattle.std.proofs.lemmas.Grind.{common_steps}
use Rattle.jiff_core.specs.Calendar.{days_in_month}
use Rattle.jiff_core.proofs.CalendarLemmas.{days_in_month_bounds}
use Rattle.vault_base_time.specs.Calendar.{last_year, date_years_later, day_of_date, IsDate}
use Rattle.vault_base_time.specs.Days.{as_day, last_day}
use Rattle.vault_base_time.specs.declared.calendar.Date.{Date}
use Rattle.vault_base_time.proofs.DayNumbers.{day_of_date_late}
use Rattle.vault_base_time.proofs.calendar.day_years_later.Goals as goal

not_day : (n : ℕ) → last_day < n → None ≡ as_day n
not_day n h = grind (arith, common_steps)

is_late : {X : Type 0} (year : ℕ) (x : X) → None ≡ (if nat_le year last_year then Some x else None) → last_year < year
is_late year x e = grind (arith, common_steps)

one_le_min : (a b : ℕ) → 1 ≤ a → 1 ≤ b → 1 ≤ min a b
one_le_min a b x y = grind (arith, common_steps)

no_later_day : (years : ℕ) (d : Date) → IsDate d → None ≡ (if nat_le (d.year + years) last_year then Some (date_years_later years d) else None) → None ≡ as_day (day_of_date (date_years_later years d))
no_later_day years d is e =
    let late : last_year < d.year + years = is_late _ _ e in
    let one = one_le_min d.day (days_in_month (pos (d.year + years)) d.month) is.0.2.0 (omega (arith, days_in_month_bounds (pos (d.year + years)) d.month)) in
    not_day _ (day_of_date_late (date_years_later years d) late one)

pub returns-in_err-later : goal.returns-in_err-later
returns-in_err-later c =
    c.from_residual.ensures ∙ rw (← c.of_day.ensures.value) (no_later_day c.args.years c.of_day.result c.of_day.ensures.date c.in_err-later.ensures.value)
