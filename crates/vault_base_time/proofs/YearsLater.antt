-- Years later the same month and day is shown, at the same time of day.
use Rattle.std.proofs.Common.{◌≡◌, ℕ, ◌+◌, ◌*◌, ◌/◌, ◌%◌, ◌≤◌, Some, min, pos, inl, inr, refl, sym, ap, ◌∙◌, arith}
use Rattle.std.proofs.lemmas.Int.{ints}
use Rattle.std.proofs.lemmas.Bool.{cases_lt}
use Rattle.std.proofs.lemmas.Grind.{common_steps}
use Rattle.jiff_core.specs.Calendar.{days_in_month}
use Rattle.jiff_core.proofs.CalendarLemmas.{days_in_month_bounds, day_count_bounds}
use Rattle.jiff_core.proofs.SignedLemmas.{signed_arith}
use Rattle.vault_base_time.specs.Calendar.{last_year, date_of, date_years_later, day_of_date, IsDate, IsYearsLater}
use Rattle.vault_base_time.specs.Days.{as_day, day, day_length, last_day, last_moment}
use Rattle.vault_base_time.specs.declared.calendar.Date.{Date}
use Rattle.vault_base_time.proofs.DayNumbers.{day_count_is, day_of_date_is, day_of_date_late}
use Rattle.vault_base_time.proofs.Dates.{date_of_is, date_of_only, jiff_date}

same_parts : (y m d : ℕ) (w : Date) → y ≡ w.year → m ≡ w.month → d ≡ w.day → record { year = y; month = m; day = d } ≡ w
same_parts y m d w ey em ed = rw (ey, em, ed) refl

pub same_date : (a b : Date) → (pos a.year ≡ pos b.year) × (a.month ≡ b.month) × (a.day ≡ b.day) → a ≡ b
same_date a b h =
    let year : a.year ≡ b.year = omega (arith, ints, h.0) in
    same_parts a.year a.month a.day b year h.1 h.2

-- the date of the day of a date is that date
date_of_day : (d : Date) → IsDate d → date_of (day_of_date d) ≡ d
date_of_day d is =
    let bounds = day_count_bounds (pos d.year) d.month d.day is.0 in
    let small : day_of_date d ≤ last_day = omega (arith, bounds, day_count_is d is.1 is.0.2.0) in
    sym (same_date d (date_of (day_of_date d)) (date_of_only (day_of_date d) (jiff_date d is) small (day_of_date_is d is)))

-- up to the last year the calendar has the date
later_is : (n : ℕ) (d : Date) → IsDate d → day_of_date (date_years_later n d) ≤ last_day → IsDate (date_years_later n d)
later_is n d is small =
    let bounds = days_in_month_bounds (pos (d.year + n)) d.month in
    let one : 1 ≤ min d.day (days_in_month (pos (d.year + n)) d.month) = grind (arith, common_steps, bounds, is.0.2) in
    let most : min d.day (days_in_month (pos (d.year + n)) d.month) ≤ days_in_month (pos (d.year + n)) d.month = grind (arith, common_steps) in
    elim (cases_lt last_year (d.year + n)) [
      | inl late ↦ absurd (omega (arith, day_of_date_late (date_years_later n d) late one))
      | inr le ↦ ((omega (arith, signed_arith), is.0.1, (one, most)), omega (arith, is.1))
    ]

is_day : (k n : ℕ) → Some k ≡ as_day n → (k ≡ n) × (n ≤ last_day)
is_day k n h =
    let small : n ≤ last_day = grind (arith, common_steps) in
    let same : k ≡ n = grind (arith, common_steps) in
    (same, small)

pub years_later_is : (n t k : ℕ) → t ≤ last_moment → Some k ≡ as_day (day_of_date (date_years_later n (date_of (day t)))) → IsYearsLater n t (day_length * k + t % day_length)
years_later_is n t k h found =
    let later = date_years_later n (date_of (day t)) in
    let is = is_day k (day_of_date later) found in
    let start = date_of_is (day t) (omega arith) in
    let same_day : day (day_length * k + t % day_length) ≡ day_of_date later = omega (arith, is.0) in
    let same_time : (day_length * k + t % day_length) % day_length ≡ t % day_length = omega arith in
    (ap date_of same_day ∙ date_of_day later (later_is n (date_of (day t)) start.is is.1), same_time)
