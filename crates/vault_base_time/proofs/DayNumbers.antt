-- The sums over years and months are the day number of a date.
use Rattle.std.proofs.Common.{◌≡◌, ℕ, zero, suc, ◌+◌, ◌-◌, ◌<◌, ◌≤◌, pos, refl, ap, ◌∙◌, arith}
use Rattle.std.proofs.lemmas.Int.{ints}
use Rattle.jiff_core.specs.Calendar.{days_from_civil, day_count}
use Rattle.jiff_core.specs.Calendar as jiff
use Rattle.jiff_core.proofs.CalendarLemmas.{day_count-epoch, day_count-end, days_from_civil-day_count, day_count-next_year, day_count-later_year, day_count-day_of_year}
use Rattle.jiff_core.proofs.SignedLemmas.{signed_arith}
use Rattle.vault_base_time.specs.Calendar.{first_year, last_year, days_of_years, days_of_months, day_of_date, IsDate}
use Rattle.vault_base_time.specs.Days.{last_day}
use Rattle.vault_base_time.specs.declared.calendar.Date.{Date}

-- the days from 1 January of the year -10000, where `jiff_core` begins to count, to the first day
abbrev pub days_before : ℕ
days_before = 4371953

years_are : (n : ℕ) → day_count (pos (first_year + n)) 1 1 ≡ days_before + days_of_years n
years_are zero = day_count-epoch
years_are (suc n) =
    let next = day_count-next_year (pos (first_year + n)) (pos (first_year + suc n)) (omega (arith, ints)) (omega (arith, ints)) in
    omega (arith, next, years_are n)

months_are : (year n : ℕ) → jiff.days_of_months (pos year) n ≡ days_of_months year n
unfolding jiff.days_of_months
months_are year zero = refl
months_are year (suc n) = omega (arith, months_are year n)

pub day_count_is : (d : Date) → first_year ≤ d.year → 1 ≤ d.day → day_count (pos d.year) d.month d.day ≡ days_before + day_of_date d
day_count_is d low one =
    let e : d.year ≡ first_year + (d.year - first_year) = omega arith in
    let years : day_count (pos d.year) 1 1 ≡ days_before + days_of_years (d.year - first_year) = ap (λ y. day_count (pos y) 1 1) e ∙ years_are (d.year - first_year) in
    omega (arith, day_count-day_of_year (pos d.year) d.month d.day one, years, months_are d.year (d.month - 1))

-- the day of a date is its day number
pub day_of_date_is : (d : Date) → IsDate d → days_from_civil (pos d.year) d.month d.day ≡ pos (day_of_date d)
day_of_date_is d is =
    omega (arith, signed_arith, days_from_civil-day_count (pos d.year) d.month d.day, day_count_is d is.1 is.0.2.0)

-- a date after the last year has a day after the last
pub day_of_date_late : (d : Date) → last_year < d.year → 1 ≤ d.day → last_day < day_of_date d
day_of_date_late d late one =
    let end = day_count-next_year (pos last_year) (pos 10000) (omega (arith, ints)) (omega (arith, ints)) in
    let later = day_count-later_year (pos last_year) (pos d.year) (omega (arith, ints)) (omega (arith, ints)) in
    omega (arith, end, later, day_count-end, day_count-day_of_year (pos d.year) d.month d.day one, day_count_is d (omega arith) one)
