-- Civil dates of the proleptic Gregorian calendar from 1970 on, and sums of years.
use Rattle.std.specs.Prelude.{◌≡◌, ℕ, zero, suc, ◌+◌, ◌-◌, ◌*◌, ◌%◌, ◌≤◌, nat_lt, min, pos, if◌then◌else◌}
use Rattle.jiff_core.specs.Calendar.{days_in_year, days_in_month, IsCivilDate}
use Rattle.vault_base_time.specs.Days.{day, day_length}
use Rattle.vault_base_time.specs.declared.calendar.Date.{Date}

-- the years of the first moment and of the last
abbrev pub first_year : ℕ
first_year = 1970

abbrev pub last_year : ℕ
last_year = 9999

-- the calendar has that date, and it lies from 1970 to 9999
abbrev pub IsDate : Date → Type 0
IsDate d = IsCivilDate (pos d.year) d.month d.day × (first_year ≤ d.year)

-- a year or a month, and the days of it that have passed
pub record Passed : Type 0 where
  pub number : ℕ
  pub days : ℕ

-- the year in which n days after the first of a year end; the first number bounds the years to be tried
abbrev pub year_after : ℕ → ℕ → ℕ → Passed
year_after zero year days = record { number = year; days = days }
year_after (suc more) year days =
    let later = year_after more (year + 1) (days - days_in_year (pos year)) in
    if nat_lt days (days_in_year (pos year)) then record { number = year; days = days } else later

-- the month of that year in which n days after the first of a month end
abbrev pub month_after : ℕ → ℕ → ℕ → ℕ → Passed
month_after zero year month days = record { number = month; days = days }
month_after (suc more) year month days =
    let later = month_after more year (month + 1) (days - days_in_month (pos year) month) in
    if nat_lt days (days_in_month (pos year) month) then record { number = month; days = days } else later

-- the date, where its year and the days that have passed of it are known
abbrev pub date_in_year : Passed → Date
date_in_year y =
    let month = month_after 11 y.number 1 y.days in
    record { year = y.number; month = month.number; day = month.days + 1 }

-- the date of a day, up to the last year
unfoldable pub date_of : ℕ → Date
date_of n = date_in_year (year_after (last_year - first_year) first_year n)

-- the days of the first n years from the first on
abbrev pub days_of_years : ℕ → ℕ
days_of_years zero = 0
days_of_years (suc n) = days_of_years n + days_in_year (pos (first_year + n))

-- the days of the first n months of a year
abbrev pub days_of_months : ℕ → ℕ → ℕ
days_of_months year zero = 0
days_of_months year (suc n) = days_of_months year n + days_in_month (pos year) (suc n)

-- the day of a date from the first year on
abbrev pub day_of_date : Date → ℕ
day_of_date d = days_of_years (d.year - first_year) + days_of_months d.year (d.month - 1) + (d.day - 1)

-- the same month and day n years later, 29 February cut to the 28th
abbrev pub date_years_later : ℕ → Date → Date
date_years_later n d =
    record { year = d.year + n; month = d.month; day = min d.day (days_in_month (pos (d.year + n)) d.month) }

-- the same second of the same month and day n years later
abbrev pub years_later : ℕ → ℕ → ℕ
years_later n t = day_length * day_of_date (date_years_later n (date_of (day t))) + t % day_length

-- u shows the date n years after that of t, and the same time of day
abbrev pub IsYearsLater : ℕ → ℕ → ℕ → Type 0
IsYearsLater n t u =
    (date_of (day u) ≡ date_years_later n (date_of (day t))) × (u % day_length ≡ t % day_length)
