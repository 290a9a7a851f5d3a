-- A default retention ends after the moment at which it is given.
use Rattle.std.proofs.Common.{◌≡◌, ℕ, zero, suc, ◌+◌, ◌-◌, ◌<◌, ◌≤◌, Bool, true, false, min, pos, inl, inr, refl, arith}
use Rattle.std.proofs.lemmas.Bool.{and_parts, cases_lt, leb-true, ltb-false, ltb-true}
use Rattle.std.proofs.lemmas.Grind.{common_steps}
use Rattle.std.proofs.lemmas.Int.{ints}
use Rattle.std.specs.Prelude.{nat_le, nat_lt, if◌then◌else◌}
use Rattle.jiff_core.specs.Calendar.{days_in_month, days_in_year}
use Rattle.jiff_core.proofs.CalendarLemmas.{day_count-end, day_count-lt_year, day_count-next_year, days_in_month_bounds}
use Rattle.vault_base_time.specs.Calendar.{Passed, first_year, last_year, year_after, date_in_year, date_of, date_years_later, day_of_date, years_later}
use Rattle.vault_base_time.specs.Days.{day, last_day, last_moment, is_moment}
use Rattle.vault_base_time.proofs.DayNumbers.{day_count_is, day_of_date_is, day_of_date_late}
use Rattle.vault_base_time.proofs.Dates.{date_of_is}
use Rattle.vault_lock.specs.declared.retention.Period.{Period}
use Rattle.vault_lock.specs.declared.retention.Period.TheVariants.{Days, Years}
use Rattle.vault_lock.specs.Retention.{end_of, is_period}

-- ---- later days lie in later years

year_after-least : (more year days : ℕ) → year ≤ (year_after more year days).number
year_after-least zero year days = omega arith
year_after-least (suc more) year days =
    let beyond = year_after-least more (year + 1) (days - days_in_year (pos year)) in
    by_year (nat_lt days (days_in_year (pos year))) beyond
  where
    by_year : (b : Bool) → year + 1 ≤ (year_after more (year + 1) (days - days_in_year (pos year))).number → year ≤ (if b then record { number = year; days = days } else year_after more (year + 1) (days - days_in_year (pos year))).number
    by_year true beyond = omega arith
    by_year false beyond = omega arith

-- the first of two numbers of days is looked at, and then the second
abbrev from_year : ℕ → ℕ → ℕ → Bool → ℕ
from_year more year days b = (if b then record { number = year; days = days } else year_after more (year + 1) (days - days_in_year (pos year))).number

by_years : (more year d e : ℕ) (b c : Bool) → d ≤ e → nat_lt d (days_in_year (pos year)) ≡ b → nat_lt e (days_in_year (pos year)) ≡ c
    → (year_after more (year + 1) (d - days_in_year (pos year))).number ≤ (year_after more (year + 1) (e - days_in_year (pos year))).number
    → from_year more year d b ≤ from_year more year e c
by_years more year d e true true h x y later = omega arith
by_years more year d e true false h x y later = omega (arith, year_after-least more (year + 1) (e - days_in_year (pos year)))
by_years more year d e false true h x y later = absurd (omega (arith, ltb-false d (days_in_year (pos year)) x, ltb-true e (days_in_year (pos year)) y))
by_years more year d e false false h x y later = later

year_after-rises : (more year d e : ℕ) → d ≤ e → (year_after more year d).number ≤ (year_after more year e).number
year_after-rises zero year d e h = omega arith
year_after-rises (suc more) year d e h =
    by_years more year d e (nat_lt d (days_in_year (pos year))) (nat_lt e (days_in_year (pos year))) h refl refl
    (year_after-rises more (year + 1) (d - days_in_year (pos year)) (e - days_in_year (pos year)) (omega arith))

in_later_year : (x y : Passed) → x.number ≤ y.number → (date_in_year x).year ≤ (date_in_year y).year
in_later_year x y h = h

years-rise : (d e : ℕ) → d ≤ e → (date_of d).year ≤ (date_of e).year
unfolding date_of
years-rise d e h = in_later_year (year_after (last_year - first_year) first_year d) (year_after (last_year - first_year) first_year e) (year_after-rises (last_year - first_year) first_year d e h)

-- the last day lies in the last year, and so do all after it
last_is : last_year ≤ (date_of last_day).year
last_is =
    let d = date_of last_day in
    let start = date_of_is last_day (omega arith) in
    elim (cases_lt d.year last_year) [
      | inl early ↦ (
          let before = day_count-lt_year (pos d.year) d.month d.day (pos last_year) 1 1 start.is.0 (omega arith) (omega (arith, ints, early)) in
          let next = day_count-next_year (pos last_year) (pos 10000) (omega (arith, ints)) (omega (arith, ints)) in
          absurd (omega (arith, ints, before, next, day_count-end, day_count_is d start.is.1 start.is.0.2.0, day_of_date_is d start.is, start.number))
          )
      | inr le ↦ le
    ]

-- ---- years later

a_day : (p : Passed) → 1 ≤ (date_in_year p).day
a_day p = omega arith

date_has_day : (n : ℕ) → 1 ≤ (date_of n).day
unfolding date_of
date_has_day n = a_day (year_after (last_year - first_year) first_year n)

one_le_min : (a b : ℕ) → 1 ≤ a → 1 ≤ b → 1 ≤ min a b
one_le_min a b x y = grind (arith, common_steps)

later_has_day : (n m : ℕ) → 1 ≤ (date_years_later n (date_of m)).day
later_has_day n m =
    one_le_min (date_of m).day (days_in_month (pos ((date_of m).year + n)) (date_of m).month) (date_has_day m) (omega (arith, days_in_month_bounds (pos ((date_of m).year + n)) (date_of m).month))

-- after the last moment no end is a moment
late : (n t : ℕ) → 1 ≤ n → last_moment < t → last_moment < years_later n t
late n t one past =
    let rise = years-rise last_day (day t) (omega arith) in
    let later = date_years_later n (date_of (day t)) in
    omega (arith, day_of_date_late later (omega (arith, rise, last_is, one)) (later_has_day n (day t)))

-- up to it the end is later
ends : (n t : ℕ) → 1 ≤ n → t ≤ last_moment → t < years_later n t
ends n t one low =
    let d = date_of (day t) in
    let later = date_years_later n d in
    let start = date_of_is (day t) (omega arith) in
    let rise = day_count-lt_year (pos d.year) d.month d.day (pos later.year) later.month later.day start.is.0 (later_has_day n (day t)) (omega (arith, ints, one)) in
    let own = day_count_is d start.is.1 start.is.0.2.0 in
    let its = day_count_is later (omega (arith, start.is.1)) (later_has_day n (day t)) in
    let same : day_of_date d ≡ day t = omega (arith, ints, day_of_date_is d start.is, start.number) in
    let more : day t + 1 ≤ day_of_date later = omega (arith, rise, own, its, same) in
    omega (arith, more)

years_end : (n t : ℕ) → 1 ≤ n → is_moment (years_later n t) ≡ true → t < years_later n t
years_end n t one in_range =
    elim (cases_lt last_moment t) [
      | inl past ↦ absurd (omega (arith, late n t one past, leb-true (years_later n t) last_moment in_range))
      | inr low ↦ ends n t one low
    ]

-- a period that a default may have, and that ends in time, ends later
pub period_ends : (p : Period) (t : ℕ) → is_period p ≡ true → is_moment (end_of p t) ≡ true → t < end_of p t
period_ends (Days n) t is in_range =
    let some = leb-true 1 n (and_parts (nat_le 1 n) (nat_le n 36500) is).0 in
    omega (arith, some)
period_ends (Years n) t is in_range = years_end n t (leb-true 1 n (and_parts (nat_le 1 n) (nat_le n 100) is).0) in_range
