-- A default that is out of range stays so: what ends too late ends too late also where it begins later.
use Rattle.std.proofs.Common.{◌≡◌, ℕ, zero, suc, ◌+◌, ◌-◌, ◌<◌, ◌≤◌, Bool, true, false, Option, Some, None, min, pos, inl, inr, refl, arith}
use Rattle.std.proofs.lemmas.Bool.{cases_lt, ltb-true, ltb-false, leb-false, lt-leb}
use Rattle.std.proofs.lemmas.Grind.{common_steps}
use Rattle.std.specs.Prelude.{is_some, option_map, nat_lt, if◌then◌else◌}
use Rattle.jiff_core.specs.Calendar.{days_in_year, days_in_month}
use Rattle.jiff_core.proofs.CalendarLemmas.{days_in_month_bounds, day_count_bounds}
use Rattle.jiff_core.proofs.SignedLemmas.{signed_arith}
use Rattle.vault_base_time.specs.Calendar.{Passed, first_year, last_year, year_after, date_in_year, date_of, date_years_later, day_of_date, years_later, IsDate}
use Rattle.vault_base_time.specs.Days.{day, last_day, last_moment, is_moment}
use Rattle.vault_base_time.specs.declared.calendar.Date.{Date}
use Rattle.vault_base_time.proofs.DayNumbers.{day_count_is, day_of_date_late}
use Rattle.vault_base_time.proofs.Dates.{date_of_is}
use Rattle.vault_lock.specs.declared.lock.Lock.{Lock}
use Rattle.vault_lock.specs.declared.retention.Default.{Default}
use Rattle.vault_lock.specs.declared.retention.Period.{Period}
use Rattle.vault_lock.specs.declared.retention.Period.TheVariants.{Days, Years}
use Rattle.vault_lock.specs.declared.retention.Retention.{Retention}
use Rattle.vault_lock.specs.Retention.{end_of, first_lock}

-- ---- later days lie in later years

year_after-least : (more year days : ℕ) → year ≤ (year_after more year days).number
year_after-least zero year days = omega arith
year_after-least (suc more) year days =
    let beyond = year_after-least more (year + 1) (days - days_in_year (pos year)) in
    by_year (nat_lt days (days_in_year (pos year))) beyond
  where
    by_year : (b : Bool) → year + 1 ≤ (year_after more (year + 1) (days - days_in_year (pos year))).number → year ≤ (if b then record { number = year; days = days } else year_after more (year + 1) (days - days_in_year (pos year))).number
    by_year true beyond = omega arith
    by_year false beyond = omega arith

-- the first of two numbers of days is looked at, and then the second
abbrev from_year : ℕ → ℕ → ℕ → Bool → ℕ
from_year more year days b = (if b then record { number = year; days = days } else year_after more (year + 1) (days - days_in_year (pos year))).number

by_years : (more year d e : ℕ) (b c : Bool) → d ≤ e → nat_lt d (days_in_year (pos year)) ≡ b → nat_lt e (days_in_year (pos year)) ≡ c
    → (year_after more (year + 1) (d - days_in_year (pos year))).number ≤ (year_after more (year + 1) (e - days_in_year (pos year))).number
    → from_year more year d b ≤ from_year more year e c
by_years more year d e true true h x y later = omega arith
by_years more year d e true false h x y later = omega (arith, year_after-least more (year + 1) (e - days_in_year (pos year)))
by_years more year d e false true h x y later = absurd (omega (arith, ltb-false d (days_in_year (pos year)) x, ltb-true e (days_in_year (pos year)) y))
by_years more year d e false false h x y later = later

year_after-rises : (more year d e : ℕ) → d ≤ e → (year_after more year d).number ≤ (year_after more year e).number
year_after-rises zero year d e h = omega arith
year_after-rises (suc more) year d e h =
    by_years more year d e (nat_lt d (days_in_year (pos year))) (nat_lt e (days_in_year (pos year))) h refl refl
    (year_after-rises more (year + 1) (d - days_in_year (pos year)) (e - days_in_year (pos year)) (omega arith))

in_later_year : (x y : Passed) → x.number ≤ y.number → (date_in_year x).year ≤ (date_in_year y).year
in_later_year x y h = h

years-rise : (d e : ℕ) → d ≤ e → (date_of d).year ≤ (date_of e).year
unfolding date_of
years-rise d e h = in_later_year (year_after (last_year - first_year) first_year d) (year_after (last_year - first_year) first_year e) (year_after-rises (last_year - first_year) first_year d e h)

-- ---- years later

-- up to the last year the calendar has the date
is_later : (n : ℕ) (d : Date) → IsDate d → d.year + n ≤ last_year → IsDate (date_years_later n d)
is_later n d is le =
    let bounds = days_in_month_bounds (pos (d.year + n)) d.month in
    let one : 1 ≤ min d.day (days_in_month (pos (d.year + n)) d.month) = grind (arith, common_steps, bounds, is.0.2) in
    let most : min d.day (days_in_month (pos (d.year + n)) d.month) ≤ days_in_month (pos (d.year + n)) d.month = grind (arith, common_steps) in
    ((omega (arith, signed_arith), is.0.1, (one, most)), omega (arith, is.1))

-- and it lies before the end
in_range : (d : Date) → IsDate d → day_of_date d ≤ last_day
in_range d is =
    let bounds = day_count_bounds (pos d.year) d.month d.day is.0 in
    omega (arith, bounds, day_count_is d is.1 is.0.2.0)

-- a date past the last year ends too late
beyond : (n t : ℕ) → t ≤ last_moment → last_year < (date_of (day t)).year + n → last_moment < years_later n t
beyond n t h late =
    let start = date_of_is (day t) (omega arith) in
    let later = date_years_later n (date_of (day t)) in
    let bounds = days_in_month_bounds (pos ((date_of (day t)).year + n)) (date_of (day t)).month in
    let one : 1 ≤ later.day = grind (arith, common_steps, bounds, start.is.0.2) in
    omega (arith, day_of_date_late later late one)

years-end_late : (n t u : ℕ) → t ≤ u → u ≤ last_moment → last_moment < years_later n t → last_moment < years_later n u
years-end_late n t u h top late =
    let start = date_of_is (day t) (omega arith) in
    let rise = years-rise (day t) (day u) (omega arith) in
    elim (cases_lt last_year ((date_of (day t)).year + n)) [
      | inl past ↦ beyond n u top (omega arith)
      | inr le ↦ absurd (omega (arith, in_range (date_years_later n (date_of (day t))) (is_later n (date_of (day t)) start.is le)))
    ]

end_late : (p : Period) (t u : ℕ) → t ≤ u → u ≤ last_moment → last_moment < end_of p t → last_moment < end_of p u
end_late (Days n) t u h top late = omega arith
end_late (Years n) t u h top late = years-end_late n t u h top late

-- ---- the first lock

default-in_range : (d : Default) (t u : ℕ) → t ≤ u → u ≤ last_moment → (b c : Bool) → is_moment (end_of d.period t) ≡ b → is_moment (end_of d.period u) ≡ c → c ≡ true → b ≡ true
default-in_range d t u h top true c at_t at_u in_time = refl
default-in_range d t u h top false c at_t at_u in_time =
    let late = end_late d.period t u h top (leb-false (end_of d.period t) last_moment at_t) in
    absurd (cc (lt-leb (end_of d.period u) last_moment late))

given : (d : Default) (hold : Bool) (t : ℕ) (b : Bool) → is_some {T = Lock} (option_map (λ (r : Retention). record { retention = Some r; hold = hold }) (if b then Some (record { mode = d.mode; until = end_of d.period t }) else None)) ≡ b
given d hold t true = refl
given d hold t false = refl

-- a lock that can be given later can be given before
pub lock-before : (d : Option Default) (r : Option Retention) (hold : Bool) (t u : ℕ) → t ≤ u → u ≤ last_moment → is_some (first_lock d r hold u) ≡ true → is_some (first_lock d r hold t) ≡ true
lock-before d (Some r) hold t u h top later = refl
lock-before None None hold t u h top later = refl
lock-before (Some d) None hold t u h top later =
    rw (given d hold t (is_moment (end_of d.period t)))
    (default-in_range d t u h top (is_moment (end_of d.period t)) (is_moment (end_of d.period u)) refl refl (rw (given d hold u (is_moment (end_of d.period u))) at later))
