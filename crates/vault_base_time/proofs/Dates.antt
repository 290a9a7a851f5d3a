-- The walk over years and months finds the date of a day, and the sums over years and months its day.
use Rattle.std.proofs.Common.{◌≡◌, ℕ, zero, suc, ◌+◌, ◌-◌, ◌<◌, ◌≤◌, true, false, nat_lt, pos, inl, inr, refl, sym, ◌∙◌, arith}
use Rattle.std.proofs.lemmas.Int.{ints}
use Rattle.std.proofs.lemmas.Bool.{cases_lt}
use Rattle.std.proofs.lemmas.Grind.{common_steps}
use Rattle.jiff_core.specs.Calendar.{days_from_civil, days_in_month, days_in_year, day_count}
use Rattle.jiff_core.proofs.CalendarLemmas.{day_count-epoch, day_count-end, days_from_civil-day_count, day_count-next_year, day_count-next_month, day_count-last_of_year, day_count-day}
use Rattle.jiff_core.specs.Date.{epoch_day}
use Rattle.jiff_core.specs.declared.civil.date.Date as jiff
use Rattle.jiff_core.proofs.DateLemmas.{epoch_day_injective}
use Rattle.jiff_core.proofs.SignedLemmas.{signed_arith}
use Rattle.vault_base_time.specs.Calendar.{Passed, first_year, last_year, year_after, month_after, date_in_year, date_of, IsDate}
use Rattle.vault_base_time.specs.Days.{last_day}
use Rattle.vault_base_time.specs.declared.calendar.Date.{Date}

is_less : (a b : ℕ) → a < b → nat_lt a b ≡ true
is_less a b h = grind (arith, common_steps)

not_less : (a b : ℕ) → b ≤ a → nat_lt a b ≡ false
not_less a b h = grind (arith, common_steps)

next_year : (year : ℕ) → day_count (pos (year + 1)) 1 1 ≡ day_count (pos year) 1 1 + days_in_year (pos year)
next_year year = day_count-next_year (pos year) (pos (year + 1)) (omega (arith, ints)) (omega (arith, ints))

-- ---- the walk over the years

-- n days after the first of a year end in that year, no later than the last
record EndsInYear (year last days : ℕ) (p : Passed) : Type 0 where
  low : year ≤ p.number
  high : p.number ≤ last
  same : day_count (pos p.number) 1 1 + p.days ≡ day_count (pos year) 1 1 + days
  within : p.days < days_in_year (pos p.number)

year_after_ends : (more year last days : ℕ) → year + more ≡ last → day_count (pos year) 1 1 + days < day_count (pos last) 1 1 + days_in_year (pos last) → EndsInYear year last days (year_after more year days)
year_after_ends zero year last days e lt =
    let same : last ≡ year = omega arith in
    let lt2 = rw same at lt in
    record { low = omega arith; high = omega arith; same = refl; within = omega arith }
year_after_ends (suc more) year last days e lt =
    elim (cases_lt days (days_in_year (pos year))) [
      | inl inside ↦ (rw (is_less _ _ inside) (record { low = omega arith; high = omega arith; same = refl; within = inside }))
      | inr beyond ↦ (
          let next = next_year year in
          let later = year_after_ends more (year + 1) last (days - days_in_year (pos year)) (omega arith) (omega arith) in
          rw (not_less _ _ beyond) (record { low = omega (arith, later.low); high = later.high; same = omega (arith, later.same); within = later.within }))
    ]

-- ---- the walk over the months

record EndsInMonth (year month days : ℕ) (p : Passed) : Type 0 where
  low : month ≤ p.number
  high : p.number ≤ 12
  same : day_count (pos year) p.number 1 + p.days ≡ day_count (pos year) month 1 + days
  within : p.days < days_in_month (pos year) p.number

month_after_ends : (more year month days : ℕ) → month + more ≡ 12 → 1 ≤ month → day_count (pos year) month 1 + days < day_count (pos year) 12 1 + 31 → EndsInMonth year month days (month_after more year month days)
month_after_ends zero year month days e one lt =
    let same : month ≡ 12 = omega arith in
    rw same (record { low = omega arith; high = omega arith; same = refl; within = (let lt2 = rw same at lt in omega arith) })
month_after_ends (suc more) year month days e one lt =
    elim (cases_lt days (days_in_month (pos year) month)) [
      | inl inside ↦ (rw (is_less _ _ inside) (record { low = omega arith; high = omega arith; same = refl; within = inside }))
      | inr beyond ↦ (
          let next = day_count-next_month (pos year) month one in
          let later = month_after_ends more year (month + 1) (days - days_in_month (pos year) month) (omega arith) (omega arith) (omega arith) in
          rw (not_less _ _ beyond) (record { low = omega (arith, later.low); high = later.high; same = omega (arith, later.same); within = later.within }))
    ]

-- ---- dates

-- a date of the calendar, and its day number is that one
pub record IsDateOf (n : ℕ) (d : Date) : Type 0 where
  pub is : IsDate d
  pub number : days_from_civil (pos d.year) d.month d.day ≡ pos n

in_year : (n : ℕ) (y : Passed) → EndsInYear first_year last_year n y → IsDateOf n (date_in_year y)
in_year n y ends =
    let last = day_count-last_of_year (pos y.number) in
    let months = month_after_ends 11 y.number 1 y.days (omega arith) (omega arith) (omega (arith, ends.within, last, day_count-day (pos y.number) 12 31 1 (omega arith) (omega arith))) in
    let p = month_after 11 y.number 1 y.days in
    let day = day_count-day (pos y.number) p.number (p.days + 1) 1 (omega arith) (omega arith) in
    let number = days_from_civil-day_count (pos y.number) p.number (p.days + 1) in
    record {
      is = ((omega (arith, signed_arith, ends.high), (omega (arith, months.low), months.high), (omega arith, omega (arith, months.within))), ends.low);
      number = omega (arith, signed_arith, number, day, months.same, ends.same, day_count-epoch);
    }

pub date_of_is : (n : ℕ) → n ≤ last_day → IsDateOf n (date_of n)
unfolding date_of
date_of_is n h =
    in_year n (year_after (last_year - first_year) first_year n) (year_after_ends (last_year - first_year) first_year last_year n (omega arith) (omega (arith, next_year last_year, day_count-end, day_count-epoch)))

abbrev pub jiff_date : (d : Date) → IsDate d → jiff.Date
jiff_date d is = record { year = pos d.year; month = d.month; day = d.day; year_in = is.0.0; month_in = is.0.1; day_in = is.0.2 }

-- a date of jiff with that day number is the same
pub date_of_only : (n : ℕ) (d : jiff.Date) → n ≤ last_day → epoch_day d ≡ pos n → (d.year ≡ pos (date_of n).year) × (d.month ≡ (date_of n).month) × (d.day ≡ (date_of n).day)
date_of_only n d h e =
    let own = date_of_is n h in
    epoch_day_injective d (jiff_date (date_of n) own.is) (e ∙ sym own.number)
