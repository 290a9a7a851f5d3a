-- Dates of `jiff` that are ours, their day numbers, and the same date years later.
use Rattle.std.proofs.Common.{◌≡◌, ℕ, ◌+◌, ◌-◌, ◌≤◌, min, ℤ, pos, ◌+ℤ◌, ◌*ℤ◌, refl, sym, ap, ◌∙◌, arith}
use Rattle.std.proofs.lemmas.Int.{ints}
use Rattle.std.proofs.lemmas.Grind.{common_steps}
use Rattle.jiff.specs.Words.{date_add, shifted_month, shifted_year, CanAddToDate}
use Rattle.jiff.proofs.SpanFacts.{date_add-years}
use Rattle.jiff_core.specs.Calendar.{days_from_civil, days_in_month}
use Rattle.jiff_core.specs.Date.{epoch_day, IsYmd}
use Rattle.jiff_core.specs.Span.{IsOnly}
use Rattle.jiff_core.specs.declared.civil.date.Date as jiff
use Rattle.jiff_core.specs.declared.span.Span.{Span}
use Rattle.jiff_core.specs.declared.unit.Unit.TheVariants.{Year}
use Rattle.jiff_core.proofs.CalendarLemmas.{days_in_month_bounds}
use Rattle.jiff_core.proofs.DateLemmas.{epoch_day_injective, epoch_day_range, epoch_day_same}
use Rattle.jiff_core.proofs.SignedLemmas.{signed_arith}
use Rattle.vault_base_time.specs.Calendar.{last_year, date_years_later, day_of_date, IsDate}
use Rattle.vault_base_time.specs.declared.calendar.Date.{Date}
use Rattle.vault_base_time.proofs.Dates.{jiff_date}
use Rattle.vault_base_time.proofs.DayNumbers.{day_of_date_is}

-- its day number
pub epoch_day_of : (d : jiff.Date) (e : Date) → IsDate e → IsYmd (pos e.year) (pos e.month) (pos e.day) d → epoch_day d ≡ pos (day_of_date e)
epoch_day_of d e is ymd =
    epoch_day_same d (jiff_date e is) ymd.0 (omega (arith, ints, ymd.1)) (omega (arith, ints, ymd.2)) ∙ day_of_date_is e is

-- up to the last year the calendar has the date years later
pub later_date : (n : ℕ) (e : Date) → IsDate e → e.year + n ≤ last_year → IsDate (date_years_later n e)
later_date n e is small =
    let bounds = days_in_month_bounds (pos (e.year + n)) e.month in
    let one : 1 ≤ min e.day (days_in_month (pos (e.year + n)) e.month) = grind (arith, common_steps, bounds, is.0.2) in
    let most : min e.day (days_in_month (pos (e.year + n)) e.month) ≤ days_in_month (pos (e.year + n)) e.month = grind (arith, common_steps) in
    ((omega (arith, signed_arith), is.0.1, (one, most)), omega (arith, is.1))

same_days : (y y₂ : ℤ) (m m₂ a b : ℕ) → y ≡ y₂ → m ≡ m₂ → a ≡ b → days_from_civil y m (min a (days_in_month y m)) ≡ days_from_civil y₂ m₂ (min b (days_in_month y₂ m₂))
same_days y y₂ m m₂ a b ey em ed = rw (ey, em, ed) refl

module _ (d : jiff.Date) (e : Date) (n : ℕ) (s : Span) (is : IsDate e) (ymd : IsYmd (pos e.year) (pos e.month) (pos e.day) d) (small : e.year + n ≤ last_year) (only : IsOnly Year (pos n) s) where
  abbrev later : jiff.Date
  later = jiff_date (date_years_later n e) (later_date n e is small)

  parts : (shifted_year d (pos n *ℤ pos 12) ≡ pos (e.year + n)) × (shifted_month d (pos n *ℤ pos 12) ≡ e.month)
  parts = (omega (arith, signed_arith, ymd.0, ymd.1, is.0.1), omega (arith, signed_arith, ymd.0, ymd.1, is.0.1))

  moved : date_add d s ≡ epoch_day later
  moved =
      let day : d.day ≡ e.day = omega (arith, ints, ymd.2) in
      date_add-years d (pos n) s only ∙ same_days _ _ _ _ _ _ parts.0 parts.1 day

  -- a span of that many years can be added to it
  pub can_add_years : CanAddToDate d s
  can_add_years = (rw (only.months, parts.0) (omega (arith, signed_arith, small)), rw moved (epoch_day_range later))

  -- and gives the date that many years later
  pub years_added : (r : jiff.Date) → epoch_day r ≡ date_add d s → (r.year ≡ pos (e.year + n)) × (r.month ≡ e.month) × (r.day ≡ min e.day (days_in_month (pos (e.year + n)) e.month))
  years_added r day = epoch_day_injective r later (day ∙ moved)
