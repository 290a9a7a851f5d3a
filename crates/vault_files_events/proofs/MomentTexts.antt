-- Two moments with one text are one moment, whatever their numbers.
use Rattle.std.proofs.Common.{◌≡◌, ℕ, zero, suc, ◌+◌, ◌-◌, ◌/◌, ◌%◌, ◌<◌, ◌≤◌, true, false, nat_lt, length, slice_index, pos, inl, inr, refl, sym, ap, ◌∙◌, arith}
use Rattle.std.proofs.lemmas.Bool.{cases_lt}
use Rattle.std.proofs.lemmas.Grind.{common_steps}
use Rattle.jiff_core.specs.Calendar.{days_in_month, days_in_year}
use Rattle.vault_base_time.specs.Calendar.{Passed, first_year, last_year, year_after, month_after, date_in_year, date_of}
use Rattle.vault_base_time.specs.Days.{day, day_length}
use Rattle.vault_base_time.specs.Moment.{clock_text, moment_text}
use Rattle.vault_base_time.specs.declared.calendar.Date.{Date}

is_less : (a b : ℕ) → a < b → nat_lt a b ≡ true
is_less a b h = grind (arith, common_steps)

not_less : (a b : ℕ) → b ≤ a → nat_lt a b ≡ false
not_less a b h = grind (arith, common_steps)

-- ---- the walks over years and months

year-low : (more year days : ℕ) → year ≤ (year_after more year days).number
year-low zero year days = omega arith
year-low (suc more) year days = elim (cases_lt days (days_in_year (pos year))) [
  | inl inside ↦ (rw (is_less _ _ inside) (omega arith))
  | inr beyond ↦ (let later = year-low more (year + 1) (days - days_in_year (pos year)) in rw (not_less _ _ beyond) (omega (arith, later)))
]

same-year-days : (more year c d : ℕ) → year_after more year c ≡ year_after more year d → c ≡ d
same-year-days zero year c d e = ap (λ p. p.days) e
same-year-days (suc more) year c d e = elim (cases_lt c (days_in_year (pos year))) [
  | inl first ↦ elim (cases_lt d (days_in_year (pos year))) [
    | inl second ↦ ap (λ p. p.days) (rw (is_less _ _ first, is_less _ _ second) at e)
    | inr second ↦ absurd (
        let later = year-low more (year + 1) (d - days_in_year (pos year)) in
        let same : year ≡ (year_after more (year + 1) (d - days_in_year (pos year))).number = ap (λ p. p.number) (rw (is_less _ _ first, not_less _ _ second) at e) in
        omega (arith, later, same))
  ]
  | inr first ↦ elim (cases_lt d (days_in_year (pos year))) [
    | inl second ↦ absurd (
        let later = year-low more (year + 1) (c - days_in_year (pos year)) in
        let same : (year_after more (year + 1) (c - days_in_year (pos year))).number ≡ year = ap (λ p. p.number) (rw (not_less _ _ first, is_less _ _ second) at e) in
        omega (arith, later, same))
    | inr second ↦ (
        let left = same-year-days more (year + 1) (c - days_in_year (pos year)) (d - days_in_year (pos year)) (rw (not_less _ _ first, not_less _ _ second) at e) in
        omega (arith, left))
  ]
]

month-low : (more year month days : ℕ) → month ≤ (month_after more year month days).number
month-low zero year month days = omega arith
month-low (suc more) year month days = elim (cases_lt days (days_in_month (pos year) month)) [
  | inl inside ↦ (rw (is_less _ _ inside) (omega arith))
  | inr beyond ↦ (let later = month-low more year (month + 1) (days - days_in_month (pos year) month) in rw (not_less _ _ beyond) (omega (arith, later)))
]

same-month-days : (more year month c d : ℕ) → month_after more year month c ≡ month_after more year month d → c ≡ d
same-month-days zero year month c d e = ap (λ p. p.days) e
same-month-days (suc more) year month c d e = elim (cases_lt c (days_in_month (pos year) month)) [
  | inl first ↦ elim (cases_lt d (days_in_month (pos year) month)) [
    | inl second ↦ ap (λ p. p.days) (rw (is_less _ _ first, is_less _ _ second) at e)
    | inr second ↦ absurd (
        let later = month-low more year (month + 1) (d - days_in_month (pos year) month) in
        let same : month ≡ (month_after more year (month + 1) (d - days_in_month (pos year) month)).number = ap (λ p. p.number) (rw (is_less _ _ first, not_less _ _ second) at e) in
        omega (arith, later, same))
  ]
  | inr first ↦ elim (cases_lt d (days_in_month (pos year) month)) [
    | inl second ↦ absurd (
        let later = month-low more year (month + 1) (c - days_in_month (pos year) month) in
        let same : (month_after more year (month + 1) (c - days_in_month (pos year) month)).number ≡ month = ap (λ p. p.number) (rw (not_less _ _ first, is_less _ _ second) at e) in
        omega (arith, later, same))
    | inr second ↦ (
        let left = same-month-days more year (month + 1) (c - days_in_month (pos year) month) (d - days_in_month (pos year) month) (rw (not_less _ _ first, not_less _ _ second) at e) in
        omega (arith, left))
  ]
]

-- ---- days

same-passed : (p q : Passed) → p.number ≡ q.number → p.days ≡ q.days → p ≡ q
same-passed p q n d = ap (λ number. record { number = number; days = p.days }) n ∙ ap (λ days. record { number = q.number; days = days }) d

same-in-year : (p q : Passed) → date_in_year p ≡ date_in_year q → p ≡ q
same-in-year p q e =
    let year : p.number ≡ q.number = ap (λ (d : Date). d.year) e in
    let month : (month_after 11 p.number 1 p.days).number ≡ (month_after 11 q.number 1 q.days).number = ap (λ (d : Date). d.month) e in
    let day : (month_after 11 p.number 1 p.days).days + 1 ≡ (month_after 11 q.number 1 q.days).days + 1 = ap (λ (d : Date). d.day) e in
    let moved : month_after 11 q.number 1 q.days ≡ month_after 11 p.number 1 q.days = ap (λ y. month_after 11 y 1 q.days) (sym year) in
    let days = same-month-days 11 p.number 1 p.days q.days (same-passed _ _ month (omega (arith, day)) ∙ moved) in
    same-passed p q year days

same-day : (c d : ℕ) → date_of c ≡ date_of d → c ≡ d
unfolding date_of
same-day c d e = same-year-days (last_year - first_year) first_year c d (same-in-year _ _ e)

-- ---- texts

same-two : (c d : ℕ) → 48 + c / 10 ≡ 48 + d / 10 → 48 + c % 10 ≡ 48 + d % 10 → c ≡ d
same-two c d tens ones = omega (arith, tens, ones)

same-date : (c d : Date) → c.year ≡ d.year → c.month ≡ d.month → c.day ≡ d.day → c ≡ d
same-date c d year month date =
    ap (λ y. record { year = y; month = c.month; day = c.day }) year
    ∙ (ap (λ m. record { year = d.year; month = m; day = c.day }) month
    ∙ ap (λ n. record { year = d.year; month = d.month; day = n }) date)

-- the text of a date and a time of day is of these alone
same-clock : (c d : Date) (r s : ℕ) → clock_text c.year c.month c.day r ≡ clock_text d.year d.month d.day s → (c ≡ d) × (r ≡ s)
unfolding clock_text
same-clock c d r s e =
    let at : (i : ℕ) → slice_index (clock_text c.year c.month c.day r) i ≡ slice_index (clock_text d.year d.month d.day s) i = λ i. ap (λ l. slice_index l i) e in
    let century = same-two (c.year / 100) (d.year / 100) (at 0) (at 1) in
    let year = same-two (c.year % 100) (d.year % 100) (at 2) (at 3) in
    let month = same-two c.month d.month (at 5) (at 6) in
    let day = same-two c.day d.day (at 8) (at 9) in
    let hours = same-two (r / 3600) (s / 3600) (at 11) (at 12) in
    let minutes = same-two (r / 60 % 60) (s / 60 % 60) (at 14) (at 15) in
    let seconds = same-two (r % 60) (s % 60) (at 17) (at 18) in
    let years : c.year ≡ d.year = omega (arith, century, year) in
    (same-date c d years month day, omega (arith, hours, minutes, seconds))

pub same-moment : (c d : ℕ) → moment_text c ≡ moment_text d → c ≡ d
unfolding moment_text
same-moment c d e =
    let parts = same-clock (date_of (day c)) (date_of (day d)) (c % day_length) (d % day_length) e in
    let days = same-day (day c) (day d) parts.0 in
    omega (arith, days, parts.1)

pub moment-length : (c : ℕ) → length (moment_text c) ≡ 20
unfolding moment_text clock_text
moment-length c = refl
