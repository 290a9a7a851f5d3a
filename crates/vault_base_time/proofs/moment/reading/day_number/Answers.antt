use Rattle.std.proofs.Common.{◌≡◌, ℕ, true, ℤ, pos, arith, FitsSigned, w8, w16, w32, to_z, to_z-of_z, Ok, refl, ◌∙◌}
use Rattle.std.proofs.lemmas.Int.{ints}
use Rattle.std.proofs.lemmas.Grind.{common_steps}
use Rattle.jiff_core.proofs.SignedLemmas.{signed_arith}
use Rattle.jiff_core.specs.Calendar as jiff
use Rattle.jiff_core.specs.Date.{epoch_day, IsYmd}
use Rattle.jiff_core.specs.declared.civil.date.Date.{Date}
use Rattle.vault_base_time.specs.Moment.{is_date, day_number}
use Rattle.vault_base_time.proofs.moment.reading.day_number.Goals as goal

there_is : (y m d : ℕ) → jiff.IsDate (pos y) (pos m) (pos d) → is_date y m d ≡ true
there_is y m d h = grind (arith, ints, common_steps)

number : (y m d : ℕ) (z : ℤ) → jiff.IsDate (pos y) (pos m) (pos d) → z ≡ jiff.days_from_civil (pos y) m d → Ok z ≡ day_number y m d
unfolding day_number
number y m d z h e = rw (there_is y m d h, e) refl

days : (z : ℤ) (d : Date) (y m n : ℕ) → z ≡ epoch_day d → IsYmd (pos y) (pos m) (pos n) d → z ≡ jiff.days_from_civil (pos y) m n
days z d y m n e ymd =
    let em : d.month ≡ m = cc in
    let en : d.day ≡ n = cc in
    e ∙ rw (ymd.0, em, en) refl

pub returns-in-Ok-clause-value : goal.returns-in-Ok-clause-value
returns-in-Ok-clause-value c =
    let f : FitsSigned w32 c.to_unix_epoch_day.result = omega (arith, signed_arith) in
    let ey : to_z w16 c.args.year ≡ pos c.args.year = omega (arith, ints) in
    let em : to_z w8 c.args.month ≡ pos c.args.month = omega (arith, ints) in
    let ed : to_z w8 c.args.day ≡ pos c.args.day = omega (arith, ints) in
    let is = (c.in-Ok.ensures.succeeds).0 refl in
    let is2 = rw (ey, em, ed) at is in
    rw (to_z-of_z f) (number c.args.year c.args.month c.args.day _ is2 (days c.to_unix_epoch_day.result c.in-Ok.date _ _ _ (rw c.to_plain.ensures at c.to_unix_epoch_day.ensures.value) (rw (ey, em, ed) at c.in-Ok.ensures.value)))
