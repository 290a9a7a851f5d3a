use Rattle.std.proofs.Common.{◌≡◌, ℕ, ◌≤◌, ℤ, pos, arith, w32, to_z, of_z, to_z-of_z, FitsSigned, refl, ◌∙◌}
use Rattle.jiff_core.specs.Calendar.{IsEpochDay}
use Rattle.jiff_core.proofs.SignedLemmas.{signed_arith}
use Rattle.vault_base_time.specs.Calendar.{day_of_date}
use Rattle.vault_base_time.specs.Days.{last_day}
use Rattle.vault_base_time.proofs.JiffDates.{epoch_day_of}
use Rattle.vault_base_time.proofs.calendar.Date.day_number.Goals as goal

-- the number that jiff answers is that day, and small
number : (z : ℤ) (n : ℕ) → IsEpochDay z → z ≡ pos n → (to_z w32 (of_z w32 z) ≡ pos n) × (n ≤ last_day)
number z n is e =
    let f : FitsSigned w32 z = omega (arith, signed_arith, is) in
    (to_z-of_z f ∙ e, omega (arith, signed_arith, is, e))

day : (c : goal.After-to_unix_epoch_day) → (to_z w32 (of_z w32 c.to_unix_epoch_day.result) ≡ pos (day_of_date c.args.self)) × (day_of_date c.args.self ≤ last_day)
day c =
    let same = epoch_day_of c.to_civil.result c.args.self c.requires c.to_civil.ensures in
    number c.to_unix_epoch_day.result (day_of_date c.args.self) c.to_unix_epoch_day.ensures.bound (c.to_unix_epoch_day.ensures.value ∙ rw c.to_plain.ensures same)

pub overflow_cast-result : goal.overflow_cast-result
overflow_cast-result c =
    let small = (day c).1 in
    rw (day c).0 (tt, omega arith)

pub returns-clause-value : goal.returns-clause-value
returns-clause-value c = rw (day c).0 refl

pub returns-clause-range : goal.returns-clause-range
returns-clause-range c = rw (day c).0 (day c).1
