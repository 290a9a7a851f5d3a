-- The text of a moment is read as that moment.
use Rattle.std.proofs.Common.{◌≡◌, ℕ, ◌+◌, ◌*◌, ◌/◌, ◌%◌, ◌<◌, ◌≤◌, false, ◌||◌, [], None, Ok, pos, ◌+ℤ◌, ◌-ℤ◌, ◌*ℤ◌, refl, ap, ◌∙◌, arith}
use Rattle.std.specs.Prelude.{int_lt}
use Rattle.std.proofs.lemmas.Int.{ints}
use Rattle.std.proofs.lemmas.Grind.{common_steps}
use Rattle.vault_base_time.specs.Calendar.{date_of}
use Rattle.vault_base_time.specs.Days.{day, day_length, last_moment}
use Rattle.vault_base_time.specs.Grammar.{Parts, ArePartsOfMoment, spelled, second_named}
use Rattle.vault_base_time.specs.Moment.{second_of, moment_of, clock_text, moment_text}
use Rattle.vault_base_time.specs.declared.calendar.Date.{Date}
use Rattle.vault_base_time.proofs.Dates.{IsDateOf, date_of_is}
use Rattle.vault_base_time.proofs.Spelled.{spelled_second}

-- the parts that are printed
parts : Date → ℕ → Parts
parts d s = record { year = d.year; month = d.month; day = d.day; hours = s / 3600; minutes = s / 60 % 60; seconds = s % 60; fraction = []; offset = None }

printed : (d : Date) (s : ℕ) → clock_text d.year d.month d.day s ≡ spelled (parts d s)
unfolding clock_text spelled parts
printed d s = refl

are_parts : (d : Date) (n s : ℕ) → IsDateOf n d → s < day_length → ArePartsOfMoment (parts d s)
unfolding parts
are_parts d n s is hs =
    record {
      year = omega (arith, ints, is.is.0.0);
      date = is.is.0;
      hours = omega arith;
      minutes = omega arith;
      seconds = omega arith;
      places = omega arith;
      digits = refl;
      offset = tt;
    }

named : (d : Date) (n s : ℕ) → IsDateOf n d → s < day_length → second_named (parts d s) ≡ pos (day_length * n + s)
unfolding parts
named d n s is hs =
    let time : 3600 * (s / 3600) + 60 * (s / 60 % 60) + s % 60 ≡ s = omega arith in
    let sum : pos n *ℤ pos day_length +ℤ pos s +ℤ pos 0 -ℤ pos 0 ≡ pos (day_length * n + s) = omega (arith, ints) in
    rw (is.number, time) sum

clock_second : (d : Date) (n s : ℕ) → IsDateOf n d → s < day_length → second_of (clock_text d.year d.month d.day s) ≡ Ok (pos (day_length * n + s))
clock_second d n s is hs =
    ap second_of (printed d s) ∙ spelled_second (parts d s) (are_parts d n s is hs) ∙ ap Ok (named d n s is hs)

in_range : (t : ℕ) → t ≤ last_moment → (int_lt (pos t) (pos 0) || int_lt (pos last_moment) (pos t)) ≡ false
in_range t h = grind (arith, ints, common_steps)

pub moment_reads_back : (t : ℕ) → t ≤ last_moment → moment_of (moment_text t) ≡ Ok t
unfolding moment_of moment_text
moment_reads_back t h =
    let same : day_length * day t + t % day_length ≡ t = omega arith in
    let second = clock_second (date_of (day t)) (day t) (t % day_length) (date_of_is (day t) (omega arith)) (omega arith) in
    rw (second, same, in_range t h) refl
