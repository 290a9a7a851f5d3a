-- The grammar of the texts of moments: their parts, the text that spells them, and the second that they name.
use Rattle.std.specs.Prelude.{◌≡◌, ℕ, ◌+◌, ◌*◌, ◌/◌, ◌%◌, ◌<◌, ◌≤◌, ◌++◌, List, [], ◌∷◌, length, Bool, IsTrue, if◌then◌else◌, ℤ, pos, neg_ℤ, ◌+ℤ◌, ◌-ℤ◌, ◌*ℤ◌, ◌<ℤ◌, ◌⊎◌, Option, Some, None, Result, Ok, Err, IfSome}
use Rattle.std.specs.List.{list_all}
use Rattle.jiff_core.specs.Calendar.{days_from_civil, IsCivilDate}
use Rattle.vault_base_time.specs.Days.{day_length, last_moment}
use Rattle.vault_base_time.specs.Moment.{is_digit, two_digits, has_other_than_zero}
use Rattle.vault_base_time.specs.declared.moment.MomentFault.{MomentFault}
use Rattle.vault_base_time.specs.declared.moment.MomentFault.TheVariants.{Form, Range}

-- how far a clock is from UTC
pub record Offset : Type 0 where
  pub west : Bool
  pub hours : ℕ
  pub minutes : ℕ

-- the parts of a text: a date, a time of day, the digits of a fraction, if it has one, and an offset, if it isn't in UTC
pub record Parts : Type 0 where
  pub year : ℕ
  pub month : ℕ
  pub day : ℕ
  pub hours : ℕ
  pub minutes : ℕ
  pub seconds : ℕ
  pub fraction : List ℕ
  pub offset : Option Offset

-- '.' and its digits
abbrev pub fraction_text : List ℕ → List ℕ
fraction_text [] = []
fraction_text (digit ∷ digits) = 46 ∷ digit ∷ digits

-- 'Z', or '+HH:MM' or '-HH:MM'
abbrev pub offset_text : Option Offset → List ℕ
offset_text None = 90 ∷ []
offset_text (Some o) = (if o.west then 45 else 43) ∷ two_digits o.hours ++ 58 ∷ two_digits o.minutes

-- YYYY-MM-DDTHH:MM:SS, then the fraction and the offset
unfoldable pub spelled : Parts → List ℕ
spelled p =
    two_digits (p.year / 100) ++ two_digits (p.year % 100) ++ 45 ∷ two_digits p.month ++ 45 ∷ two_digits p.day ++ 84
    ∷ two_digits p.hours ++ 58 ∷ two_digits p.minutes ++ 58 ∷ two_digits p.seconds ++ fraction_text p.fraction ++ offset_text p.offset

-- a clock can be so far from UTC
pub record IsOffset (o : Offset) : Type 0 where
  pub hours : o.hours ≤ 23
  pub minutes : o.minutes ≤ 59

-- the calendar has the date, a day has the time, and a fraction has at most nine digits
pub record ArePartsOfMoment (p : Parts) : Type 0 where
  pub year : p.year < 10000
  pub date : IsCivilDate (pos p.year) p.month p.day
  pub hours : p.hours ≤ 23
  pub minutes : p.minutes ≤ 59
  pub seconds : p.seconds ≤ 59
  pub places : length p.fraction ≤ 9
  pub digits : IsTrue (list_all is_digit p.fraction)
  pub offset : IfSome p.offset IsOffset

-- the seconds that a clock so far east of UTC is ahead
abbrev pub seconds_ahead : Option Offset → ℤ
seconds_ahead None = pos 0
seconds_ahead (Some o) = if o.west then neg_ℤ (pos (3600 * o.hours + 60 * o.minutes)) else pos (3600 * o.hours + 60 * o.minutes)

-- the second that they name: a fraction that isn't zero counts as a whole second
abbrev pub second_named : Parts → ℤ
second_named p =
    days_from_civil (pos p.year) p.month p.day *ℤ pos day_length +ℤ pos (3600 * p.hours + 60 * p.minutes + p.seconds)
    +ℤ (if has_other_than_zero p.fraction then pos 1 else pos 0) -ℤ seconds_ahead p.offset

-- a text spells the parts of a moment
pub record Spells (text : List ℕ) (p : Parts) : Type 0 where
  pub are : ArePartsOfMoment p
  pub same : text ≡ spelled p

-- that is what a text is read as: the moment that it names, or that it names a second that no clock shows, or that it names no second
unfoldable pub Reads : List ℕ → Result ℕ MomentFault → Type 0
Reads text (Ok t) = (p : Parts) × Spells text p × (second_named p ≡ pos t) × (t ≤ last_moment)
Reads text (Err Range) = (p : Parts) × Spells text p × ((second_named p <ℤ pos 0) ⊎ (pos last_moment <ℤ second_named p))
Reads text (Err Form) = (p : Parts) → Spells text p → ⊥
