-- The texts of moments: YYYY-MM-DDTHH:MM:SS, a fraction of one to nine digits or none, and Z or an offset from UTC.
use Rattle.std.specs.Prelude.{ℕ, ◌+◌, ◌-◌, ◌*◌, ◌/◌, ◌%◌, ◌==◌, ◌&&◌, ◌||◌, ◌++◌, not, List, [], ◌∷◌, length, take, drop, slice_index, Bool, false, nat_le, if◌then◌else◌, ℤ, pos, ◌+ℤ◌, ◌-ℤ◌, ◌*ℤ◌, unsigned_abs, int_lt, Result, Ok, Err, ⊤}
use Rattle.std.specs.List.{list_any, prefix_len}
use Rattle.jiff_core.specs.Calendar.{days_from_civil, days_in_month}
use Rattle.vault_base_time.specs.Days.{day, day_length, last_moment}
use Rattle.vault_base_time.specs.Calendar.{date_of}
use Rattle.vault_base_time.specs.declared.moment.MomentFault.{MomentFault}
use Rattle.vault_base_time.specs.declared.moment.MomentFault.TheVariants.{Form, Range}

infixl 10 ◌>>=◌
abbrev pub ◌>>=◌ : {A B : Type 0} → Result A MomentFault → (A → Result B MomentFault) → Result B MomentFault
(Ok x) >>= f = f x
(Err e) >>= f = Err e

abbrev pub is_digit : ℕ → Bool
is_digit b = nat_le 48 b && nat_le b 57

-- the number that two digits at that place are
unfoldable pub pair_at : List ℕ → ℕ → Result ℕ MomentFault
pair_at text at = if is_digit (slice_index text at) && is_digit (slice_index text (at + 1)) then Ok (10 * (slice_index text at - 48) + (slice_index text (at + 1) - 48)) else Err Form

-- a number of two digits that is no greater than the limit
unfoldable pub pair_upto : List ℕ → ℕ → ℕ → Result ℕ MomentFault
pair_upto text at most = do
  n ← pair_at text at
  if nat_le n most then Ok n else Err Form

-- that byte stands at that place
unfoldable pub mark_at : List ℕ → ℕ → ℕ → Result ⊤ MomentFault
mark_at text at byte = if slice_index text at == byte then Ok tt else Err Form

-- the calendar has that day
abbrev pub is_date : ℕ → ℕ → ℕ → Bool
is_date year month day = nat_le 1 month && nat_le month 12 && nat_le 1 day && nat_le day (days_in_month (pos year) month)

-- its day number, if the calendar has that day
unfoldable pub day_number : ℕ → ℕ → ℕ → Result ℤ MomentFault
day_number year month day = if is_date year month day then Ok (days_from_civil (pos year) month day) else Err Form

-- YYYY-MM-DD at the front: its day number
unfoldable pub day_of : List ℕ → Result ℤ MomentFault
day_of text = do
  century ← pair_at text 0
  year ← pair_at text 2
  _ ← mark_at text 4 45
  month ← pair_at text 5
  _ ← mark_at text 7 45
  day ← pair_at text 8
  day_number (100 * century + year) month day

-- THH:MM:SS after it: the seconds of the day
unfoldable pub seconds_of : List ℕ → Result ℕ MomentFault
seconds_of text = do
  _ ← mark_at text 10 84
  hours ← pair_upto text 11 23
  _ ← mark_at text 13 58
  minutes ← pair_upto text 14 59
  _ ← mark_at text 16 58
  seconds ← pair_upto text 17 59
  Ok (3600 * hours + 60 * minutes + seconds)

-- how many digits stand at the front
abbrev pub digits_in_front : List ℕ → ℕ
digits_in_front text = prefix_len is_digit text

abbrev pub has_other_than_zero : List ℕ → Bool
has_other_than_zero digits = list_any (λ b. not (b == 48)) digits

-- what stands after the seconds: a fraction of one to nine digits, or none. Whether it isn't zero, and how many bytes it takes
unfoldable pub fraction_of : List ℕ → Result (Bool × ℕ) MomentFault
fraction_of text =
    if slice_index text 0 == 46
    then (if nat_le 1 (digits_in_front (drop 1 text)) && nat_le (digits_in_front (drop 1 text)) 9
    then Ok (has_other_than_zero (take (digits_in_front (drop 1 text)) (drop 1 text)), digits_in_front (drop 1 text) + 1)
    else Err Form)
    else Ok (false, 0)

-- the offset from UTC, which ends the text: whether it is west, and its seconds
unfoldable pub offset_of : List ℕ → Result (Bool × ℕ) MomentFault
offset_of text =
    if (length text == 1) && (slice_index text 0 == 90) then Ok (false, 0)
    else (if (length text == 6) && ((slice_index text 0 == 43) || (slice_index text 0 == 45)) && (slice_index text 3 == 58) then (do
      hours ← pair_upto text 1 23
      minutes ← pair_upto text 4 59
      Ok (slice_index text 0 == 45, 3600 * hours + 60 * minutes)) else Err Form)

abbrev pub raised : ℕ → Bool → ℕ
raised seconds up = seconds + (if up then 1 else 0)

-- a clock that is so far from UTC shows that second of that day: the second in UTC
abbrev pub second_at : ℤ → ℕ → Bool → ℕ → ℤ
second_at day seconds west offset = day *ℤ pos day_length +ℤ (if west then pos (seconds + offset) else pos seconds -ℤ pos offset)

-- the second that a text names, a fraction raised to the next
unfoldable pub second_of : List ℕ → Result ℤ MomentFault
second_of text = do
  day ← day_of text
  seconds ← seconds_of text
  fraction ← fraction_of (drop 19 text)
  offset ← offset_of (drop (19 + fraction.1) text)
  Ok (second_at day (raised seconds fraction.0) offset.0 offset.1)

-- the moment of a text
unfoldable pub moment_of : List ℕ → Result ℕ MomentFault
moment_of text = do
  second ← second_of text
  if int_lt second (pos 0) || int_lt (pos last_moment) second then Err Range else Ok (unsigned_abs second)

-- ---- what is printed

abbrev pub two_digits : ℕ → List ℕ
two_digits n = (48 + n / 10) ∷ (48 + n % 10) ∷ []

-- YYYY-MM-DDTHH:MM:SSZ
unfoldable pub clock_text : ℕ → ℕ → ℕ → ℕ → List ℕ
clock_text year month day seconds =
    two_digits (year / 100) ++ two_digits (year % 100) ++ 45 ∷ [] ++ two_digits month ++ 45 ∷ [] ++ two_digits day ++ 84 ∷ []
    ++ two_digits (seconds / 3600) ++ 58 ∷ [] ++ two_digits (seconds / 60 % 60) ++ 58 ∷ [] ++ two_digits (seconds % 60) ++ 90 ∷ []

-- the text of a moment
unfoldable pub moment_text : ℕ → List ℕ
moment_text t =
    let date = date_of (day t) in
    clock_text date.year date.month date.day (t % day_length)
