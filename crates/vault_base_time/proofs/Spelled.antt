-- A text that spells the parts of a moment is read as the second that they name.
use Rattle.std.proofs.Common.{◌≡◌, ℕ, ◌+◌, ◌-◌, ◌*◌, ◌/◌, ◌%◌, ◌<◌, ◌≤◌, Bool, true, false, nat_le, ◌||◌, ◌==◌, cond, IfSome, List, [], ◌∷◌, ◌++◌, length, slice_index, take, drop, Option, Some, None, Ok, ℤ, pos, ◌+ℤ◌, ◌-ℤ◌, ◌*ℤ◌, refl, sym, ap, ◌∙◌, arith, neg_ℤ}
use Rattle.std.proofs.lemmas.Int.{ints}
use Rattle.std.proofs.lemmas.Grind.{common_steps}
use Rattle.std.proofs.lemmas.List.{drop-drop}
use Rattle.std.specs.List.{list_all, prefix_len}
use Rattle.jiff_core.specs.Calendar.{days_from_civil}
use Rattle.jiff_core.proofs.CalendarLemmas.{days_in_month_bounds}
use Rattle.vault_base_time.specs.Days.{day_length}
use Rattle.vault_base_time.specs.Moment.{is_digit, pair_at, pair_upto, mark_at, is_date, day_number, day_of, seconds_of, digits_in_front, has_other_than_zero, fraction_of, offset_of, raised, second_at, second_of, ◌>>=◌}
use Rattle.vault_base_time.specs.Grammar.{Parts, Offset, fraction_text, offset_text, spelled, ArePartsOfMoment, IsOffset, seconds_ahead, second_named}

digit : (n : ℕ) → n < 10 → is_digit (48 + n) ≡ true
digit n h = grind (arith, common_steps)

pair_is : (text : List ℕ) (at n : ℕ) → n < 100 → slice_index text at ≡ 48 + n / 10 → slice_index text (at + 1) ≡ 48 + n % 10 → pair_at text at ≡ Ok n
unfolding pair_at
pair_is text at n h tens ones =
    let same : 10 * (48 + n / 10 - 48) + (48 + n % 10 - 48) ≡ n = omega arith in
    rw (tens, ones, digit (n / 10) (omega arith), digit (n % 10) (omega arith), same) refl

pair_upto_is : (text : List ℕ) (at n most : ℕ) → n < 100 → n ≤ most → slice_index text at ≡ 48 + n / 10 → slice_index text (at + 1) ≡ 48 + n % 10 → pair_upto text at most ≡ Ok n
unfolding pair_upto
pair_upto_is text at n most h le tens ones =
    let within : nat_le n most ≡ true = grind (arith, common_steps) in
    rw (pair_is text at n h tens ones, within) refl

-- ---- date and time

spelled_date : (p : Parts) → p.year < 10000 → p.month < 100 → p.day < 100 → day_of (spelled p) ≡ day_number p.year p.month p.day
unfolding day_of mark_at spelled
spelled_date p hy hm hd =
    let century = pair_is (spelled p) 0 (p.year / 100) (omega arith) refl refl in
    let year = pair_is (spelled p) 2 (p.year % 100) (omega arith) refl refl in
    let month = pair_is (spelled p) 5 p.month hm refl refl in
    let day = pair_is (spelled p) 8 p.day hd refl refl in
    let same : 100 * (p.year / 100) + p.year % 100 ≡ p.year = omega arith in
    rw (century, year, month, day, same) refl

spelled_seconds : (p : Parts) → p.hours ≤ 23 → p.minutes ≤ 59 → p.seconds ≤ 59 → seconds_of (spelled p) ≡ Ok (3600 * p.hours + 60 * p.minutes + p.seconds)
unfolding seconds_of mark_at spelled
spelled_seconds p hh hm hs =
    let hours = pair_upto_is (spelled p) 11 p.hours 23 (omega arith) hh refl refl in
    let minutes = pair_upto_is (spelled p) 14 p.minutes 59 (omega arith) hm refl refl in
    let seconds = pair_upto_is (spelled p) 17 p.seconds 59 (omega arith) hs refl refl in
    rw (hours, minutes, seconds) refl

spelled_end : (p : Parts) → drop 19 (spelled p) ≡ fraction_text p.fraction ++ offset_text p.offset
unfolding spelled
spelled_end p = refl

date_number : (p : Parts) → ArePartsOfMoment p → day_number p.year p.month p.day ≡ Ok (days_from_civil (pos p.year) p.month p.day)
unfolding day_number
date_number p are =
    let there : is_date p.year p.month p.day ≡ true = grind (arith, common_steps, are.date.1, are.date.2) in
    rw there refl

-- ---- fraction

no_digit : (o : Option Offset) → is_digit (slice_index (offset_text o) 0) ≡ false
no_digit None = refl
no_digit (Some o) = elim o.west as (λ w. is_digit (cond w 45 43) ≡ false) [ true ↦ refl | false ↦ refl ]

no_point : (o : Option Offset) → (slice_index (offset_text o) 0 == 46) ≡ false
no_point None = refl
no_point (Some o) = elim o.west as (λ w. (cond w 45 43 == 46) ≡ false) [ true ↦ refl | false ↦ refl ]

stops : (rest : List ℕ) → is_digit (slice_index rest 0) ≡ false → prefix_len is_digit rest ≡ 0
stops [] h = refl
stops (b ∷ rest) h = rw h refl

in_front : (digits rest : List ℕ) → list_all is_digit digits ≡ true → is_digit (slice_index rest 0) ≡ false → prefix_len is_digit (digits ++ rest) ≡ length digits
in_front [] rest all h = stops rest h
in_front (d ∷ digits) rest all h =
    let first : is_digit d ≡ true = grind (arith, common_steps) in
    let more : list_all is_digit digits ≡ true = grind (arith, common_steps) in
    rw (first, in_front digits rest more h) (omega arith)

taken : (digits rest : List ℕ) → take (length digits) (digits ++ rest) ≡ digits
taken [] rest = refl
taken (d ∷ digits) rest = ap (λ xs. d ∷ xs) (taken digits rest)

left : (digits rest : List ℕ) → drop (length digits) (digits ++ rest) ≡ rest
left [] rest = refl
left (d ∷ digits) rest = left digits rest

-- how many bytes a fraction takes
abbrev pub size : List ℕ → ℕ
size fraction = length (fraction_text fraction)

fraction_is : (fraction : List ℕ) (o : Option Offset) → length fraction ≤ 9 → list_all is_digit fraction ≡ true → fraction_of (fraction_text fraction ++ offset_text o) ≡ Ok (has_other_than_zero fraction, size fraction)
unfolding fraction_of
fraction_is [] o places all = rw (no_point o) refl
fraction_is (d ∷ digits) o places all =
    let front : digits_in_front ((d ∷ digits) ++ offset_text o) ≡ length (d ∷ digits) = in_front (d ∷ digits) (offset_text o) all (no_digit o) in
    let low : nat_le 1 (length (d ∷ digits)) ≡ true = grind (arith, common_steps) in
    let high : nat_le (length (d ∷ digits)) 9 ≡ true = grind (arith, common_steps) in
    let sum : length (d ∷ digits) + 1 ≡ size (d ∷ digits) = omega arith in
    rw (front, low, high, taken digits (offset_text o)) (ap (λ n. Ok (has_other_than_zero (d ∷ digits), n)) sum)

after_fraction : (fraction : List ℕ) (o : Option Offset) → drop (size fraction) (fraction_text fraction ++ offset_text o) ≡ offset_text o
after_fraction [] o = refl
after_fraction (d ∷ digits) o = left digits (offset_text o)

-- ---- offset

abbrev pub west_of : Option Offset → Bool
west_of None = false
west_of (Some o) = o.west

abbrev pub seconds_off : Option Offset → ℕ
seconds_off None = 0
seconds_off (Some o) = 3600 * o.hours + 60 * o.minutes

-- the signs
is_sign : (west : Bool) → ((cond west 45 43 == 43) || (cond west 45 43 == 45)) ≡ true
is_sign true = refl
is_sign false = refl

is_west : (west : Bool) → (cond west 45 43 == 45) ≡ west
is_west true = refl
is_west false = refl

offset_is : (o : Option Offset) → IfSome o IsOffset → offset_of (offset_text o) ≡ Ok (west_of o, seconds_off o)
unfolding offset_of
offset_is None h = refl
offset_is (Some o) h =
    let hours = pair_upto_is (offset_text (Some o)) 1 o.hours 23 (omega (arith, h.hours)) h.hours refl refl in
    let minutes = pair_upto_is (offset_text (Some o)) 4 o.minutes 59 (omega (arith, h.minutes)) h.minutes refl refl in
    rw (is_sign o.west, hours, minutes, is_west o.west) refl

-- ---- the whole text

at_offset : (day : ℤ) (s : ℕ) (up west : Bool) (off : ℕ) → second_at day (raised s up) west off ≡ day *ℤ pos day_length +ℤ pos s +ℤ cond up (pos 1) (pos 0) -ℤ cond west (neg_ℤ (pos off)) (pos off)
at_offset day s true true off = omega (arith, ints)
at_offset day s true false off = omega (arith, ints)
at_offset day s false true off = omega (arith, ints)
at_offset day s false false off = omega (arith, ints)

ahead : (o : Option Offset) → cond (west_of o) (neg_ℤ (pos (seconds_off o))) (pos (seconds_off o)) ≡ seconds_ahead o
ahead None = refl
ahead (Some o) = refl

pub named : (day : ℤ) (p : Parts) → day ≡ days_from_civil (pos p.year) p.month p.day → second_at day (raised (3600 * p.hours + 60 * p.minutes + p.seconds) (has_other_than_zero p.fraction)) (west_of p.offset) (seconds_off p.offset) ≡ second_named p
named day p e = rw (at_offset day (3600 * p.hours + 60 * p.minutes + p.seconds) (has_other_than_zero p.fraction) (west_of p.offset) (seconds_off p.offset), ahead p.offset, e) refl

-- from its pieces
pub second_is : (text : List ℕ) (day : ℤ) (s : ℕ) (up : Bool) (n : ℕ) (west : Bool) (off : ℕ) → day_of text ≡ Ok day → seconds_of text ≡ Ok s → fraction_of (drop 19 text) ≡ Ok (up, n) → offset_of (drop (19 + n) text) ≡ Ok (west, off) → second_of text ≡ Ok (second_at day (raised s up) west off)
unfolding second_of
second_is text day s up n west off date seconds fraction offset =
    let tail : (offset_of (drop (19 + n) text) >>= (λ o. Ok (second_at day (raised s up) o.0 o.1))) ≡ Ok (second_at day (raised s up) west off) = rw offset refl in
    rw (date, seconds, fraction) tail

pub spelled_second : (p : Parts) → ArePartsOfMoment p → second_of (spelled p) ≡ Ok (second_named p)
spelled_second p are =
    let bounds = days_in_month_bounds (pos p.year) p.month in
    let date : day_of (spelled p) ≡ Ok (days_from_civil (pos p.year) p.month p.day) = spelled_date p are.year (omega (arith, are.date.1)) (omega (arith, are.date.2)) ∙ date_number p are in
    let seconds = spelled_seconds p are.hours are.minutes are.seconds in
    let fraction : fraction_of (drop 19 (spelled p)) ≡ Ok (has_other_than_zero p.fraction, size p.fraction) = rw (spelled_end p) (fraction_is p.fraction p.offset are.places are.digits) in
    let rest : drop (19 + size p.fraction) (spelled p) ≡ offset_text p.offset = sym (drop-drop (size p.fraction) 19 (spelled p)) ∙ rw (spelled_end p) (after_fraction p.fraction p.offset) in
    let offset : offset_of (drop (19 + size p.fraction) (spelled p)) ≡ Ok (west_of p.offset, seconds_off p.offset) = rw rest (offset_is p.offset are.offset) in
    second_is (spelled p) _ _ _ _ _ _ date seconds fraction offset ∙ ap Ok (named _ p refl)
