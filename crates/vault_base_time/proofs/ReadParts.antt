-- A text that is read as a second spells parts that name it.
use Rattle.std.proofs.Common.{◌≡◌, ℕ, suc, ◌+◌, ◌-◌, ◌*◌, ◌/◌, ◌%◌, ◌<◌, ◌≤◌, Bool, true, false, nat_le, ◌&&◌, ◌||◌, ◌==◌, cond, IfSome, List, [], ◌∷◌, ◌++◌, length, slice_index, take, drop, Option, Some, None, Result, Ok, Err, ℤ, pos, refl, sym, ap, ◌∙◌, arith}
use Rattle.std.specs.Bool.{⊤}
use Rattle.std.proofs.lemmas.Int.{ints}
use Rattle.std.proofs.lemmas.Grind.{common_steps}
use Rattle.std.proofs.lemmas.List.{drop-drop, take-append-drop}
use Rattle.std.proofs.lemmas.List.Folds.{length-prefix_len}
use Rattle.std.proofs.Math.Seq.{drop-cons, drop-length}
use Rattle.std.specs.List.{list_all, prefix_len}
use Rattle.jiff_core.specs.Calendar.{days_from_civil, days_in_month, IsCivilDate}
use Rattle.vault_base_time.specs.Moment.{is_digit, two_digits, pair_at, pair_upto, mark_at, is_date, day_number, day_of, seconds_of, digits_in_front, has_other_than_zero, fraction_of, offset_of, second_at, raised, second_of, ◌>>=◌}
use Rattle.vault_base_time.specs.Grammar.{Parts, Offset, fraction_text, offset_text, spelled, ArePartsOfMoment, IsOffset, Spells, second_named}
use Rattle.vault_base_time.specs.declared.moment.MomentFault.{MomentFault}
use Rattle.vault_base_time.specs.declared.moment.MomentFault.TheVariants.{Form}
use Rattle.vault_base_time.proofs.Spelled.{west_of, seconds_off, named}

-- a step that went well, and what followed
went : {A B : Type 0} (r : Result A MomentFault) (f : A → Result B MomentFault) (y : B) → (r >>= f) ≡ Ok y → (x : A) × (r ≡ Ok x) × (f x ≡ Ok y)
went (Ok x) f y e = (x, refl, e)
went (Err e) f y h = absurd (cc h)

-- ---- digits and marks

record IsPair (text : List ℕ) (at n : ℕ) : Type 0 where
  small : n < 100
  tens : slice_index text at ≡ 48 + n / 10
  ones : slice_index text (at + 1) ≡ 48 + n % 10

digit_range : (b : ℕ) → is_digit b ≡ true → (48 ≤ b) × (b ≤ 57)
digit_range b h = grind (arith, common_steps)

both : (a b : Bool) → (a && b) ≡ true → (a ≡ true) × (b ≡ true)
both true true h = (refl, refl)
both true false h = absurd (cc h)
both false b h = absurd (cc h)

two_read : (t : Bool) (a b n : ℕ) → (is_digit a && is_digit b) ≡ t → cond t (Ok (10 * (a - 48) + (b - 48))) (Err Form) ≡ Ok n → (n < 100) × (a ≡ 48 + n / 10) × (b ≡ 48 + n % 10)
two_read true a b n e h =
    let digits = both (is_digit a) (is_digit b) e in
    let ra = digit_range a digits.0 in
    let rb = digit_range b digits.1 in
    let is : 10 * (a - 48) + (b - 48) ≡ n = cc h in
    (omega arith, omega arith, omega arith)
two_read false a b n e h = absurd (cc h)

pair_read : (text : List ℕ) (at n : ℕ) → pair_at text at ≡ Ok n → IsPair text at n
unfolding pair_at
pair_read text at n h =
    let parts = two_read (is_digit (slice_index text at) && is_digit (slice_index text (at + 1))) (slice_index text at) (slice_index text (at + 1)) n refl h in
    record { small = parts.0; tens = parts.1; ones = parts.2 }

within_read : (t : Bool) (n most m : ℕ) → nat_le n most ≡ t → cond t (Ok n) (Err Form) ≡ Ok m → (n ≡ m) × (m ≤ most)
within_read true n most m e h =
    let same : n ≡ m = cc h in
    let le : n ≤ most = grind (arith, common_steps) in
    (same, omega arith)
within_read false n most m e h = absurd (cc h)

pair_upto_read : (text : List ℕ) (at most n : ℕ) → pair_upto text at most ≡ Ok n → IsPair text at n × (n ≤ most)
unfolding pair_upto
pair_upto_read text at most n h =
    let step = went (pair_at text at) (λ n. cond (nat_le n most) (Ok n) (Err Form)) n h in
    let within = within_read (nat_le step.0 most) step.0 most n refl step.2 in
    (rw within.0 at (pair_read text at step.0 step.1), within.1)

same_byte : (t : Bool) (a b : ℕ) (x : ⊤) → (a == b) ≡ t → cond t (Ok tt) (Err Form) ≡ Ok x → a ≡ b
same_byte true a b x e h = grind (arith, common_steps)
same_byte false a b x e h = absurd (cc h)

mark_read : (text : List ℕ) (at byte : ℕ) (x : ⊤) → mark_at text at byte ≡ Ok x → slice_index text at ≡ byte
unfolding mark_at
mark_read text at byte x h = same_byte (slice_index text at == byte) (slice_index text at) byte x refl h

inside : (text : List ℕ) (at : ℕ) → 0 < slice_index text at → at < length text
inside text at h = grind (arith, common_steps)

suc_is : (at : ℕ) → suc at ≡ at + 1
suc_is at = omega arith

peel_mark : (text : List ℕ) (at b : ℕ) → 0 < b → slice_index text at ≡ b → drop at text ≡ b ∷ drop (at + 1) text
peel_mark text at b h e =
    let within : at < length text = inside text at (omega arith) in
    drop-cons text at 0 within ∙ rw (e, suc_is at) refl

peel_pair : (text : List ℕ) (at n : ℕ) → IsPair text at n → drop at text ≡ two_digits n ++ drop (at + 2) text
peel_pair text at n is =
    let two : at + 1 + 1 ≡ at + 2 = omega arith in
    peel_mark text at (48 + n / 10) (omega arith) is.tens ∙ ap (λ r. (48 + n / 10) ∷ r) (peel_mark text (at + 1) (48 + n % 10) (omega arith) is.ones ∙ ap (λ k. (48 + n % 10) ∷ drop k text) two)

-- ---- date and time

record IsDateRead (text : List ℕ) (day : ℤ) : Type 0 where
  century : ℕ
  years : ℕ
  month : ℕ
  days : ℕ
  at0 : IsPair text 0 century
  at2 : IsPair text 2 years
  at4 : slice_index text 4 ≡ 45
  at5 : IsPair text 5 month
  at7 : slice_index text 7 ≡ 45
  at8 : IsPair text 8 days
  number : day_number (100 * century + years) month days ≡ Ok day

date_read : (text : List ℕ) (day : ℤ) → day_of text ≡ Ok day → IsDateRead text day
unfolding day_of
date_read text day h =
    let s0 = went (pair_at text 0) _ day h in
    let s1 = went (pair_at text 2) _ day s0.2 in
    let s2 = went (mark_at text 4 45) _ day s1.2 in
    let s3 = went (pair_at text 5) _ day s2.2 in
    let s4 = went (mark_at text 7 45) _ day s3.2 in
    let s5 = went (pair_at text 8) _ day s4.2 in
    record {
      century = s0.0;
      years = s1.0;
      month = s3.0;
      days = s5.0;
      at0 = pair_read text 0 s0.0 s0.1;
      at2 = pair_read text 2 s1.0 s1.1;
      at4 = mark_read text 4 45 s2.0 s2.1;
      at5 = pair_read text 5 s3.0 s3.1;
      at7 = mark_read text 7 45 s4.0 s4.1;
      at8 = pair_read text 8 s5.0 s5.1;
      number = s5.2;
    }

record IsTimeRead (text : List ℕ) (total : ℕ) : Type 0 where
  hours : ℕ
  minutes : ℕ
  seconds : ℕ
  at10 : slice_index text 10 ≡ 84
  at11 : IsPair text 11 hours × (hours ≤ 23)
  at13 : slice_index text 13 ≡ 58
  at14 : IsPair text 14 minutes × (minutes ≤ 59)
  at16 : slice_index text 16 ≡ 58
  at17 : IsPair text 17 seconds × (seconds ≤ 59)
  sum : 3600 * hours + 60 * minutes + seconds ≡ total

time_read : (text : List ℕ) (total : ℕ) → seconds_of text ≡ Ok total → IsTimeRead text total
unfolding seconds_of
time_read text total h =
    let s0 = went (mark_at text 10 84) _ total h in
    let s1 = went (pair_upto text 11 23) _ total s0.2 in
    let s2 = went (mark_at text 13 58) _ total s1.2 in
    let s3 = went (pair_upto text 14 59) _ total s2.2 in
    let s4 = went (mark_at text 16 58) _ total s3.2 in
    let s5 = went (pair_upto text 17 59) _ total s4.2 in
    record {
      hours = s1.0;
      minutes = s3.0;
      seconds = s5.0;
      at10 = mark_read text 10 84 s0.0 s0.1;
      at11 = pair_upto_read text 11 23 s1.0 s1.1;
      at13 = mark_read text 13 58 s2.0 s2.1;
      at14 = pair_upto_read text 14 59 s3.0 s3.1;
      at16 = mark_read text 16 58 s4.0 s4.1;
      at17 = pair_upto_read text 17 59 s5.0 s5.1;
      sum = cc s5.2;
    }

-- the first nineteen bytes
front : (text : List ℕ) (day : ℤ) (total : ℕ) (date : IsDateRead text day) (time : IsTimeRead text total)
    → text ≡ two_digits date.century ++ two_digits date.years ++ 45 ∷ two_digits date.month ++ 45 ∷ two_digits date.days ++ 84 ∷ two_digits time.hours ++ 58 ∷ two_digits time.minutes ++ 58 ∷ two_digits time.seconds ++ drop 19 text
front text day total d t =
    peel_pair text 0 d.century d.at0 ∙ ap (λ r. two_digits d.century ++ r) (
    peel_pair text 2 d.years d.at2 ∙ ap (λ r. two_digits d.years ++ r) (
    peel_mark text 4 45 (omega arith) d.at4 ∙ ap (λ r. 45 ∷ r) (
    peel_pair text 5 d.month d.at5 ∙ ap (λ r. two_digits d.month ++ r) (
    peel_mark text 7 45 (omega arith) d.at7 ∙ ap (λ r. 45 ∷ r) (
    peel_pair text 8 d.days d.at8 ∙ ap (λ r. two_digits d.days ++ r) (
    peel_mark text 10 84 (omega arith) t.at10 ∙ ap (λ r. 84 ∷ r) (
    peel_pair text 11 t.hours t.at11.0 ∙ ap (λ r. two_digits t.hours ++ r) (
    peel_mark text 13 58 (omega arith) t.at13 ∙ ap (λ r. 58 ∷ r) (
    peel_pair text 14 t.minutes t.at14.0 ∙ ap (λ r. two_digits t.minutes ++ r) (
    peel_mark text 16 58 (omega arith) t.at16 ∙ ap (λ r. 58 ∷ r) (
    peel_pair text 17 t.seconds t.at17.0)))))))))))

-- ---- fraction

first_passes : (t : Bool) (x : ℕ) (xs : List ℕ) → is_digit x ≡ t → list_all is_digit (take (prefix_len is_digit xs) xs) ≡ true → list_all is_digit (take (cond t (1 + prefix_len is_digit xs) 0) (x ∷ xs)) ≡ true
first_passes true x xs e more =
    let one : 1 + prefix_len is_digit xs ≡ suc (prefix_len is_digit xs) = omega arith in
    rw one (rw e more)
first_passes false x xs e more = refl

digits_pass : (xs : List ℕ) → list_all is_digit (take (prefix_len is_digit xs) xs) ≡ true
digits_pass [] = refl
digits_pass (x ∷ xs) = first_passes (is_digit x) x xs refl (digits_pass xs)

record IsFractionRead (rest : List ℕ) (up : Bool) (n : ℕ) : Type 0 where
  digits : List ℕ
  places : length digits ≤ 9
  are : list_all is_digit digits ≡ true
  isnt_zero : has_other_than_zero digits ≡ up
  text : rest ≡ fraction_text digits ++ drop n rest

some_digits : (digits : List ℕ) → 1 ≤ length digits → fraction_text digits ≡ 46 ∷ digits
some_digits [] h = absurd (omega arith)
some_digits (d ∷ digits) h = refl

pointed : (t : Bool) (k : ℕ) (ds : List ℕ) (up : Bool) (n : ℕ) → (nat_le 1 k && nat_le k 9) ≡ t → cond {A = Result (Bool × ℕ) MomentFault} t (Ok (has_other_than_zero (take k ds), k + 1)) (Err Form) ≡ Ok (up, n)
    → (1 ≤ k) × (k ≤ 9) × (has_other_than_zero (take k ds) ≡ up) × (n ≡ k + 1)
pointed true k ds up n e h =
    let low : 1 ≤ k = grind (arith, common_steps) in
    let high : k ≤ 9 = grind (arith, common_steps) in
    let same : ◌≡◌ {A = Bool × ℕ} (has_other_than_zero (take k ds), k + 1) (up, n) = cc h in
    (low, high, ap (λ (p : Bool × ℕ). p.0) same, sym (ap (λ (p : Bool × ℕ). p.1) same))
pointed false k ds up n e h = absurd (cc h)

is_byte : (a b : ℕ) → (a == b) ≡ true → a ≡ b
is_byte a b h = grind (arith, common_steps)

fraction_case : (t : Bool) (rest : List ℕ) (up : Bool) (n : ℕ) → (slice_index rest 0 == 46) ≡ t
    → cond {A = Result (Bool × ℕ) MomentFault} t (cond {A = Result (Bool × ℕ) MomentFault} (nat_le 1 (digits_in_front (drop 1 rest)) && nat_le (digits_in_front (drop 1 rest)) 9) (Ok (has_other_than_zero (take (digits_in_front (drop 1 rest)) (drop 1 rest)), digits_in_front (drop 1 rest) + 1)) (Err Form)) (Ok (false, 0)) ≡ Ok (up, n)
    → IsFractionRead rest up n
fraction_case true rest up n e h =
    let ds = drop 1 rest in
    let k = digits_in_front ds in
    let is = pointed (nat_le 1 k && nat_le k 9) k ds up n refl h in
    let long : length (take k ds) ≡ k = length-prefix_len is_digit ds in
    let point = peel_mark rest 0 46 (omega arith) (is_byte (slice_index rest 0) 46 e) in
    let one : 1 + k ≡ n = omega (arith, is.3) in
    let rest_is : drop k ds ≡ drop n rest = drop-drop k 1 rest ∙ ap (λ m. drop m rest) one in
    record {
      digits = take k ds;
      places = omega (arith, is.1);
      are = digits_pass ds;
      isnt_zero = is.2;
      text = point ∙ ap (λ r. 46 ∷ r) (sym (take-append-drop k ds)) ∙ ap (λ r. 46 ∷ take k ds ++ r) rest_is ∙ ap (λ f. f ++ drop n rest) (sym (some_digits (take k ds) (omega (arith, is.0))));
    }
fraction_case false rest up n e h =
    let same : ◌≡◌ {A = Bool × ℕ} (false, 0) (up, n) = cc h in
    let none : 0 ≡ n = ap (λ (p : Bool × ℕ). p.1) same in
    record { digits = []; places = omega arith; are = refl; isnt_zero = ap (λ (p : Bool × ℕ). p.0) same; text = ap (λ m. drop m rest) none }

fraction_read : (rest : List ℕ) (up : Bool) (n : ℕ) → fraction_of rest ≡ Ok (up, n) → IsFractionRead rest up n
unfolding fraction_of
fraction_read rest up n h = fraction_case (slice_index rest 0 == 46) rest up n refl h

-- ---- offset

record IsOffsetRead (rest : List ℕ) (west : Bool) (off : ℕ) : Type 0 where
  offset : Option Offset
  is : IfSome offset IsOffset
  west_is : west_of offset ≡ west
  off_is : seconds_off offset ≡ off
  text : rest ≡ offset_text offset

nothing_left : (rest : List ℕ) (n : ℕ) → length rest ≡ n → drop n rest ≡ []
nothing_left rest n h = rw (← h) (drop-length rest)

utc : (rest : List ℕ) → ((length rest == 1) && (slice_index rest 0 == 90)) ≡ true → rest ≡ 90 ∷ []
utc rest h =
    let parts = both (length rest == 1) (slice_index rest 0 == 90) h in
    peel_mark rest 0 90 (omega arith) (is_byte _ _ parts.1) ∙ ap (λ r. 90 ∷ r) (nothing_left rest 1 (is_byte _ _ parts.0))

or_false : (a : Bool) → (a || false) ≡ true → a ≡ true
or_false true h = refl
or_false false h = absurd (cc h)

sign_is : (t : Bool) (b : ℕ) → (b == 45) ≡ t → ((b == 43) || t) ≡ true → b ≡ cond t 45 43
sign_is true b e h = is_byte b 45 e
sign_is false b e h = is_byte b 43 (or_false (b == 43) h)

-- '+HH:MM' or '-HH:MM' by its length and its marks, and what its digits say
abbrev is_clock : List ℕ → Bool
is_clock rest = (length rest == 6) && ((slice_index rest 0 == 43) || (slice_index rest 0 == 45)) && (slice_index rest 3 == 58)

abbrev clock_of : List ℕ → Result (Bool × ℕ) MomentFault
clock_of rest = do
  hours ← pair_upto rest 1 23
  minutes ← pair_upto rest 4 59
  Ok (slice_index rest 0 == 45, 3600 * hours + 60 * minutes)

clock : (rest : List ℕ) (west : Bool) (off : ℕ) → is_clock rest ≡ true
    → clock_of rest ≡ Ok (west, off)
    → IsOffsetRead rest west off
clock rest west off test h =
    let parts = both ((length rest == 6) && ((slice_index rest 0 == 43) || (slice_index rest 0 == 45))) (slice_index rest 3 == 58) test in
    let signs = both (length rest == 6) ((slice_index rest 0 == 43) || (slice_index rest 0 == 45)) parts.0 in
    let s0 = went (pair_upto rest 1 23) _ (west, off) h in
    let s1 = went (pair_upto rest 4 59) _ (west, off) s0.2 in
    let hours = pair_upto_read rest 1 23 s0.0 s0.1 in
    let minutes = pair_upto_read rest 4 59 s1.0 s1.1 in
    let sign = sign_is (slice_index rest 0 == 45) (slice_index rest 0) refl signs.1 in
    let same : ◌≡◌ {A = Bool × ℕ} (slice_index rest 0 == 45, 3600 * s0.0 + 60 * s1.0) (west, off) = cc s1.2 in
    let west_is : (slice_index rest 0 == 45) ≡ west = ap (λ (p : Bool × ℕ). p.0) same in
    record {
      offset = Some (record { west = west; hours = s0.0; minutes = s1.0 });
      is = record { hours = hours.1; minutes = minutes.1 };
      west_is = refl;
      off_is = ap (λ (p : Bool × ℕ). p.1) same;
      text =
          peel_mark rest 0 (cond west 45 43) (positive west) (sign ∙ ap (λ w. cond w 45 43) west_is) ∙ ap (λ r. cond west 45 43 ∷ r) (
          peel_pair rest 1 s0.0 hours.0 ∙ ap (λ r. two_digits s0.0 ++ r) (
          peel_mark rest 3 58 (omega arith) (is_byte (slice_index rest 3) 58 parts.1) ∙ ap (λ r. 58 ∷ r) (
          peel_pair rest 4 s1.0 minutes.0 ∙ ap (λ r. two_digits s1.0 ++ r) (nothing_left rest 6 (is_byte (length rest) 6 signs.0)))));
    }
  where
    positive : (w : Bool) → 0 < cond w 45 43
    positive true = omega arith
    positive false = omega arith

clock_case : (t : Bool) (rest : List ℕ) (west : Bool) (off : ℕ) → is_clock rest ≡ t
    → cond {A = Result (Bool × ℕ) MomentFault} t (clock_of rest) (Err Form) ≡ Ok (west, off)
    → IsOffsetRead rest west off
clock_case true rest west off e h = clock rest west off e h
clock_case false rest west off e h = absurd (cc h)

offset_case : (t : Bool) (rest : List ℕ) (west : Bool) (off : ℕ) → ((length rest == 1) && (slice_index rest 0 == 90)) ≡ t
    → cond {A = Result (Bool × ℕ) MomentFault} t (Ok (false, 0)) (cond {A = Result (Bool × ℕ) MomentFault} (is_clock rest) (clock_of rest) (Err Form)) ≡ Ok (west, off)
    → IsOffsetRead rest west off
offset_case true rest west off e h =
    let same : ◌≡◌ {A = Bool × ℕ} (false, 0) (west, off) = cc h in
    record { offset = None; is = tt; west_is = ap (λ (p : Bool × ℕ). p.0) same; off_is = ap (λ (p : Bool × ℕ). p.1) same; text = utc rest e }
offset_case false rest west off e h = clock_case _ rest west off refl h

offset_read : (rest : List ℕ) (west : Bool) (off : ℕ) → offset_of rest ≡ Ok (west, off) → IsOffsetRead rest west off
unfolding offset_of
offset_read rest west off h = offset_case ((length rest == 1) && (slice_index rest 0 == 90)) rest west off refl h

-- ---- the whole text

date_there : (t : Bool) (y m d : ℕ) (day : ℤ) → is_date y m d ≡ t → cond t (Ok (days_from_civil (pos y) m d)) (Err Form) ≡ Ok day → (is_date y m d ≡ true) × (days_from_civil (pos y) m d ≡ day)
date_there true y m d day e h = (e, cc h)
date_there false y m d day e h = absurd (cc h)

date_is : (y m d : ℕ) (day : ℤ) → day_number y m d ≡ Ok day → (is_date y m d ≡ true) × (days_from_civil (pos y) m d ≡ day)
unfolding day_number
date_is y m d day h = date_there (is_date y m d) y m d day refl h

civil : (y m d : ℕ) → y < 10000 → is_date y m d ≡ true → IsCivilDate (pos y) m d
civil y m d small h =
    let month : (1 ≤ m) × (m ≤ 12) = grind (arith, common_steps) in
    let days : (1 ≤ d) × (d ≤ days_in_month (pos y) m) = grind (arith, common_steps) in
    (omega (arith, ints), month, days)

assembled : (text : List ℕ) (p : Parts) (c y : ℕ) → c ≡ p.year / 100 → y ≡ p.year % 100
    → text ≡ two_digits c ++ two_digits y ++ 45 ∷ two_digits p.month ++ 45 ∷ two_digits p.day ++ 84 ∷ two_digits p.hours ++ 58 ∷ two_digits p.minutes ++ 58 ∷ two_digits p.seconds ++ drop 19 text
    → drop 19 text ≡ fraction_text p.fraction ++ offset_text p.offset → text ≡ spelled p
unfolding spelled
assembled text p c y ec ey front rest = front ∙ rw (ec, ey, rest) refl

same_second : (day : ℤ) (s s' : ℕ) (up up' west west' : Bool) (off off' : ℕ) → s' ≡ s → up' ≡ up → west' ≡ west → off' ≡ off → second_at day (raised s up) west off ≡ second_at day (raised s' up') west' off'
same_second day s s' up up' west west' off off' es eu ew eo = rw (es, eu, ew, eo) refl

ok_same : {X : Type 0} (x y : X) → ◌≡◌ {A = Result X MomentFault} (Ok x) (Ok y) → x ≡ y
ok_same x y h = cc h

pub second_read : (text : List ℕ) (second : ℤ) → second_of text ≡ Ok second → (p : Parts) × Spells text p × (second ≡ second_named p)
unfolding second_of
second_read text second h =
    let s0 = went (day_of text) _ second h in
    let s1 = went (seconds_of text) _ second s0.2 in
    let s2 = went (fraction_of (drop 19 text)) _ second s1.2 in
    let s3 = went (offset_of (drop (19 + s2.0.1) text)) _ second s2.2 in
    let date = date_read text s0.0 s0.1 in
    let time = time_read text s1.0 s1.1 in
    let fraction = fraction_read (drop 19 text) s2.0.0 s2.0.1 s2.1 in
    let offset = offset_read (drop (19 + s2.0.1) text) s3.0.0 s3.0.1 s3.1 in
    let number = date_is (100 * date.century + date.years) date.month date.days s0.0 date.number in
    let small : 100 * date.century + date.years < 10000 = omega (arith, date.at0.small, date.at2.small) in
    let century : date.century ≡ (100 * date.century + date.years) / 100 = omega (arith, date.at0.small, date.at2.small) in
    let years : date.years ≡ (100 * date.century + date.years) % 100 = omega (arith, date.at0.small, date.at2.small) in
    let rest : drop 19 text ≡ fraction_text fraction.digits ++ offset_text offset.offset = fraction.text ∙ ap (λ r. fraction_text fraction.digits ++ r) (drop-drop s2.0.1 19 text ∙ offset.text) in
    let p : Parts = record { year = 100 * date.century + date.years; month = date.month; day = date.days; hours = time.hours; minutes = time.minutes; seconds = time.seconds; fraction = fraction.digits; offset = offset.offset } in
    let are : ArePartsOfMoment p = record { year = small; date = civil _ _ _ small number.0; hours = time.at11.1; minutes = time.at14.1; seconds = time.at17.1; places = fraction.places; digits = fraction.are; offset = offset.is } in (
      p,
      record { are = are; same = assembled text p date.century date.years century years (front text s0.0 s1.0 date time) rest },
      sym (ok_same _ _ s3.2) ∙ same_second s0.0 _ _ _ _ _ _ _ _ time.sum fraction.isnt_zero offset.west_is offset.off_is ∙ named s0.0 p (sym number.1),
    )
