-- What `parse` answers at a numeral.
use Rattle.std.proofs.Common.{◌≡◌, ℕ, ◌<◌, ◌^◌, true, List, [], ◌∷◌, length, Err, Some, None, inl, inr, arith, rules, ◌≤◌, ◌&&◌, Bool, false, cond, slice_index, Ok, refl, sym, ap, ◌∙◌}
use Rattle.std.proofs.lemmas.Grind.{common_steps}
use Rattle.std.proofs.lemmas.Bool.{cases_lt}
use Rattle.std.proofs.lemmas.Str.Parse.{IsNumeralModel, numerals_by_value, parse_digits, digit_at}
use Rattle.std.specs.Str.Parse.{ParsesUnsigned, digits_value}
use Rattle.std.specs.Fmt.{decimal}
use Rattle.std.proofs.lemmas.Fmt.{digits_decimal, digits_value-decimal, decimal-digits_value, decimal_is_IsNumeral, decimal_nonempty, first_decimal}
use Rattle.vault_base.specs.Limits.{most_ids}
use Rattle.vault_base.specs.Name.{is_from, is_version_id, version_id_of, has_digits, is_numeral, version_number}

numerals : IsNumeralModel (λ ds. has_digits ds ≡ true) (digits_value 10)
numerals = numerals_by_value _ (search rules)

has_length : (bs : List ℕ) → is_numeral bs ≡ true → 0 < length bs
has_length [] h = absurd (cc h)
has_length (b ∷ bs) h = omega arith

all_digits : (bs : List ℕ) → is_numeral bs ≡ true → has_digits bs ≡ true
all_digits bs h = grind (arith, common_steps)

-- a numeral that doesn't fit 32 bits is no version id
pub version_number_unread : {E : Type 0} (e : E) (bs : List ℕ) → is_numeral bs ≡ true → ParsesUnsigned 32 10 bs (Err e) → None ≡ version_number bs
version_number_unread e bs is h =
    let great = parse_digits numerals 32 bs (Err e) h (all_digits bs is) in
    elim (cases_lt (digits_value 10 bs) (2 ^ 32)) [
      | inl lt ↦ absurd (great (has_length bs is, lt))
      | inr le ↦ (grind (arith, common_steps))
    ]

-- ---- ids in print

first_is : (n : ℕ) → 0 < n → n < 2 ^ 64 → is_from 49 57 (slice_index (decimal n) 0) ≡ true
first_is n pos fits =
    let low : 48 < slice_index (decimal n) 0 = first_decimal n pos fits in
    let digit = digit_at (decimal n) 0 (decimal_is_IsNumeral n fits).0.1 (decimal_nonempty n fits) in
    let high : slice_index (decimal n) 0 ≤ 57 = omega (arith, digit) in
    grind (arith, common_steps)

id_range : (n : ℕ) → is_version_id n ≡ true → (1 ≤ n) × (n ≤ most_ids)
id_range n h = grind (arith, common_steps)

-- an id is read from its decimal text
pub version_id_reads_back : (n : ℕ) → is_version_id n ≡ true → version_id_of (decimal n) ≡ Ok n
version_id_reads_back n h =
    let range = id_range n h in
    let fits : n < 2 ^ 64 = omega (arith, range) in
    let digits : has_digits (decimal n) ≡ true = digits_decimal numerals n fits in
    rw (first_is n (omega (arith, range)) fits, digits, digits_value-decimal numerals n fits, h) refl

read_is : (t : Bool) (bs : List ℕ) (n : ℕ) → (is_numeral bs && is_version_id (digits_value 10 bs)) ≡ t → Some n ≡ cond t (Some (digits_value 10 bs)) None → bs ≡ decimal n
read_is true bs n test h =
    let numeral : is_numeral bs ≡ true = grind (arith, common_steps) in
    let small : is_version_id (digits_value 10 bs) ≡ true = grind (arith, common_steps) in
    let range = id_range (digits_value 10 bs) small in
    let same : digits_value 10 bs ≡ n = cc h in
    let first : 49 ≤ slice_index bs 0 = grind (arith, common_steps) in
    sym (decimal-digits_value numerals bs (all_digits bs numeral) (has_length bs numeral) (λ zero. absurd (omega (arith, zero))) (omega (arith, range))) ∙ ap decimal same
read_is false bs n test h = absurd (cc h)

-- and from no other
pub version_number_is_decimal : (bs : List ℕ) (n : ℕ) → Some n ≡ version_number bs → bs ≡ decimal n
version_number_is_decimal bs n h = read_is _ bs n refl h
