-- Rights that are given, and the number of a caller's rights.
use Rattle.std.proofs.Common.{◌≡◌, ◌<◌, ◌≤◌, ◌+◌, ◌*◌, ◌/◌, ◌%◌, ◌==◌, ◌^◌, ℕ, suc, Bool, true, false, List, [], ◌∷◌, length, map, get_or, refl, sym, ◌∙◌, ap, arith}
use Rattle.std.specs.Prelude.{◌||◌, if◌then◌else◌}
use Rattle.std.specs.List.{list_any}
use Rattle.std.specs.Str.{bytes_eq}
use native.Mathlib.Numerals.{unary_clauses}
use Rattle.std.proofs.lemmas.Bool.Decides.{nat_tests}
use Rattle.std.proofs.lemmas.Slice.Eq.{bytes_eq-Decides}
use Rattle.std.proofs.Math.Pow.{pow_mono}
use Rattle.vault_base.specs.Right.{right_name, rights}
use Rattle.vault_base.specs.declared.right.Right.{Right}
use Rattle.vault_base.specs.declared.right.Right.TheVariants as right
use Rattle.vault_core_model.specs.Rights.{has, no_rights, with_right, digits_number, with_digits, rights_number}
use Rattle.vault_core_model.specs.declared.rights.Rights.{Rights}

or-true : (b : Bool) → b || true ≡ true
or-true true = refl
or-true false = refl

or-false : (b : Bool) → b || false ≡ b
or-false true = refl
or-false false = refl

-- a right that is added is the only one that changes
pub has-with_right : (q r : Right) (held : Rights) → has (with_right q held) r ≡ has held r || bytes_eq (right_name q) (right_name r)
has-with_right right.Admin right.Admin held = sym (or-true held.admin)
has-with_right right.Config right.Config held = sym (or-true held.config)
has-with_right right.Put right.Put held = sym (or-true held.put)
has-with_right right.Retain right.Retain held = sym (or-true held.retain)
has-with_right right.Hold right.Hold held = sym (or-true held.hold)
has-with_right right.Get right.Get held = sym (or-true held.get)
has-with_right right.List right.List held = sym (or-true held.list)
has-with_right right.Delete right.Delete held = sym (or-true held.delete)
has-with_right right.DeleteVersion right.DeleteVersion held = sym (or-true held.delete_version)
has-with_right right.Run right.Run held = sym (or-true held.run)
has-with_right right.Report right.Report held = sym (or-true held.report)
has-with_right right.Bypass right.Bypass held = sym (or-true held.bypass)
has-with_right q r held = sym (or-false (has held r))

pub has-no_rights : (r : Right) → has no_rights r ≡ false
has-no_rights right.Admin = refl
has-no_rights right.Config = refl
has-no_rights right.Put = refl
has-no_rights right.Retain = refl
has-no_rights right.Hold = refl
has-no_rights right.Get = refl
has-no_rights right.List = refl
has-no_rights right.Delete = refl
has-no_rights right.DeleteVersion = refl
has-no_rights right.Run = refl
has-no_rights right.Report = refl
has-no_rights right.Bypass = refl

-- rights are the same where each right is in both or in neither
pub same-digits : (a b : Rights) → map (has a) rights ≡ map (has b) rights → a ≡ b
same-digits a b same =
    let at = λ (n : ℕ). ap (λ digits. get_or digits n false) same in
    rw (at 0, at 1, at 2, at 3, at 4, at 5, at 6, at 7, at 8, at 9, at 10, at 11) refl

pub same-rights : (a b : Rights) → ((r : Right) → has a r ≡ has b r) → a ≡ b
same-rights a b each = same-digits a b (over rights)
  where
    over : (rs : List Right) → map (has a) rs ≡ map (has b) rs
    over [] = refl
    over (r ∷ rs) = rw (each r, over rs) refl

-- ---- distinct rights

-- two rights of one name
abbrev are_same : Right → Right → Bool
are_same q r = bytes_eq (right_name q) (right_name r) || bytes_eq (right_name r) (right_name q)

abbrev is_among : Right → List Right → Bool
is_among q rs = list_any (are_same q) rs

-- each stands there once
abbrev has_twice : List Right → Bool
has_twice [] = false
has_twice (r ∷ rs) = is_among r rs || has_twice rs

or-left : (a b : Bool) → a || b ≡ false → a ≡ false
or-left false b e = refl
or-left true b e = e

or-right : (a b : Bool) → a || b ≡ false → b ≡ false
or-right false b e = e
or-right true b e = absurd cc

if-added : (b : Bool) (q r : Right) (held : Rights) → are_same r q ≡ false → has held r ≡ false → has (if b then with_right q held else held) r ≡ false
if-added true q r held other e =
    let apart : bytes_eq (right_name q) (right_name r) ≡ false = or-right _ _ other in
    has-with_right q r held ∙ rw (e, apart) refl
if-added false q r held other e = e

-- a right that isn't among these isn't given
not-given : (rs : List Right) (n : ℕ) (r : Right) → is_among r rs ≡ false → has (with_digits rs n) r ≡ false
not-given [] n r other = has-no_rights r
not-given (q ∷ rs) n r other = if-added (n % 2 == 1) q r (with_digits rs (n / 2)) (or-left _ _ other) (not-given rs (n / 2) r (or-right _ _ other))

-- a right that isn't among these changes none of them
others-stay : (rs : List Right) (q : Right) (held : Rights) → is_among q rs ≡ false → map (has (with_right q held)) rs ≡ map (has held) rs
others-stay [] q held other = refl
others-stay (r ∷ rs) q held other =
    let apart : bytes_eq (right_name q) (right_name r) ≡ false = or-left _ _ (or-left _ _ other) in
    let here : has (with_right q held) r ≡ has held r = has-with_right q r held ∙ rw apart (or-false (has held r)) in
    let rest : is_among q rs ≡ false = or-right _ _ other in
    rw (here, others-stay rs q held rest) refl

is-added : (q : Right) (held : Rights) → has held q ≡ false → has (with_right q held) q ≡ true
is-added q held e = has-with_right q q held ∙ rw (e, (bytes_eq-Decides (right_name q) (right_name q)).1 refl) refl

-- ---- digits

doubles : (k : ℕ) → 2 ^ suc k ≡ 2 * 2 ^ k
doubles k = simp unary_clauses (omega arith)

digit : (b : Bool) (q : Right) (rs : List Right) (held : Rights) (m n : ℕ) → has held q ≡ false → is_among q rs ≡ false → digits_number (map (has held) rs) ≡ m → (b ≡ true → n ≡ 1 + 2 * m) → (b ≡ false → n ≡ 2 * m) → digits_number (map (has (if b then with_right q held else held)) (q ∷ rs)) ≡ n
digit true q rs held m n new other e odd even = rw (is-added q held new, others-stay rs q held other, e) (sym (odd refl))
digit false q rs held m n new other e odd even = rw (new, e) (sym (even refl))

-- the digits of a number give its rights
pub digits-given : (rs : List Right) (n : ℕ) → has_twice rs ≡ false → n < 2 ^ length rs → digits_number (map (has (with_digits rs n)) rs) ≡ n
digits-given [] n once low = omega (arith, low)
digits-given (q ∷ rs) n once low =
    digit (n % 2 == 1) q rs (with_digits rs (n / 2)) (n / 2) n (not-given rs (n / 2) q (or-left _ _ once)) (or-left _ _ once)
    (digits-given rs (n / 2) (or-right _ _ once) (half n (length rs) low))
    (odd n) (even n)
  where
    half : (n k : ℕ) → n < 2 ^ suc k → n / 2 < 2 ^ k
    half n k low = omega (arith, low, doubles k)

    odd : (n : ℕ) → (n % 2 == 1) ≡ true → n ≡ 1 + 2 * (n / 2)
    odd n e = grind (arith, nat_tests)

    even : (n : ℕ) → (n % 2 == 1) ≡ false → n ≡ 2 * (n / 2)
    even n e = grind (arith, nat_tests)

pub of_number : (n : ℕ) → n < 2 ^ length rights → rights_number (with_digits rights n) ≡ n
unfolding rights_number
of_number n low = digits-given rights n refl low

pub digits-below : (digits : List Bool) → digits_number digits < 2 ^ length digits
digits-below [] = omega arith
digits-below (true ∷ digits) = let later = digits-below digits in omega (arith, later, doubles (length digits))
digits-below (false ∷ digits) = let later = digits-below digits in omega (arith, later, doubles (length digits))

pub is_below : (r : Rights) → rights_number r < 2 ^ length rights
unfolding rights_number
is_below r = digits-below (map (has r) rights)

-- 32 digits fit in a `u32`
pub fits : (k : ℕ) → suc k ≤ 32 → 2 ^ k ≤ 2 ^ 31
fits k few = pow_mono {i = k} {j = 31} (omega (arith, few))
