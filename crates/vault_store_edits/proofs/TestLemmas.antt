-- A comparison in a statement is the test of the same value.
use Rattle.std.proofs.Common.{◌≡◌, ◌≢◌, ℕ, ℤ, pos, negsuc, List, Bool, true, false, refl, ap, ◌∙◌, arith}
use Rattle.std.specs.Ordering.{is_eq}
use Rattle.std.proofs.lemmas.Int.{ints}
use Rattle.std.proofs.lemmas.Map.Text.{is_eq-slice_cmp}
use Rattle.std.proofs.lemmas.Bool.Decides.{nat_tests}
use Rattle.sqlite_value.specs.declared.value.Value.{Value}
use Rattle.sqlite_value.specs.declared.value.Value.TheVariants.{Null, Int, Real, Text, Blob}
use Rattle.sqlite_value.specs.Order.{class, value_cmp}
use Rattle.sqlite_value.proofs.OrderLemmas.{value_cmp-Int, value_cmp-Text, value_cmp-apart}
use Rattle.sqlite_sql.specs.Ops.{binary, is_null}
use Rattle.vault_audit_model.specs.Values.{number}
use Rattle.vault_audit_model.proofs.ValueLemmas.{agrees, truth_back}
use Rattle.vault_store_model.specs.Tests.{is_text, is_number}

pub agrees_as : (u v : Value) → is_null u ≡ false → is_null v ≡ false → agrees u v ≡ is_eq (value_cmp u v)
unfolding binary
agrees_as u v p q = rw (p, q) (truth_back (is_eq (value_cmp u v)))

pub null_never : (v : Value) → agrees Null v ≡ false
unfolding binary
null_never v = refl

apart_classes : (u v : Value) → class u ≢ class v → is_eq (value_cmp u v) ≡ false
apart_classes u v apart = ap is_eq (value_cmp-apart u v apart) ∙ grind (arith, nat_tests)

pub text_test : (text : List ℕ) (v : Value) → agrees v (Text text) ≡ is_text text v
text_test text Null = null_never (Text text)
text_test text (Int n) = agrees_as (Int n) (Text text) refl refl ∙ apart_classes (Int n) (Text text) (omega arith)
text_test text (Real x) = agrees_as (Real x) (Text text) refl refl ∙ apart_classes (Real x) (Text text) (omega arith)
text_test text (Text own) = agrees_as (Text own) (Text text) refl refl ∙ ap is_eq (value_cmp-Text own text) ∙ is_eq-slice_cmp own text
text_test text (Blob b) = agrees_as (Blob b) (Text text) refl refl ∙ apart_classes (Blob b) (Text text) (omega arith)

pub int_test : (n : ℕ) (id : ℤ) → agrees (Int id) (number n) ≡ is_number n (Int id)
int_test n (pos m) = agrees_as (Int (pos m)) (number n) refl refl ∙ ap is_eq (value_cmp-Int (pos m) (pos n)) ∙ grind (arith, nat_tests)
int_test n (negsuc m) = agrees_as (Int (negsuc m)) (number n) refl refl ∙ ap is_eq (value_cmp-Int (negsuc m) (pos n)) ∙ grind (arith, ints)

-- whole numbers that agree are those that the test finds
pub number_test : (n : ℕ) (v : Value) → (agrees v (number n) ≡ true → (id : ℤ) × (v ≡ Int id)) → agrees v (number n) ≡ is_number n v
number_test n Null whole = null_never (number n)
number_test n (Int id) whole = int_test n id
number_test n (Real x) whole = by (agrees (Real x) (number n)) whole
  where
    by : (b : Bool) → (b ≡ true → (id : ℤ) × (◌≡◌ {A = Value} (Real x) (Int id))) → b ≡ false
    by true h = absurd (let e = (h refl).1 in cc)
    by false h = refl
number_test n (Text t) whole = agrees_as (Text t) (number n) refl refl ∙ apart_classes (Text t) (number n) (omega arith)
number_test n (Blob b) whole = agrees_as (Blob b) (number n) refl refl ∙ apart_classes (Blob b) (number n) (omega arith)

-- the row with that rowid is the one that a query by it finds
pub rowid_found : (id : ℤ) (v : Value) → is_eq (value_cmp v (Int id)) ≡ true → agrees v (Int id) ≡ true
rowid_found id Null same = absurd (let no = apart_classes Null (Int id) (omega arith) in cc)
rowid_found id (Int n) same = agrees_as (Int n) (Int id) refl refl ∙ same
rowid_found id (Real x) same = agrees_as (Real x) (Int id) refl refl ∙ same
rowid_found id (Text t) same = agrees_as (Text t) (Int id) refl refl ∙ same
rowid_found id (Blob b) same = agrees_as (Blob b) (Int id) refl refl ∙ same
