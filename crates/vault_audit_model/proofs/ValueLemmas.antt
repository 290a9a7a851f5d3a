-- How values compare in WHERE and ORDER BY, and which a column takes as they are.
use Rattle.std.proofs.Common.{◌≡◌, ◌<◌, ◌==◌, ◌&&◌, ℕ, ℤ, pos, List, Bool, true, false, cond, Option, Some, None, Less, refl, sym, ap, ◌∙◌, arith}
use Rattle.std.specs.Prelude.{is_none}
use Rattle.std.specs.Ordering.{int_cmp, is_eq}
use Rattle.std.specs.Str.{bytes_eq}
use Rattle.std.proofs.lemmas.Map.Text.{is_eq-slice_cmp}
use Rattle.sqlite_value.specs.declared.value.Value.{Value}
use Rattle.sqlite_value.specs.declared.value.Value.TheVariants.{Null, Int, Text}
use Rattle.sqlite_value.specs.declared.keys.Collation.TheVariants.{Binary}
use Rattle.sqlite_value.specs.Order.{value_cmp}
use Rattle.sqlite_value.proofs.OrderLemmas.{value_cmp-Int, value_cmp-Text, value_cmp-apart, value_cmp-Null}
use Rattle.sqlite_sql.specs.declared.ops.BinaryOp.TheVariants.{Compare, Is}
use Rattle.sqlite_sql.specs.declared.ops.CompareOp.TheVariants.{Eq}
use Rattle.sqlite_sql.specs.Ops.{unary, binary, is_true, from_truth}
use Rattle.sqlite_schema.specs.declared.schema.Kind.TheVariants as kind
use Rattle.sqlite.specs.Cast.{cast}
use Rattle.vault_core_model.specs.declared.records.Removal.{Removal}
use Rattle.vault_audit_model.specs.Rows.{removal_at}
use Rattle.vault_audit_model.specs.Values.{number}

-- ---- tests

-- the two values are the same, and not NULL
abbrev pub agrees : Value → Value → Bool
agrees u v = is_true (binary (Compare Eq Binary) u v)

pub truth_back : (b : Bool) → is_true (from_truth (Some b)) ≡ b
truth_back true = refl
truth_back false = refl

pub same_text : (a b : List ℕ) → is_true (binary (Compare Eq Binary) (Text a) (Text b)) ≡ bytes_eq a b
unfolding binary
same_text a b = truth_back _ ∙ ap is_eq (value_cmp-Text a b) ∙ is_eq-slice_cmp a b

same_int : (a b : ℕ) → is_eq (int_cmp (pos a) (pos b)) ≡ (a == b)
same_int a b = grind arith

pub same_number : (a b : ℕ) → is_true (binary (Compare Eq Binary) (number a) (number b)) ≡ (a == b)
unfolding binary
same_number a b = truth_back _ ∙ ap is_eq (value_cmp-Int (pos a) (pos b)) ∙ same_int a b

pub null_removal : (r : Option Removal) → is_eq (value_cmp (removal_at r) Null) ≡ is_none r
null_removal None = ap is_eq (value_cmp-Null Null)
null_removal (Some r) = ap is_eq (value_cmp-apart (number r.at) Null (λ e. absurd (omega (arith, e))))

-- what is held has no moment of removal
pub none_removed : (r : Option Removal) → is_true (binary (Is Binary) (removal_at r) Null) ≡ is_none r
unfolding binary
none_removed r = truth_back _ ∙ null_removal r

-- three tests, each of which is another
pub three : (a b c d e f : Bool) → a ≡ d → b ≡ e → c ≡ f → (a && (b && (c && true))) ≡ (d && (e && f))
three a b true d e f p q r = rw (p, q, sym r) refl
three a b false d e f p q r = rw (p, q, sym r) refl

-- ---- order

pub int_less : (a b : ℕ) → a < b → int_cmp (pos a) (pos b) ≡ Less
int_less a b low = grind arith

-- ---- columns of numbers

either : (b : Bool) (x : Value) → cond b x x ≡ x
either true x = refl
either false x = refl

pub cast_null : cast kind.Integer Null ≡ Null
unfolding unary
cast_null = either _ Null

pub cast_int : (n : ℤ) → cast kind.Integer (Int n) ≡ Int n
unfolding unary
cast_int n = either _ (Int n)
