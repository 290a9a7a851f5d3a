-- How values compare in WHERE and ORDER BY.
use Rattle.std.proofs.Common.{◌≡◌, ◌<◌, ◌==◌, ℕ, pos, List, Bool, true, false, not, Option, None, Some, Less, Equal, refl, ap, ◌∙◌, arith}
use Rattle.std.specs.Prelude.{is_none, nat_lt}
use Rattle.std.specs.Ordering.{int_cmp, nat_cmp, is_ne, is_lt, is_gt, ordering_then}
use Rattle.std.specs.Cmp.Lexicographic.{slice_cmp}
use Rattle.std.proofs.lemmas.Bool.Decides.{nat_tests}
use Rattle.sqlite_value.specs.declared.value.Value.TheVariants.{Null, Text}
use Rattle.sqlite_value.specs.declared.keys.Collation.TheVariants.{Binary}
use Rattle.sqlite_value.specs.Order.{value_cmp}
use Rattle.sqlite_value.proofs.OrderLemmas.{value_cmp-Int, value_cmp-Text, value_cmp-Null}
use Rattle.sqlite_sql.specs.declared.ops.BinaryOp.TheVariants.{Compare, Is}
use Rattle.sqlite_sql.specs.declared.ops.UnaryOp.TheVariants.{Not}
use Rattle.sqlite_sql.specs.declared.ops.CompareOp.TheVariants.{Ne, Lt, Gt}
use Rattle.sqlite_sql.specs.Ops.{unary, binary, is_true, from_truth, not3, truth}
use Rattle.vault_core_model.specs.declared.records.Removal.{Removal}
use Rattle.vault_audit_model.specs.Rows.{removal_at}
use Rattle.vault_audit_model.specs.Values.{number}
use Rattle.vault_audit_model.proofs.ValueLemmas.{truth_back, null_removal, int_less}

pub later_text : (a b : List ℕ) → is_true (binary (Compare Gt Binary) (Text a) (Text b)) ≡ is_gt (slice_cmp nat_cmp a b)
unfolding binary
later_text a b = truth_back _ ∙ ap is_gt (value_cmp-Text a b)

other_int : (a b : ℕ) → is_ne (int_cmp (pos a) (pos b)) ≡ not (a == b)
other_int a b = grind arith

pub other_number : (a b : ℕ) → is_true (binary (Compare Ne Binary) (number a) (number b)) ≡ not (a == b)
unfolding binary
other_number a b = truth_back _ ∙ ap is_ne (value_cmp-Int (pos a) (pos b)) ∙ other_int a b

pub lower_int : (a b : ℕ) → is_lt (int_cmp (pos a) (pos b)) ≡ nat_lt a b
lower_int a b = grind (arith, nat_tests)

pub lower_number : (a b : ℕ) → is_true (binary (Compare Lt Binary) (number a) (number b)) ≡ nat_lt a b
unfolding binary
lower_number a b = truth_back _ ∙ ap is_lt (value_cmp-Int (pos a) (pos b)) ∙ lower_int a b

turned : (b : Bool) → is_true (from_truth (not3 (truth (from_truth (Some b))))) ≡ not b
turned true = refl
turned false = refl

pub some_removed : (r : Option Removal) → is_true (unary Not (binary (Is Binary) (removal_at r) Null)) ≡ not (is_none r)
unfolding unary binary
some_removed r = turned _ ∙ ap not (null_removal r)

-- what is held has no moment of removal
pub null_if_held : (r : Option Removal) → is_none r ≡ true → removal_at r ≡ Null
null_if_held None is = refl
null_if_held (Some r) is = absurd (cc is)

-- ---- in order

pub number_less : (a b : ℕ) → a < b → ordering_then (value_cmp (number a) (number b)) Equal ≡ Less
number_less a b low = ap (λ o. ordering_then o Equal) (value_cmp-Int (pos a) (pos b) ∙ int_less a b low)

-- what is NULL in both is distinguished by the number after it
pub null_then_less : (a b : ℕ) → a < b → ordering_then (value_cmp Null Null) (ordering_then (value_cmp (number a) (number b)) Equal) ≡ Less
null_then_less a b low = ap (λ o. ordering_then o (ordering_then (value_cmp (number a) (number b)) Equal)) (value_cmp-Null Null) ∙ number_less a b low

pub text_less : (a b : List ℕ) → slice_cmp nat_cmp a b ≡ Less → ordering_then (value_cmp (Text a) (Text b)) Equal ≡ Less
text_less a b low = ap (λ o. ordering_then o Equal) (value_cmp-Text a b ∙ low)
