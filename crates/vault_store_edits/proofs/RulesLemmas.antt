-- Rules that are put in one after another.
use Rattle.std.proofs.Common.{◌≡◌, ◌==◌, ◌<◌, ◌+◌, ℕ, List, [], ◌∷◌, ◌++◌, length, map, take, get_or, Bool, true, false, cond, IsTrue, refl, sym, ap, subst, subst₂, ◌∙◌, arith}
use Rattle.std.specs.Prelude.{IsPermutation}
use Rattle.std.specs.List.{AllByRecursion}
use Rattle.std.proofs.lemmas.List.{map-append, take_more, length-take-le}
use Rattle.std.proofs.lemmas.List.Sorted.{IsPermutation-refl}
use Rattle.sqlite_value.specs.Order.{Row}
use Rattle.sqlite.specs.State.{State, KeepsCommit}
use Rattle.vault_base.specs.declared.refusal.Table.{Table}
use Rattle.vault_base.specs.declared.refusal.Table.TheVariants as table
use Rattle.vault_rules.specs.declared.rule.Rule.{Rule}
use Rattle.vault_audit_model.specs.declared.rows.RuleRow.{RuleRow}
use Rattle.vault_audit_model.specs.Order.{place_of}
use Rattle.vault_audit_model.specs.Rows.{rule_row}
use Rattle.vault_audit_model.specs.Spells.{rules_from}
use Rattle.vault_store_model.specs.Rows.{Rows, rows_in}
use Rattle.vault_store_model.specs.Edits.{with_row, and_then, Edits, pushed, with_each}
use Rattle.vault_store_edits.specs.Typed.{IsTypedRule}

pushed_one : (xs : List Row) (r : Row) (rows : List Row) → pushed (xs ++ r ∷ []) rows ≡ r ∷ pushed xs rows
pushed_one [] r rows = refl
pushed_one (x ∷ xs) r rows = pushed_one xs r (x ∷ rows)

by_table : (b : Bool) (xs : List Row) (r : Row) (rows : List Row) → cond b (pushed (xs ++ r ∷ []) rows) rows ≡ cond b (r ∷ cond b (pushed xs rows) rows) (cond b (pushed xs rows) rows)
by_table true xs r rows = pushed_one xs r rows
by_table false xs r rows = refl

-- a row after the others
pub one_row_more : (t : Table) (xs : List Row) (r : Row) → with_each t (xs ++ r ∷ []) ≡ and_then (with_each t xs) (with_row t r)
one_row_more t xs r = λ i rows s. by_table (place_of t == place_of s) xs r (rows s) i

none_pushed : (b : Bool) (rows : List Row) → rows ≡ cond b rows rows
none_pushed true rows = refl
none_pushed false rows = refl

-- no row is no edit
pub no_rows : (t : Table) (s : State) → IsTrue s.is_open → IsTrue s.in_transaction → (external : Bool) → Edits external s s (with_each t [])
no_rows t s is_open inside external = record {
  was_open = is_open;
  is_open = is_open;
  inside = inside;
  committed = refl;
  schema = λ has. has;
  rows = λ has u. subst (λ l. IsPermutation l (rows_in external s.now u)) (none_pushed (place_of t == place_of u) (rows_in external s.now u)) (IsPermutation-refl (rows_in external s.now u));
  ignores = λ xs ys same u. subst₂ (λ (l m : List Row). IsPermutation l m) (none_pushed (place_of t == place_of u) (xs u)) (none_pushed (place_of t == place_of u) (ys u)) (same u);
}

rule_after : (bucket : List ℕ) (place : ℕ) (rules : List Rule) (rule : Rule) (at : ℕ) → at ≡ place + length rules → rules_from bucket place (rules ++ rule ∷ []) ≡ rules_from bucket place rules ++ record { bucket = bucket; place = at; rule = rule } ∷ []
rule_after bucket place [] rule at is = ap (λ n. record { bucket = bucket; place = n; rule = rule } ∷ []) (omega (arith, is))
rule_after bucket place (r ∷ rs) rule at is = ap (λ l. record { bucket = bucket; place = place; rule = r } ∷ l) (rule_after bucket (place + 1) rs rule at (omega (arith, is)))

abbrev pub with_first : List ℕ → List Rule → ℕ → Rows → Rows
with_first bucket rules n = with_each table.Rules (map rule_row (rules_from bucket 1 (take n rules)))

-- the first rules, and then the next
pub one_rule_more : (bucket : List ℕ) (rules : List Rule) (n : ℕ) (rule : Rule) → n < length rules → rule ≡ get_or rules n rule
    → with_first bucket rules (n + 1) ≡ and_then (with_first bucket rules n) (with_row table.Rules (rule_row (record { bucket = bucket; place = n + 1; rule = rule })))
one_rule_more bucket rules n rule within is =
    let next : RuleRow = record { bucket = bucket; place = n + 1; rule = rule } in
    let taken : take (n + 1) rules ≡ take n rules ++ rule ∷ [] = take_more rules n rule within ∙ ap (λ r. take n rules ++ r ∷ []) (sym is) in
    let long = length-take-le n rules (omega (arith, within)) in
    let stated : rules_from bucket 1 (take (n + 1) rules) ≡ rules_from bucket 1 (take n rules) ++ next ∷ [] = ap (rules_from bucket 1) taken ∙ rule_after bucket 1 (take n rules) rule (n + 1) (omega arith) in
    ap (λ (rs : List RuleRow). with_each table.Rules (map rule_row rs)) stated
    ∙ ap (with_each table.Rules) (map-append rule_row (rules_from bucket 1 (take n rules)) (next ∷ []))
    ∙ one_row_more table.Rules (map rule_row (rules_from bucket 1 (take n rules))) (rule_row next)

pub kept_edit : (external : Bool) (old new : State) (edit : Rows → Rows) → Edits external old new edit → KeepsCommit old new
kept_edit external old new edit e = record { was_open = λ _. e.was_open; committed = λ _. e.committed }

all_and_one : (rules : List Rule) (rule : Rule) → AllByRecursion IsTypedRule rules → IsTypedRule rule → AllByRecursion IsTypedRule (rules ++ rule ∷ [])
all_and_one [] rule all is = (is, tt)
all_and_one (r ∷ rs) rule all is = (all.0, all_and_one rs rule all.1 is)

-- what the types say of the first rules and of the next
pub one_typed_more : (rules : List Rule) (n : ℕ) (rule : Rule) → n < length rules → rule ≡ get_or rules n rule → AllByRecursion IsTypedRule (take n rules) → IsTypedRule rule → AllByRecursion IsTypedRule (take (n + 1) rules)
one_typed_more rules n rule within is all one =
    subst (AllByRecursion IsTypedRule) (sym (take_more rules n rule within)) (all_and_one (take n rules) (get_or rules n rule) all (subst IsTypedRule is one))
