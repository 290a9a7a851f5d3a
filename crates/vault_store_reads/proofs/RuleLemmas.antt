-- The rules of a bucket, in the order of their places.
use Rattle.std.proofs.Common.{◌≡◌, inl, inr, ℕ, ◌+◌, ◌<◌, ◌&&◌, List, [], ◌∷◌, map, filter, flat_map, Bool, true, false, Option, None, Some, Less, Equal, IfSome, IsTrue, refl, sym, ap, subst, ◌∙◌, arith}
use Rattle.std.specs.Prelude.{option_and_then}
use Rattle.std.specs.List.{AllByRecursion}
use Rattle.std.specs.Str.{bytes_eq}
use Rattle.std.specs.Ordering.{nat_cmp}
use Rattle.std.specs.Cmp.Lexicographic.{slice_cmp}
use Rattle.std.proofs.lemmas.Bool.{cases_Bool}
use Rattle.std.proofs.lemmas.Cmp.{nat_list_cmp_total, tied_itself}
use Rattle.std.proofs.lemmas.Slice.Eq.{bytes_eq-Decides}
use Rattle.sqlite_trees.specs.Tree.{IsAscending as Ascending}
use Rattle.sqlite_keyed.proofs.ListLemmas.{map-map, ascending-map, ascending_weaker, all_weaker}
use Rattle.sqlite_value.specs.declared.value.Value.TheVariants.{Text}
use Rattle.sqlite_value.specs.declared.keys.Collation.TheVariants.{Binary}
use Rattle.sqlite_value.specs.Order.{Row, column}
use Rattle.sqlite_sql.specs.declared.ops.BinaryOp.TheVariants.{Compare}
use Rattle.sqlite_sql.specs.declared.ops.CompareOp.TheVariants.{Eq}
use Rattle.sqlite_sql.specs.Ops.{binary, is_true}
use Rattle.sqlite_sql.specs.Query.{Query, Output, output, output_cmp}
use Rattle.vault_audit_model.specs.Tables.{rules_tree}
use Rattle.vault_base.specs.declared.refusal.Table.TheVariants as table
use Rattle.vault_rules.specs.Rules.{is_rule_set, passes_if_given}
use Rattle.vault_rules.specs.declared.rule.Rule.{Rule}
use Rattle.vault_core_model.specs.declared.records.Bucket.{Bucket}
use Rattle.vault_core_model.specs.Order.{IsAscending, bucket_cmp}
use Rattle.vault_core_model.specs.Sound.{HasRuleSet}
use Rattle.vault_core_model.specs.Vault.{Vault, bucket_in, rules_of}
use Rattle.vault_audit_model.specs.declared.rows.RuleRow.{RuleRow}
use Rattle.vault_audit_model.specs.Rows.{rule_row, rule_columns}
use Rattle.vault_audit_model.specs.Spells.{rules_from, rules_in, rules_if_given}
use Rattle.vault_store_model.proofs.RowsLemmas.{sound_is_rows}
use Rattle.vault_store_reads.specs.Shown.{set_of}
use Rattle.vault_store_reads.specs.Queries.{FindsRows}
use Rattle.vault_store_model.specs.Scans.{passes}
use Rattle.sqlite_tied.proofs.RuleLemmas.{and_true}
use Rattle.vault_store_reads.proofs.OrderedListLemmas.{part_of, in_one_part, always}
use Rattle.vault_store_reads.proofs.SelectLemmas.{select_of, of_records, answered}
use Rattle.vault_store_reads.proofs.OrderedTextLemmas.{rules_text, rules_tests, rules_shown, rules_order, rules_is, no_limit}
use Rattle.vault_audit_model.proofs.ValueLemmas.{same_text}
use Rattle.vault_store_reads.proofs.ValueLemmas.{number_less}

-- ---- buckets have different names

apart : (name a b : List ℕ) → slice_cmp nat_cmp a b ≡ Less → bytes_eq a name ≡ true → bytes_eq b name ≡ false
apart name a b low same = elim (cases_Bool (bytes_eq b name)) [
  | inl too ↦ absurd (
      let first : a ≡ name = (bytes_eq-Decides a name).0 same in
      let second : b ≡ name = (bytes_eq-Decides b name).0 too in
      let tie : slice_cmp nat_cmp name name ≡ Equal = tied_itself nat_list_cmp_total name in
      let less : slice_cmp nat_cmp name name ≡ Less = rw (first, second) at low in
      let both = sym tie ∙ less in cc)
  | inr other ↦ other
]

names_apart : (name : List ℕ) (bs : List Bucket) → IsAscending bucket_cmp bs → Ascending (λ a b. bytes_eq a.name name ≡ true → bytes_eq b.name name ≡ false) bs
names_apart name [] up = tt
names_apart name (b ∷ bs) up = (all_weaker (λ c. bucket_cmp b c ≡ Less) (λ c. bytes_eq b.name name ≡ true → bytes_eq c.name name ≡ false) (λ c low same. apart name b.name c.name low same) bs up.0, names_apart name bs up.1)

-- ---- places

after : (bucket : List ℕ) (place least : ℕ) (rs : List Rule) → least < place → AllByRecursion (λ r. least < r.place) (rules_from bucket place rs)
after bucket place least [] low = tt
after bucket place least (r ∷ rs) low = (low, after bucket (place + 1) least rs (omega (arith, low)))

places_rise : (bucket : List ℕ) (place : ℕ) (rs : List Rule) → Ascending (λ r s. r.place < s.place) (rules_from bucket place rs)
places_rise bucket place [] = tt
places_rise bucket place (r ∷ rs) = (after bucket (place + 1) place rs (omega arith), places_rise bucket (place + 1) rs)

given_rise : (bucket : List ℕ) (o : Option (List Rule)) → Ascending (λ r s. r.place < s.place) (rules_if_given bucket o)
given_rise bucket None = tt
given_rise bucket (Some rs) = places_rise bucket 1 rs

part_rises : (o : Option Bucket) → Ascending (λ r s. r.place < s.place) (part_of rules_in o)
part_rises None = tt
part_rises (Some b) = given_rise b.name b.rules

all_from : (name bucket : List ℕ) (place : ℕ) (rs : List Rule) → AllByRecursion (λ r. bytes_eq r.bucket name ≡ bytes_eq bucket name) (rules_from bucket place rs)
all_from name bucket place [] = tt
all_from name bucket place (r ∷ rs) = (refl, all_from name bucket (place + 1) rs)

all_given : (name bucket : List ℕ) (o : Option (List Rule)) → AllByRecursion (λ r. bytes_eq r.bucket name ≡ bytes_eq bucket name) (rules_if_given bucket o)
all_given name bucket None = tt
all_given name bucket (Some rs) = all_from name bucket 1 rs

-- ---- the answer

abbrev test : List ℕ → Row → Bool
test name c = is_true (binary (Compare Eq Binary) (column c 0) (Text name)) && true

abbrev out : Row → Output
out c = (column c 1 ∷ [], column c 0 ∷ column c 1 ∷ column c 2 ∷ column c 3 ∷ column c 4 ∷ column c 5 ∷ column c 6 ∷ column c 7 ∷ column c 8 ∷ column c 9 ∷ column c 10 ∷ [])

abbrev pub query : Query
query = select_of rules_tree rules_tests rules_shown rules_order no_limit

abbrev outs : List RuleRow → List Output
outs rs = map (λ r. out (rule_row r)) rs

outs_rise : (rs : List RuleRow) → Ascending (λ r s. r.place < s.place) rs → Ascending (λ a b. output_cmp query a b ≡ Less) (outs rs)
outs_rise rs up =
    let R : Output → Output → Type 0 = λ a b. output_cmp query a b ≡ Less in
    ascending-map R (λ r. out (rule_row r)) rs (ascending_weaker (λ r s. r.place < s.place) (λ r s. R (out (rule_row r)) (out (rule_row s))) (λ r s low. number_less r.place s.place low) rs up)

pub found_rules : (v : Vault) (name : List ℕ) (rows : List Row) → FindsRows v rules_text (Text name ∷ []) rows → rows ≡ map rule_row (part_of rules_in (bucket_in v.buckets name))
found_rules v name rows (db, sound, answers) =
    let all = flat_map rules_in v.buckets in
    let mine = filter (λ r. bytes_eq r.bucket name) all in
    let its : mine ≡ part_of rules_in (bucket_in v.buckets name) =
    in_one_part (λ b. bytes_eq b.name name) rules_in (λ r. bytes_eq r.bucket name) (λ b. all_given name b.name b.rules) v.buckets (names_apart name v.buckets sound.spells.kept.sound.ordered.buckets) in
    let params : Row = Text name ∷ [] in
    let are = of_records rule_row rule_columns (test name) out (passes rules_tests params) (λ r. output query (params ∷ r ∷ [])) (λ r. refl) (λ r. refl) (λ r. bytes_eq r.bucket name) all (db.trees rules_tree) (((sound_is_rows db v).0 sound).rows table.Rules)
    (always (λ r. test name (rule_row r) ≡ bytes_eq r.bucket name) (λ r. and_true _ ∙ same_text r.bucket name) all) in
    let rise = subst (Ascending (λ r s. r.place < s.place)) (sym its) (part_rises (bucket_in v.buckets name)) in
    answered rules_tree rules_tests rules_shown rules_order no_limit db params rows (answers query (rules_is v.external)) (outs mine) are (outs_rise mine rise)
    ∙ map-map (λ (o : Output). o.1) (λ r. out (rule_row r)) mine ∙ ap (map rule_row) its

-- ---- the rules that such rows state

their_rules : (bucket : List ℕ) (place : ℕ) (rs : List Rule) → map (λ x. x.rule) (rules_from bucket place rs) ≡ rs
their_rules bucket place [] = refl
their_rules bucket place (r ∷ rs) = ap (λ l. r ∷ l) (their_rules bucket (place + 1) rs)

found_set : (bucket : List ℕ) (b : Bucket) (o : Option (List Rule)) → b.rules ≡ o → HasRuleSet b → set_of (rules_if_given bucket o) ≡ o
found_set bucket b None is set = refl
found_set bucket b (Some []) is set = absurd (let none = rw is at set in cc none)
found_set bucket b (Some (r ∷ rs)) is set = ap (λ l. Some (r ∷ l)) (their_rules bucket (1 + 1) rs)

found_in : (name : List ℕ) (bs : List Bucket) → AllByRecursion HasRuleSet bs → set_of (part_of rules_in (bucket_in bs name)) ≡ option_and_then (λ b. b.rules) (bucket_in bs name)
found_in name [] all = refl
found_in name (b ∷ bs) all = elim (cases_Bool (bytes_eq b.name name)) [
  | inl this ↦ rw this (found_set b.name b b.rules refl all.0)
  | inr other ↦ rw other (found_in name bs all.1)
]

pub stated_rules : (v : Vault) (name : List ℕ) → AllByRecursion HasRuleSet v.buckets → set_of (part_of rules_in (bucket_in v.buckets name)) ≡ rules_of v name
stated_rules v name all = found_in name v.buckets all

-- the rules of a bucket, if it has some, are a list that it may have
set_in : (name : List ℕ) (bs : List Bucket) → AllByRecursion HasRuleSet bs → IfSome (option_and_then (λ (b : Bucket). b.rules) (bucket_in bs name)) (λ rules. IsTrue (is_rule_set rules))
set_in name [] all = tt
set_in name (b ∷ bs) all = elim (cases_Bool (bytes_eq b.name name)) [
  | inl this ↦ rw this (of_given b.rules all.0)
  | inr other ↦ rw other (set_in name bs all.1)
]
  where
    of_given : (o : Option (List Rule)) → IsTrue (passes_if_given is_rule_set o) → IfSome o (λ rules. IsTrue (is_rule_set rules))
    of_given None set = tt
    of_given (Some rules) set = set

pub set_there : (v : Vault) (name : List ℕ) → AllByRecursion HasRuleSet v.buckets → IfSome (rules_of v name) (λ rules. IsTrue (is_rule_set rules))
set_there v name all = set_in name v.buckets all
