-- What the looks at buckets and rules say.
use Rattle.std.proofs.Common.{◌≡◌, ◌↔◌, IsTrue, ℕ, pos, List, [], drop, map, flat_map, Bool, true, false, Option, None, IsPermutation, IsSorted, Result, Ok, Err, OnOk, IfOk, refl, sym, subst, ◌∙◌}
use Rattle.std.specs.List.{AllByRecursion, list_any}
use Rattle.std.specs.Ordering.{is_eq}
use Rattle.sqlite_trees.proofs.ListLemmas.{map-map}
use Rattle.sqlite_value.specs.declared.value.Value.TheVariants.{Int, Text}
use Rattle.sqlite_value.specs.Order.{Row, column}
use Rattle.sqlite_sql.specs.Term.{lit}
use Rattle.sqlite.specs.Effect.{Database}
use Rattle.sqlite.specs.declared.error.Error.{Error}
use Rattle.sqlite.specs.State.{State, Shown, IsUnchanged}
use Rattle.vault_core_model.specs.declared.records.Bucket.{Bucket}
use Rattle.vault_core_model.specs.Order.{name_cmp}
use Rattle.vault_core_model.specs.Vault.{Vault}
use Rattle.vault_rules.specs.declared.rule.Rule.{Rule}
use Rattle.vault_audit_model.specs.declared.rows.BucketRow.{BucketRow}
use Rattle.vault_audit_model.specs.declared.rows.RuleRow.{RuleRow}
use Rattle.vault_audit_model.specs.Relations.{AreBuckets, DecidesBuckets}
use Rattle.vault_audit_model.specs.Rows.{bucket_row, bucket_columns, rule_row, rule_columns_as}
use Rattle.vault_audit_model.specs.Spells.{AreSoundAs, bucket_of, rules_in}
use Rattle.vault_audit_model.specs.Tables.{schema_of, buckets, buckets_tree, rules_tree}
use Rattle.vault_audit_schema.specs.Selects.{rule_terms}
use Rattle.vault_audit_schema.specs.Texts.{terms_of}
use Rattle.vault_audit_model.proofs.SameRows.{same_bucket, same_rule}
use Rattle.vault_audit_rows.specs.Pass.{Takes, Refuses}
use Rattle.vault_audit_rows.specs.Records.{Checked}
use Rattle.vault_audit_rows.specs.Walk.{Walked}
use Rattle.vault_audit_rows.proofs.ScanLemmas.{walked, first_cmp}
use Rattle.vault_audit_rows.proofs.PairLemmas.{pair_walked, pair_cmp, pair_cmp_total}
use Rattle.vault_audit_rows.proofs.PassLemmas.{walk_yes, walk_no, pass_yes, pass_no}
use Rattle.vault_audit_rows.specs.Beside.{ReportsAbsence}
use Rattle.vault_audit_model.proofs.ValueLemmas.{agrees}
use Rattle.vault_audit_rows.proofs.BesideLemmas.{agree_texts, beside_row, beside_yes, beside_no, met_yes, met_no, met_as, of_records, of_stored}
use Rattle.vault_audit_records.specs.RulesByPlace.{RulesSoFar, IsNextBucket, with_bucket, AreBucketRows, DecidesBucketRows, IsWhole, ComesNext, with_rule, no_rule, AreRowsOf, DecidesRuns, IsOfOne, DecidesOwners}
use Rattle.vault_audit_records.proofs.RuleRiseLemmas.{buckets_rise, rules_rise}
use Rattle.vault_audit_records.proofs.WholeWalkLemmas.{pass_only}
use Rattle.vault_audit_records.proofs.RuleGroupLemmas.{start, make, ascend, rows_fit, after_none, rules_fit, rules_owned}
use Rattle.vault_audit_records.proofs.RuleTextLemmas.{buckets_walk, buckets_walk_is, buckets_walk_plain, rules_walk, rules_walk_is, rules_walk_plain, buckets_beside, buckets_beside_is}
use Rattle.vault_audit_model.specs.declared.schema.SchemaVersion.{SchemaVersion}
use Rattle.vault_audit_model.specs.declared.schema.SchemaVersion.TheVariants.{First, Second, Third, Fourth}
use Rattle.vault_audit_model.proofs.ListLemmas.{all_as}

-- ---- the walks

abbrev bucket_source : Database → List Row
bucket_source db = map bucket_columns (db.trees buckets_tree)

bucket_answers : (n : SchemaVersion) (a b : State) → a.now.schema ≡ schema_of n → (rows : List Row) → Shown buckets_walk [] a b rows → IsPermutation (bucket_source a.now) rows × IsSorted first_cmp rows
bucket_answers n a b schema rows shown = walked buckets_walk a b (schema_of n) schema (buckets_walk_plain n) (buckets_walk_is n).1 buckets_tree 1 (drop 1 (terms_of buckets)) _ (buckets_walk_is n).0 refl rows shown

abbrev rule_source : SchemaVersion → Database → List Row
rule_source n db = map (rule_columns_as n) (db.trees rules_tree)

rule_answers : (n : SchemaVersion) (a b : State) → a.now.schema ≡ schema_of n → (rows : List Row) → Shown (rules_walk n) [] a b rows → IsPermutation (rule_source n a.now) rows × IsSorted pair_cmp rows
rule_answers First a b schema rows shown =
    pair_walked (rules_walk First) a b (schema_of First) schema (rules_walk_plain First) (rules_walk_is First).1 rules_tree 1 2 (drop 2 (rule_terms First)) _ (rules_walk_is First).0 refl rows shown
rule_answers Second a b schema rows shown =
    pair_walked (rules_walk Second) a b (schema_of Second) schema (rules_walk_plain Second) (rules_walk_is Second).1 rules_tree 1 2 (drop 2 (rule_terms Second)) _ (rules_walk_is Second).0 refl rows shown
rule_answers Third a b schema rows shown =
    pair_walked (rules_walk Third) a b (schema_of Third) schema (rules_walk_plain Third) (rules_walk_is Third).1 rules_tree 1 2 (drop 2 (rule_terms Third)) _ (rules_walk_is Third).0 refl rows shown
rule_answers Fourth a b schema rows shown =
    pair_walked (rules_walk Fourth) a b (schema_of Fourth) schema (rules_walk_plain Fourth) (rules_walk_is Fourth).1 rules_tree 1 2 (drop 2 (rule_terms Fourth)) _ (rules_walk_is Fourth).0 refl rows shown

module _ (n : SchemaVersion) (old new : State) (has : old.now.schema ≡ schema_of n) (same : IsUnchanged old new) where
  pub buckets_stated : (r : Option (List ℕ)) (b : Bool) → Walked (Takes bucket_row IsNextBucket with_bucket) (Refuses bucket_row IsNextBucket with_bucket) buckets_walk old new None r b → DecidesBucketRows new.now b
  buckets_stated r true h =
      let it = walk_yes bucket_row IsNextBucket with_bucket same_bucket (schema_of n) buckets_walk _ _ (buckets_walk_is n).0 bucket_source (bucket_answers n) old new has same None r h in
      (it.0, (it.1, it.2))
  buckets_stated r false h = λ bs are.
      walk_no bucket_row IsNextBucket with_bucket same_bucket (schema_of n) buckets_walk _ _ (buckets_walk_is n).0 bucket_source (bucket_answers n) old new has same None r (buckets_rise None) h bs are.0 are.1

  -- the walk of rules, from before the first bucket, with these rules
  abbrev LooksFrom : List Rule → RulesSoFar → Bool → Type 0
  LooksFrom rs r b = Walked (Takes rule_row ComesNext with_rule) (Refuses rule_row ComesNext with_rule) (rules_walk n) old new (record { bucket = None; rules = rs }) r b

  rules_whole : (r : RulesSoFar) → LooksFrom [] r true → IsWhole r → DecidesRuns n new.now true
  rules_whole r h whole =
      let it = pass_yes rule_row ComesNext with_rule same_rule pair_cmp pair_cmp_total (schema_of n) (rules_walk n) _ _ (rules_walk_is n).0 (rule_source n) (rule_answers n) old new has same no_rule r h in
      (it.0, it.1, (it.2, subst IsWhole it.3 whole))

  rules_open : (r : RulesSoFar) → LooksFrom [] r true → ¬ IsWhole r → DecidesRuns n new.now false
  rules_open r h none xs are runs =
      none (subst IsWhole (sym (pass_only rule_row ComesNext with_rule same_rule pair_cmp pair_cmp_total (schema_of n) (rules_walk n) (rule_source n) (rule_answers n) old new has same no_rule r (rules_rise no_rule) h xs are runs.0)) runs.1)

  pub rules_stopped : (rs : List Rule) → rs ≡ [] → (r : RulesSoFar) → LooksFrom rs r false → DecidesRuns n new.now false
  rules_stopped rs none r h xs are runs =
      pass_no rule_row ComesNext with_rule same_rule pair_cmp pair_cmp_total (schema_of n) (rules_walk n) _ _ (rules_walk_is n).0 (rule_source n) (rule_answers n) old new has same no_rule r (rules_rise no_rule) (subst (λ l. LooksFrom l r false) none h) xs are runs.0

  -- by whether the last rules are all of their bucket's
  pub rules_closed : (rs : List Rule) → rs ≡ [] → (r : RulesSoFar) → LooksFrom rs r true → (b : Bool) → (IsTrue b ↔ IsWhole r) → DecidesRuns n new.now b
  rules_closed rs none r h true is = rules_whole r (subst (λ l. LooksFrom l r true) none h) (is.0 refl)
  rules_closed rs none r h false is = rules_open r (subst (λ l. LooksFrom l r true) none h) (λ whole. absurd (let no : false ≡ true = is.1 whole in cc))

-- ---- each rule beside its bucket

module _ (db : Database) (bs : List BucketRow) (are : IsPermutation (map bucket_row bs) (map bucket_columns (db.trees buckets_tree))) (n : SchemaVersion) (xs : List RuleRow) (rows : AreRowsOf n db xs) where
  abbrev Buckets : List Row
  Buckets = db.trees buckets_tree

  abbrev Owners : Row → Type 0
  Owners row = AllByRecursion ReportsAbsence (beside_row (lit (Int (pos 0))) 1 0 Buckets row)

  owns : (name : List ℕ) → list_any (λ s. agrees (column s 1) (Text name)) Buckets ≡ list_any (λ b. is_eq (name_cmp b.name name)) bs
  owns name = met_as bucket_row bucket_columns (Text name) (λ b. is_eq (name_cmp b.name name)) (λ b. agree_texts b.name name) bs Buckets are

  owned_yes : AllByRecursion (λ r. AllByRecursion ReportsAbsence (beside_row (lit (Int (pos 0))) 1 1 Buckets r)) (db.trees rules_tree) → AllByRecursion (IsOfOne bs) xs
  owned_yes all =
      all_as (λ x stated. sym (owns x.bucket) ∙ met_yes (lit (Int (pos 0))) 1 0 (rule_row x) false (λ s. refl) Buckets stated) xs (of_records rule_row (rule_columns_as n) Owners xs (db.trees rules_tree) rows all)

  owned_no : AllByRecursion (IsOfOne bs) xs → AllByRecursion (λ r. AllByRecursion ReportsAbsence (beside_row (lit (Int (pos 0))) 1 1 Buckets r)) (db.trees rules_tree)
  owned_no all =
      of_stored rule_row (rule_columns_as n) Owners xs (db.trees rules_tree) rows (all_as (λ x stated. met_no (lit (Int (pos 0))) 1 0 (rule_row x) false (λ s. refl) Buckets (owns x.bucket ∙ stated)) xs all)

module _ (n : SchemaVersion) (old new : State) (has : old.now.schema ≡ schema_of n) (same : IsUnchanged old new) where
  pub owners : (b : Bool) → Checked ReportsAbsence buckets_beside old new b → DecidesOwners n new.now b
  owners true h bs are xs rows = owned_yes new.now bs are.0 n xs rows (beside_yes (buckets_beside_is n) (λ trees. (refl, refl)) ReportsAbsence old new has same h)
  owners false h bs are xs rows = λ all. beside_no (buckets_beside_is n) (λ trees. (refl, refl)) ReportsAbsence old new has same h (owned_no new.now bs are.0 n xs rows all)

-- ---- together

module _ (n : SchemaVersion) (db : Database) where
  pub all_hold : DecidesBucketRows db true → DecidesRuns n db true → DecidesOwners n db true → DecidesBuckets n db true
  all_hold (bs, are) (xs, rows, runs) owned =
      let it = make None bs xs are.1 (start xs runs) (owned bs are xs rows) in (
        it.buckets,
        (
          subst (λ ys. IsPermutation ys (map bucket_columns (db.trees buckets_tree))) (map-map bucket_row bucket_of it.buckets) (subst (λ (ys : List BucketRow). IsPermutation (map bucket_row ys) (map bucket_columns (db.trees buckets_tree))) (sym it.rows) are.0),
          subst (λ (ys : List RuleRow). IsPermutation (map rule_row ys) (map (rule_columns_as n) (db.trees rules_tree))) (sym it.rules) rows,
          ascend None it.buckets bs it.rows are.1,
          it.have,
        ),
      )

  -- what buckets say of their rows
  bucket_rows : (cs : List Bucket) → AreBuckets n db cs → AreBucketRows db (map bucket_of cs)
  bucket_rows cs (rows, rules, up, are) = (
    subst (λ ys. IsPermutation ys (map bucket_columns (db.trees buckets_tree))) (sym (map-map bucket_row bucket_of cs)) rows,
    rows_fit None cs (after_none cs) up are,
  )

  pub not_named : DecidesBucketRows db false → DecidesBuckets n db false
  not_named none cs are = none (map bucket_of cs) (bucket_rows cs are)

  pub not_placed : DecidesRuns n db false → DecidesBuckets n db false
  not_placed none cs (rows, rules, up, are) = none (flat_map rules_in cs) rules (rules_fit no_rule cs tt (after_none cs) up are)

  pub not_owned : DecidesOwners n db false → DecidesBuckets n db false
  not_owned none cs are = none (map bucket_of cs) (bucket_rows cs are) (flat_map rules_in cs) are.1 (rules_owned cs)

  -- the vault of sound tables has such buckets
  pub unsound : DecidesBuckets n db false → (v : Vault) → ¬ AreSoundAs n db v
  unsound none v it = none v.buckets (it.spells.buckets, it.spells.rules, it.spells.kept.sound.ordered.buckets, it.spells.kept.limits.buckets)

-- ---- the answers of the looks

module _ (n : SchemaVersion) (old new : State) (has : old.now.schema ≡ schema_of n) where
  pub buckets_if_ok : (r : Option (List ℕ)) (answer : Result Bool Error) → OnOk answer (IsUnchanged old new)
      → IfOk answer (Walked (Takes bucket_row IsNextBucket with_bucket) (Refuses bucket_row IsNextBucket with_bucket) buckets_walk old new None r) → IfOk answer (DecidesBucketRows new.now)
  buckets_if_ok r (Ok b) same h = buckets_stated n old new has same r b h
  buckets_if_ok r (Err e) same h = tt

  pub owners_if_ok : (answer : Result Bool Error) → OnOk answer (IsUnchanged old new) → IfOk answer (Checked ReportsAbsence buckets_beside old new) → IfOk answer (DecidesOwners n new.now)
  owners_if_ok (Ok b) same h = owners n old new has same b h
  owners_if_ok (Err e) same h = tt

pub last_stated : (n : SchemaVersion) (a b s : State) → IsUnchanged a b → DecidesBucketRows a.now true → DecidesRuns n b.now true → (answer : Result Bool Error) → OnOk answer (IsUnchanged b s) → IfOk answer (DecidesOwners n s.now) → IfOk answer (DecidesBuckets n s.now)
last_stated n a b s same named placed (Err e) last owned = tt
last_stated n a b s same named placed (Ok true) last owned =
    let second : b.now ≡ s.now = sym last.0.now_is in
    let first : a.now ≡ s.now = sym same.0.now_is ∙ second in
    all_hold n s.now (subst (λ (d : Database). DecidesBucketRows d true) first named) (subst (λ (d : Database). DecidesRuns n d true) second placed) owned
last_stated n a b s same named placed (Ok false) last owned = not_owned n s.now owned

pub damaged_if_ok : (n : SchemaVersion) (db : Database) (answer : Result Bool Error) → IfOk answer (DecidesBuckets n db) → IfOk answer (λ found. found ≡ false → (v : Vault) → ¬ AreSoundAs n db v)
damaged_if_ok n db (Err e) h = tt
damaged_if_ok n db (Ok true) h = λ no. absurd cc
damaged_if_ok n db (Ok false) h = λ _ v. unsound n db h v
