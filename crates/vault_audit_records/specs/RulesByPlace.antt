-- The rules by their buckets and places.
use Rattle.std.specs.Prelude.{◌≡◌, ℕ, ◌+◌, ◌⊎◌, Bool, true, false, ◌==◌, if◌then◌else◌, List, [], ◌∷◌, ◌++◌, length, map, Option, Some, None, IfSome, IsTrue, IsPermutation}
use Rattle.std.specs.List.{AllByRecursion, list_any}
use Rattle.std.specs.Ordering.{is_eq}
use Rattle.sqlite.specs.Effect.{Database}
use Rattle.vault_rules.specs.Rules.{is_rule_set}
use Rattle.vault_rules.specs.declared.rule.Rule.{Rule}
use Rattle.vault_core_model.specs.Order.{name_cmp}
use Rattle.vault_audit_model.specs.declared.rows.BucketRow.{BucketRow}
use Rattle.vault_audit_model.specs.declared.rows.RuleRow.{RuleRow}
use Rattle.vault_audit_model.specs.declared.schema.SchemaVersion.{SchemaVersion}
use Rattle.vault_audit_model.specs.Limits.{IsBucketRow, IsRuleRow}
use Rattle.vault_audit_model.specs.Rows.{bucket_row, rule_row, bucket_columns, rule_columns_as}
use Rattle.vault_audit_model.specs.Tables.{buckets_tree, rules_tree}
use Rattle.vault_audit_rows.specs.Beside.{Decides}
use Rattle.vault_audit_rows.specs.Pass.{AllFit, after}
pub use Rattle.vault_audit_model.specs.Relations.{IsAfter}

-- ---- buckets

-- it is a bucket in its limits, of a later name
abbrev pub IsNextBucket : Option (List ℕ) → BucketRow → Type 0
IsNextBucket before b = IsBucketRow b × IsAfter before b.name

-- the name of the last bucket, after this one
abbrev pub with_bucket : Option (List ℕ) → BucketRow → Option (List ℕ)
with_bucket before b = Some b.name

-- the rows of buckets are these, in their limits and by rising name
abbrev pub AreBucketRows : Database → List BucketRow → Type 0
AreBucketRows db bs = IsPermutation (map bucket_row bs) (map bucket_columns (db.trees buckets_tree)) × AllFit bucket_row IsNextBucket with_bucket None bs

-- whether the rows of buckets are buckets in their limits, of which no two have one name
abbrev pub DecidesBucketRows : Database → Bool → Type 0
DecidesBucketRows db true = (bs : List BucketRow) × AreBucketRows db bs
DecidesBucketRows db false = (bs : List BucketRow) → ¬ AreBucketRows db bs

-- ---- rules

-- the last bucket that has come, and its rules so far
pub record RulesSoFar : Type 0 where
  pub bucket : Option (List ℕ)
  pub rules : List Rule

-- they are all the rules of a bucket, or there was none yet
abbrev pub IsWhole : RulesSoFar → Type 0
IsWhole p = IfSome p.bucket (λ _. IsTrue (is_rule_set p.rules))

-- at the next place of the same bucket, or the first of a later one
abbrev pub IsNext : RulesSoFar → RuleRow → Type 0
IsNext p r = ((p.bucket ≡ Some r.bucket) × (r.place ≡ length p.rules + 1)) ⊎ ((IsAfter p.bucket r.bucket × IsWhole p) × (r.place ≡ 1))

-- it is a rule in its limits, and may come now
abbrev pub ComesNext : RulesSoFar → RuleRow → Type 0
ComesNext p r = IsRuleRow r × IsNext p r

-- the rules of the last bucket, after this rule
abbrev pub with_rule : RulesSoFar → RuleRow → RulesSoFar
with_rule p r = record { bucket = Some r.bucket; rules = if r.place == 1 then r.rule ∷ [] else p.rules ++ r.rule ∷ [] }

-- before the first rule
abbrev pub no_rule : RulesSoFar
no_rule = record { bucket = None; rules = [] }

-- the rows of rules are these, in any order
abbrev pub AreRowsOf : SchemaVersion → Database → List RuleRow → Type 0
AreRowsOf n db xs = IsPermutation (map rule_row xs) (map (rule_columns_as n) (db.trees rules_tree))

-- each comes next after those before it, and the last bucket's are whole
abbrev pub AreWholeSets : List RuleRow → Type 0
AreWholeSets xs = AllFit rule_row ComesNext with_rule no_rule xs × IsWhole (after rule_row ComesNext with_rule no_rule xs)

-- whether the rules of each bucket stand at the places 1, 2, 3 and so on, and are a set that it may have
abbrev pub DecidesRuns : SchemaVersion → Database → Bool → Type 0
DecidesRuns n db true = (xs : List RuleRow) × AreRowsOf n db xs × AreWholeSets xs
DecidesRuns n db false = (xs : List RuleRow) → AreRowsOf n db xs → ¬ AreWholeSets xs

-- the rule is of one of the buckets
abbrev pub IsOfOne : List BucketRow → RuleRow → Type 0
IsOfOne bs r = list_any (λ b. is_eq (name_cmp b.name r.bucket)) bs ≡ true

-- whether each rule has its bucket
abbrev pub DecidesOwners : SchemaVersion → Database → Bool → Type 0
DecidesOwners n db b = (bs : List BucketRow) → AreBucketRows db bs → (xs : List RuleRow) → AreRowsOf n db xs → Decides b (AllByRecursion (IsOfOne bs) xs)
