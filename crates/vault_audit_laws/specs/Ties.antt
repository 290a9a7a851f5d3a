-- How the rows of the tables refer to each other.
use Rattle.std.specs.Prelude.{◌≡◌, ◌⊎◌, ℕ, Bool, List, map}
use Rattle.std.specs.Str.{bytes_eq}
use Rattle.std.specs.List.{AllByRecursion, list_any}
use Rattle.std.specs.declared.cmp.Ordering.TheVariants.{Equal}
use Rattle.sqlite_value.specs.declared.value.Value.{Value}
use Rattle.sqlite_value.specs.declared.value.Value.TheVariants.{Null}
use Rattle.sqlite_value.specs.Order.{column, value_cmp}
use Rattle.sqlite_rules.specs.Lists.{Has}
use Rattle.sqlite.specs.Effect.{Database}
use Rattle.vault_audit_model.specs.declared.schema.SchemaVersion.{SchemaVersion}
use Rattle.vault_audit_model.specs.Spells.{tenure_rows_in, external_rows_in}
use Rattle.vault_audit_model.specs.Tables.{departments_tree, callers_tree, buckets_tree, rules_tree, entries_tree, contents_tree, settings_tree, intake_tree, heads_tree}

-- each of the first values that is not NULL is one of the second
abbrev pub HaveParents : List Value → List Value → Type 0
HaveParents children parents = AllByRecursion (λ v. (v ≡ Null) ⊎ Has parents v) children

-- each of the first values that is not NULL ties with one of the second
abbrev pub HaveTiedParents : List Value → List Value → Type 0
HaveTiedParents children parents = AllByRecursion (λ v. (v ≡ Null) ⊎ ((p : Value) × Has parents p × (value_cmp p v ≡ Equal))) children

-- whether the name is one of these
abbrev pub is_among : List (List ℕ) → List ℕ → Bool
is_among names name = list_any (λ n. bytes_eq n name) names

-- What a row names by a text or by an id stands in its table. An id is compared as SQL does, which for whole numbers is that it is the same.
pub record AreTied (n : SchemaVersion) (db : Database) : Type 0 where
  pub departments_of_callers : HaveParents (map (λ r. column r 2) (db.trees callers_tree)) (map (λ r. column r 1) (db.trees departments_tree))
  pub departments_of_buckets : HaveParents (map (λ r. column r 2) (db.trees buckets_tree)) (map (λ r. column r 1) (db.trees departments_tree))
  pub buckets_of_rules : HaveParents (map (λ r. column r 1) (db.trees rules_tree)) (map (λ r. column r 1) (db.trees buckets_tree))
  pub buckets_of_entries : HaveParents (map (λ r. column r 2) (db.trees entries_tree)) (map (λ r. column r 1) (db.trees buckets_tree))
  pub buckets_of_notes : HaveParents (map (λ r. column r 1) (db.trees intake_tree)) (map (λ r. column r 1) (db.trees buckets_tree))
  pub buckets_of_heads : HaveParents (map (λ r. column r 1) (db.trees heads_tree)) (map (λ r. column r 1) (db.trees buckets_tree))
  pub entries_of_contents : HaveTiedParents (map (λ r. column r 0) (db.trees contents_tree)) (map (λ r. column r 0) (db.trees entries_tree))
  pub entries_of_settings : HaveTiedParents (map (λ r. column r 1) (db.trees settings_tree)) (map (λ r. column r 0) (db.trees entries_tree))
  pub entries_of_notes : HaveTiedParents (map (λ r. column r 10) (db.trees intake_tree)) (map (λ r. column r 0) (db.trees entries_tree))
  pub entries_of_heads : HaveTiedParents (map (λ r. column r 3) (db.trees heads_tree)) (map (λ r. column r 0) (db.trees entries_tree))
  pub entries_of_external : HaveTiedParents (map (λ r. column r 0) (external_rows_in n db)) (map (λ r. column r 0) (db.trees entries_tree))
  pub departments_of_tenures : HaveParents (map (λ r. column r 2) (tenure_rows_in n db)) (map (λ r. column r 1) (db.trees departments_tree))
