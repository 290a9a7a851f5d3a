-- Sound tables are those that have the rows of their vault.
use Rattle.std.proofs.Common.{◌≡◌, ℕ, Bool, true, false, List, [], ◌∷◌, map, flat_map, refl, sym, ap, subst}
use Rattle.std.specs.Prelude.{◌↔◌, IsPermutation}
use Rattle.std.proofs.lemmas.List.Sorted.{IsPermutation-map}
use Rattle.sqlite_value.specs.declared.value.Value.{Value}
use Rattle.sqlite_value.specs.declared.value.Value.TheVariants.{Text}
use Rattle.sqlite_value.specs.Order.{Row, column}
use Rattle.sqlite.specs.Effect.{Database}
use Rattle.vault_base.specs.declared.refusal.Table.TheVariants as table
use Rattle.vault_core_model.specs.Vault.{Vault}
use Rattle.vault_audit_model.specs.SchemaVersions.{edition_of}
use Rattle.vault_audit_model.specs.Rows.{department_row, department_columns, department_columns_as, rule_columns, rule_columns_as, tenure_row, tenure_columns}
use Rattle.vault_audit_model.specs.Spells.{AreSound, department_in, tenures_in, tenure_rows_of, tenure_rows_in}
use Rattle.vault_audit_model.specs.Tables.{departments_tree, rules_tree, tenures_tree}
use Rattle.vault_store_model.specs.Rows.{HasRows, AreSameRows, rows_of, rows_in}

-- ---- what both editions have alike

pub departments_alike : (external : Bool) (rows : List Row) → map (department_columns_as (edition_of external)) rows ≡ map department_columns rows
departments_alike false rows = refl
departments_alike true rows = refl

pub rules_alike : (external : Bool) (rows : List Row) → map (rule_columns_as (edition_of external)) rows ≡ map rule_columns rows
rules_alike false rows = refl
rules_alike true rows = refl

pub tenures_stated : (external : Bool) (v : Vault) → tenure_rows_of (edition_of external) v ≡ map tenure_row (flat_map tenures_in v.histories)
tenures_stated false v = refl
tenures_stated true v = refl

pub tenures_stand : (external : Bool) (db : Database) → tenure_rows_in (edition_of external) db ≡ map tenure_columns (db.trees tenures_tree)
tenures_stand false db = refl
tenures_stand true db = refl

-- rows that are the same as those, each list by another name
renamed : {xs xs′ ys ys′ : List Row} → xs ≡ xs′ → ys ≡ ys′ → IsPermutation xs ys → IsPermutation xs′ ys′
renamed {xs} {xs′} {ys} {ys′} e f same = subst (λ l. IsPermutation l ys′) e (subst (IsPermutation xs) f same)

-- ---- the rows of sound tables

rows_of_sound : (db : Database) (v : Vault) → AreSound db v → AreSameRows (rows_of v) (rows_in v.external db)
rows_of_sound db v is table.Meta = is.spells.meta
rows_of_sound db v is table.Departments = renamed refl (departments_alike v.external (db.trees departments_tree)) is.numbers
rows_of_sound db v is table.Callers = is.spells.callers
rows_of_sound db v is table.Buckets = is.spells.buckets
rows_of_sound db v is table.Rules = renamed refl (rules_alike v.external (db.trees rules_tree)) is.spells.rules
rows_of_sound db v is table.Entries = is.spells.entries
rows_of_sound db v is table.Contents = is.spells.contents
rows_of_sound db v is table.Settings = is.spells.settings
rows_of_sound db v is table.Intake = is.spells.intake
rows_of_sound db v is table.Heads = is.heads
rows_of_sound db v is table.Tenures = renamed (tenures_stated v.external v) (tenures_stand v.external db) is.spells.tenures
rows_of_sound db v is table.External = is.spells.external

-- ---- the names of departments

abbrev name_in : Row → Value
name_in row = column row 0

names_stated : (v : Vault) (ds : List (List ℕ)) → map name_in (map (λ d. department_row (department_in v d)) ds) ≡ map (λ d. Text d) ds
names_stated v [] = refl
names_stated v (d ∷ ds) = ap (λ names. Text d ∷ names) (names_stated v ds)

names_stand : (rows : List Row) → map name_in (map department_columns rows) ≡ map (λ r. column r 1) rows
names_stand [] = refl
names_stand (r ∷ rs) = ap (λ names. column r 1 ∷ names) (names_stand rs)

-- the names of departments are the first of their columns
departments_named : (db : Database) (v : Vault) → IsPermutation (map (λ d. department_row (department_in v d)) v.departments) (map department_columns (db.trees departments_tree))
    → IsPermutation (map (λ d. Text d) v.departments) (map (λ r. column r 1) (db.trees departments_tree))
departments_named db v same =
    subst (λ names. IsPermutation names (map (λ r. column r 1) (db.trees departments_tree))) (names_stated v v.departments)
    (subst (IsPermutation (map name_in (map (λ d. department_row (department_in v d)) v.departments))) (names_stand (db.trees departments_tree)) (IsPermutation-map name_in _ _ same))

-- ---- both ways

sound_by_rows : (db : Database) (v : Vault) → HasRows db v → AreSound db v
sound_by_rows db v is = record {
  spells = record {
    schema = is.schema;
    meta = is.rows table.Meta;
    departments = departments_named db v (is.rows table.Departments);
    callers = is.rows table.Callers;
    buckets = is.rows table.Buckets;
    rules = renamed refl (sym (rules_alike v.external (db.trees rules_tree))) (is.rows table.Rules);
    entries = is.rows table.Entries;
    contents = is.rows table.Contents;
    settings = is.rows table.Settings;
    intake = is.rows table.Intake;
    tenures = renamed (sym (tenures_stated v.external v)) (sym (tenures_stand v.external db)) (is.rows table.Tenures);
    external = is.rows table.External;
    kept = is.kept;
  };
  numbers = renamed refl (sym (departments_alike v.external (db.trees departments_tree))) (is.rows table.Departments);
  heads = is.rows table.Heads;
}

pub sound_is_rows : (db : Database) (v : Vault) → AreSound db v ↔ HasRows db v
sound_is_rows db v = (λ is. record { schema = is.spells.schema; rows = rows_of_sound db v is; kept = is.spells.kept }, sound_by_rows db v)
