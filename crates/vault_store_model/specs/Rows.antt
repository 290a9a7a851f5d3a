-- The rows of all tables, each row as the columns that it states.
use Rattle.std.specs.Prelude.{◌≡◌, Bool, List, [], ◌∷◌, map, flat_map, IsPermutation}
use Rattle.sqlite_value.specs.Order.{Row}
use Rattle.sqlite.specs.Effect.{Database}
use Rattle.vault_base.specs.declared.refusal.Table.{Table}
use Rattle.vault_base.specs.declared.refusal.Table.TheVariants as table
use Rattle.vault_core_model.specs.Vault.{Vault}
use Rattle.vault_audit_model.specs.SchemaVersions.{edition_of}
use Rattle.vault_audit_model.specs.Tables.{vault_schema, meta_tree, departments_tree, callers_tree, buckets_tree, rules_tree, entries_tree, contents_tree, settings_tree, intake_tree, heads_tree, tenures_tree}
use Rattle.vault_audit_model.specs.Rows.{meta_row, department_row, caller_row, bucket_row, rule_row, entry_row, content_row, setting_row, note_row, head_row, tenure_row, meta_columns_as, department_columns, caller_columns, bucket_columns, rule_columns, entry_columns, content_columns, setting_columns, note_columns, head_columns, tenure_columns}
use Rattle.vault_audit_model.specs.Spells.{IsKept, meta_of, department_in, bucket_of, rules_in, contents_in, settings_in, tenures_in, heads_in, external_rows_of, external_rows_in}

-- the rows of each table, in any order
abbrev pub Rows : Type 0
Rows = Table → List Row

-- the columns of the rows that a database has, of a vault that registers contents which are kept outside, or doesn't
abbrev pub rows_in : Bool → Database → Rows
rows_in external db table.Meta = map (meta_columns_as (edition_of external)) (db.trees meta_tree)
rows_in external db table.Departments = map department_columns (db.trees departments_tree)
rows_in external db table.Callers = map caller_columns (db.trees callers_tree)
rows_in external db table.Buckets = map bucket_columns (db.trees buckets_tree)
rows_in external db table.Rules = map rule_columns (db.trees rules_tree)
rows_in external db table.Entries = map entry_columns (db.trees entries_tree)
rows_in external db table.Contents = map content_columns (db.trees contents_tree)
rows_in external db table.Settings = map setting_columns (db.trees settings_tree)
rows_in external db table.Intake = map note_columns (db.trees intake_tree)
rows_in external db table.Heads = map head_columns (db.trees heads_tree)
rows_in external db table.Tenures = map tenure_columns (db.trees tenures_tree)
rows_in external db table.External = external_rows_in (edition_of external) db

-- the rows that hold a vault, with its running numbers and its heads
abbrev pub rows_of : Vault → Rows
rows_of v table.Meta = meta_row (meta_of v) ∷ []
rows_of v table.Departments = map (λ d. department_row (department_in v d)) v.departments
rows_of v table.Callers = map caller_row v.callers
rows_of v table.Buckets = map (λ b. bucket_row (bucket_of b)) v.buckets
rows_of v table.Rules = map rule_row (flat_map rules_in v.buckets)
rows_of v table.Entries = map (λ h. entry_row h.entry) v.histories
rows_of v table.Contents = map content_row (flat_map contents_in v.histories)
rows_of v table.Settings = map setting_row (flat_map settings_in v.histories)
rows_of v table.Intake = map note_row v.notes
rows_of v table.Heads = map head_row (heads_in v)
rows_of v table.Tenures = map tenure_row (flat_map tenures_in v.histories)
rows_of v table.External = external_rows_of (edition_of v.external) v.histories

-- two have the same rows in every table, in any order
abbrev pub AreSameRows : Rows → Rows → Type 0
AreSameRows xs ys = (t : Table) → IsPermutation (xs t) (ys t)

-- the tables of a vault have the rows that hold this one, which may be kept
pub record HasRows (db : Database) (v : Vault) : Type 0 where
  pub schema : db.schema ≡ vault_schema v.external
  pub rows : AreSameRows (rows_of v) (rows_in v.external db)
  pub kept : IsKept v
