-- Which table is reported: they are looked at in their order.
use Rattle.std.specs.Prelude.{◌≡◌, ◌<◌, ◌⊎◌, Bool, true, false, map, Option, Some, None}
use Rattle.sqlite.specs.Effect.{Database}
use Rattle.vault_base.specs.declared.refusal.Table.{Table}
use Rattle.vault_base.specs.declared.refusal.Table.TheVariants.{Meta, Departments, Callers, Buckets, Rules, Entries, Contents, Settings, Intake, Heads, Tenures, External}
use Rattle.vault_core_model.specs.Vault.{Vault}
use Rattle.vault_audit_model.specs.declared.schema.SchemaVersion.{SchemaVersion}
use Rattle.vault_audit_model.specs.declared.rows.MetaRow.{MetaRow}
use Rattle.vault_audit_model.specs.Limits.{IsDepartmentRow, IsCaller, IsBucketRow, IsRuleRow, IsContentRow, IsSettingRow, IsNote, IsHeadRow, IsTenureRow, IsExternalRow}
use Rattle.vault_audit_model.specs.Order.{place_of}
use Rattle.vault_audit_model.specs.Rows.{department_row, caller_row, bucket_row, rule_row, entry_row, content_row, setting_row, note_row, head_row, tenure_row, department_columns_as, caller_columns, bucket_columns, rule_columns_as, entry_columns, content_columns, setting_columns, note_columns, head_columns, external_row}
use Rattle.vault_audit_model.specs.Spells.{AreSoundAs, tenure_rows_in, external_rows_in}
use Rattle.vault_audit_model.specs.Tables.{schema_of, departments_tree, callers_tree, buckets_tree, rules_tree, entries_tree, contents_tree, settings_tree, intake_tree, heads_tree}
use Rattle.vault_audit_schema.specs.Places.{IsInPlace, AreInPlace}
use Rattle.vault_audit_records.specs.Entries.{IsEntryBy}
use Rattle.vault_audit_records.specs.Meta.{IsMetaOf}
use Rattle.vault_audit_rows.specs.Records.{AreRecords}
use Rattle.vault_audit_model.specs.SchemaVersions.{is_external}

-- whether the rows of the table state records in their limits, each by itself: of meta one with the number of the schema version, and of entries none that is after the last moment
abbrev pub AreRowsRight : SchemaVersion → Database → Table → Bool → Type 0
AreRowsRight n db Meta true = (m : MetaRow) × IsMetaOf n db (Some m)
AreRowsRight n db Meta false = IsMetaOf n db None
AreRowsRight n db Departments right = AreRecords department_row IsDepartmentRow (map (department_columns_as n) (db.trees departments_tree)) right
AreRowsRight n db Callers right = AreRecords caller_row IsCaller (map caller_columns (db.trees callers_tree)) right
AreRowsRight n db Buckets right = AreRecords bucket_row IsBucketRow (map bucket_columns (db.trees buckets_tree)) right
AreRowsRight n db Rules right = AreRecords rule_row IsRuleRow (map (rule_columns_as n) (db.trees rules_tree)) right
AreRowsRight n db Entries right = (m : MetaRow) → IsMetaOf n db (Some m) → AreRecords entry_row (IsEntryBy (is_external n) m.last) (map entry_columns (db.trees entries_tree)) right
AreRowsRight n db Contents right = AreRecords content_row IsContentRow (map content_columns (db.trees contents_tree)) right
AreRowsRight n db Settings right = AreRecords setting_row IsSettingRow (map setting_columns (db.trees settings_tree)) right
AreRowsRight n db Intake right = AreRecords note_row (IsNote (is_external n)) (map note_columns (db.trees intake_tree)) right
AreRowsRight n db Heads right = AreRecords head_row IsHeadRow (map head_columns (db.trees heads_tree)) right
AreRowsRight n db Tenures right = AreRecords tenure_row IsTenureRow (tenure_rows_in n db) right
AreRowsRight n db External right = AreRecords external_row IsExternalRow (external_rows_in n db) right

-- the table is right by itself, in its form and in its rows
abbrev pub IsRight : SchemaVersion → Database → Table → Type 0
IsRight n db t = IsInPlace n db.schema.tables t × AreRowsRight n db t true

-- each is
abbrev pub AreRight : SchemaVersion → Database → Type 0
AreRight n db = (t : Table) → IsRight n db t

-- All tables before the one that is reported are right by themselves, and it is the first that isn't. Or all are in their places,
-- and an index, a view or a further table stands beside them; or all are right, and it doesn't fit the others.
pub record IsReportedInOrder (n : SchemaVersion) (db : Database) (stated : Table) : Type 0 where
  pub before : (t : Table) → place_of t < place_of stated → IsRight n db t
  pub here : ¬ IsInPlace n db.schema.tables stated ⊎ AreRowsRight n db stated false ⊎ (AreInPlace n db.schema.tables × (db.schema ≡ schema_of n → AreRight n db))

-- each table is right by itself; or one is reported, and the tables are sound for no vault
abbrev pub ReportedInOrder : SchemaVersion → Database → Option Table → Type 0
ReportedInOrder n db None = (db.schema ≡ schema_of n) × AreRight n db
ReportedInOrder n db (Some table) = IsReportedInOrder n db table × ((v : Vault) → ¬ AreSoundAs n db v)
