-- What looks at several tables say.
use Rattle.std.specs.Prelude.{◌≡◌, ℕ, ◌+◌, true, List, length, map, Option, None, Some, MatchOption, Bool}
use Rattle.std.specs.List.{AllByRecursion}
use Rattle.sqlite.specs.Effect.{Database}
use Rattle.sqlite.specs.Schema.{Schema}
use Rattle.vault_base.specs.declared.refusal.Table.{Table}
use Rattle.vault_core_model.specs.declared.records.Bucket.{Bucket}
use Rattle.vault_core_model.specs.declared.records.Caller.{Caller}
use Rattle.vault_core_model.specs.declared.records.Entry.{Entry}
use Rattle.vault_core_model.specs.declared.records.History.{History}
use Rattle.vault_core_model.specs.declared.records.Note.{Note}
use Rattle.vault_core_model.specs.Sound.{IsPlaced}
use Rattle.vault_core_model.specs.Vault.{Vault}
use Rattle.vault_audit_model.specs.declared.schema.SchemaVersion.{SchemaVersion}
use Rattle.vault_audit_model.specs.declared.rows.DepartmentRow.{DepartmentRow}
use Rattle.vault_audit_model.specs.declared.rows.MetaRow.{MetaRow}
use Rattle.vault_audit_model.specs.Relations.{AreCallers, AreBuckets, AreContents, AreEntries, AreNotes, AreSettings, AreSums, AreTenuresOf, AreTenuresWith, IsPast}
use Rattle.vault_audit_model.specs.Rows.{entry_row, entry_columns}
use Rattle.vault_audit_model.specs.Spells.{AreSoundAs, entries_in}
use Rattle.vault_audit_model.specs.Tables.{entries_tree, schema_of}
use Rattle.vault_audit_schema.specs.Places.{IsReportedIn}
use Rattle.vault_audit_rows.specs.Records.{AreRecords}
use Rattle.vault_audit_records.specs.Entries.{IsEntryBy}
use Rattle.vault_audit_records.specs.Meta.{IsMetaOf}
use Rattle.vault_audit_records.specs.ByName.{AreDepartmentsByName}
use Rattle.vault_audit_model.specs.SchemaVersions.{is_external}

-- where the schema differs from the schema version's, if it does
abbrev pub Differs : SchemaVersion → Schema → Option Table → Type 0
Differs n s difference = MatchOption difference (s ≡ schema_of n) (IsReportedIn n s)

-- no table is damaged, and this is found; or one is, and the tables are sound for no vault
abbrev pub Reported : SchemaVersion → Database → Type 0 → Option Table → Type 0
Reported n db Found None = Found
Reported n db Found (Some table) = (v : Vault) → ¬ AreSoundAs n db v

-- the same, where this is the row of meta
abbrev pub ReportedOf : SchemaVersion → Database → MetaRow → Type 0 → Option Table → Type 0
ReportedOf n db m Found None = Found
ReportedOf n db m Found (Some table) = IsMetaOf n db (Some m) → (v : Vault) → ¬ AreSoundAs n db v

-- the rows of entries are entries in their limits, none after the last moment
abbrev pub ArePast : Bool → Database → ℕ → Type 0
ArePast external db last = AreRecords entry_row (IsEntryBy external last) (map entry_columns (db.trees entries_tree)) true

-- the next id, and the departments with their sums
pub record DepartmentsFound (n : SchemaVersion) (db : Database) (m : MetaRow) : Type 0 where
  pub next : m.next ≡ length (db.trees entries_tree) + 1
  pub departments : (ds : List DepartmentRow) × AreDepartmentsByName n db ds
  pub sums : (v : Vault) → AreBuckets n db v.buckets → AreEntries (is_external n) db (entries_in v.histories) → AllByRecursion (IsPast v.last) (entries_in v.histories) → AreTenuresOf n db v
      → (summed : List (List ℕ)) × AreSums n db v.histories summed

-- callers, and buckets with their rules
pub record NamesFound (n : SchemaVersion) (db : Database) : Type 0 where
  pub callers : (cs : List Caller) × AreCallers db cs
  pub buckets : (bs : List Bucket) × AreBuckets n db bs

-- the contents, the settings and the notes of these entries
pub record VersionsFound (n : SchemaVersion) (db : Database) (es : List Entry) : Type 0 where
  pub contents : (hs : List History) × AreContents n db es hs
  pub settings : (hs : List History) × AreSettings db es hs
  pub notes : (ns : List Note) × AreNotes (is_external n) db es ns

-- the tenures of the versions in these buckets, where this is the row of meta
abbrev pub TenuresFound : SchemaVersion → Database → MetaRow → Type 0
TenuresFound n db m =
    IsMetaOf n db (Some m) → (v : Vault) → v.last ≡ m.last → v.moves ≡ m.moves → AreBuckets n db v.buckets → AreEntries (is_external n) db (entries_in v.histories)
    → AllByRecursion (IsPast v.last) (entries_in v.histories) → AllByRecursion (IsPlaced v) v.histories
    → (hs : List History) × AreTenuresWith n db v hs
