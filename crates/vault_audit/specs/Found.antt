-- What the looks at the tables find, and the vault that this is.
use Rattle.std.specs.Prelude.{◌≡◌, ℕ, ◌+◌, List, [], ◌∷◌, length, map, IsPermutation}
use Rattle.std.specs.List.{AllByRecursion}
use Rattle.sqlite.specs.Effect.{Database}
use Rattle.vault_core_model.specs.declared.records.Bucket.{Bucket}
use Rattle.vault_core_model.specs.declared.records.Caller.{Caller}
use Rattle.vault_core_model.specs.declared.records.Entry.{Entry}
use Rattle.vault_core_model.specs.declared.records.History.{History}
use Rattle.vault_core_model.specs.declared.records.Note.{Note}
use Rattle.vault_core_model.specs.Vault.{Vault}
use Rattle.vault_audit_model.specs.declared.schema.SchemaVersion.{SchemaVersion}
use Rattle.vault_audit_model.specs.SchemaVersions.{number_of, is_external}
use Rattle.vault_audit_model.specs.declared.rows.DepartmentRow.{DepartmentRow}
use Rattle.vault_audit_model.specs.declared.rows.MetaRow.{MetaRow}
use Rattle.vault_audit_model.specs.Limits.{IsMetaRow}
use Rattle.vault_audit_model.specs.Relations.{AreCallers, AreEntries, AreContents, AreSettings, AreNotes, AreTenuresOf, AreBuckets, AreSums, IsPast}
use Rattle.vault_audit_model.specs.Rows.{meta_row, meta_columns_as, department_row, department_columns_as}
use Rattle.vault_audit_model.specs.Spells.{department_in, entries_in}
use Rattle.vault_audit_model.specs.Tables.{schema_of, meta_tree, departments_tree}
use Rattle.vault_audit_laws.specs.Ties.{AreTied}
use Rattle.vault_audit_records.specs.ByName.{AreDepartmentsByName}
use Rattle.vault_audit_laws.specs.Parts.{vault_of, versions_at}

-- the names of departments
abbrev pub names_of : List DepartmentRow → List (List ℕ)
names_of ds = map (λ (d : DepartmentRow). d.name) ds

-- the vault of what is found
abbrev pub found_vault : SchemaVersion → MetaRow → List DepartmentRow → List Caller → List Bucket → List Note → List History → List History → List History → Vault
found_vault ed m departments callers buckets notes contents settings tenures =
    vault_of ed m (names_of departments) callers buckets notes contents settings tenures

-- the rows of departments have the sums over the tenures of the vault
abbrev pub HaveSums : SchemaVersion → Database → Vault → Type 0
HaveSums ed db v =
    IsPermutation (map (λ d. department_row (department_in v d)) v.departments) (map (department_columns_as ed) (db.trees departments_tree))

-- what each look finds
pub record AreFound (ed : SchemaVersion) (db : Database) (m : MetaRow) (departments : List DepartmentRow) (callers : List Caller) (buckets : List Bucket) (notes : List Note) (entries : List Entry) (contents settings tenures : List History) (summed : List (List ℕ)) : Type 0 where
  pub schema : db.schema ≡ schema_of ed
  pub tied : AreTied ed db
  pub meta : IsPermutation (meta_row m ∷ []) (map (meta_columns_as ed) (db.trees meta_tree)) × IsMetaRow m × (m.schema ≡ number_of ed)
  pub next : m.next ≡ length entries + 1
  pub departments_are : AreDepartmentsByName ed db departments
  pub callers_are : AreCallers db callers
  pub buckets_are : AreBuckets ed db buckets
  pub entries_are : AreEntries (is_external ed) db entries
  pub past : AllByRecursion (IsPast m.last) entries
  pub contents_are : AreContents ed db entries contents
  pub settings_are : AreSettings db entries settings
  pub notes_are : AreNotes (is_external ed) db entries notes
  pub tenures_are : (entries_in tenures ≡ entries) × AreTenuresOf ed db (versions_at m buckets tenures)
  pub sums_are : AreSums ed db tenures summed
