-- What the tables say, each by itself, and the vault that this makes.
use Rattle.std.specs.Prelude.{◌≡◌, ℕ, ◌+◌, false, List, [], ◌∷◌, length, map, IsSome, IsTrue, IsPermutation}
use Rattle.std.specs.List.{AllByRecursion, list_any}
use Rattle.std.specs.Str.{bytes_eq}
use Rattle.sqlite_value.specs.declared.value.Value.TheVariants.{Text}
use Rattle.sqlite_value.specs.Order.{column}
use Rattle.sqlite.specs.Effect.{Database}
use Rattle.vault_rules.specs.Rules.{passes_if_given}
use Rattle.vault_core_model.specs.declared.records.Bucket.{Bucket}
use Rattle.vault_core_model.specs.declared.records.Caller.{Caller}
use Rattle.vault_core_model.specs.declared.records.Entry.{Entry}
use Rattle.vault_core_model.specs.declared.records.History.{History}
use Rattle.vault_core_model.specs.declared.records.Note.{Note}
use Rattle.vault_core_model.specs.Order.{IsAscending, name_cmp}
use Rattle.vault_core_model.specs.Vault.{Vault, config_in}
use Rattle.vault_audit_model.specs.declared.schema.SchemaVersion.{SchemaVersion}
use Rattle.vault_audit_model.specs.SchemaVersions.{number_of, is_external}
use Rattle.vault_audit_model.specs.declared.rows.MetaRow.{MetaRow}
use Rattle.vault_audit_model.specs.Limits.{IsMetaRow, IsPlainName}
use Rattle.vault_audit_model.specs.Relations.{AreCallers, AreEntries, AreContents, AreSettings, AreNotes, AreTenuresOf, AreBuckets, IsPast, IsWithin}
use Rattle.vault_audit_model.specs.Rows.{meta_row, meta_columns_as}
use Rattle.vault_audit_model.specs.Spells.{entries_in}
use Rattle.vault_audit_model.specs.Tables.{schema_of, meta_tree, departments_tree}

-- the rows of departments have these names
abbrev pub AreDepartments : Database → List (List ℕ) → Type 0
AreDepartments db ds =
    IsPermutation (map (λ d. Text d) ds) (map (λ r. column r 1) (db.trees departments_tree)) × IsAscending name_cmp ds
    × AllByRecursion IsPlainName ds

-- the row of meta is this one, of that schema version, whose next id is above all entries
abbrev pub IsMeta : SchemaVersion → Database → List Entry → MetaRow → Type 0
IsMeta ed db es m =
    IsPermutation (meta_row m ∷ []) (map (meta_columns_as ed) (db.trees meta_tree)) × IsMetaRow m × (m.next ≡ length es + 1) × (m.schema ≡ number_of ed)

-- the department of that name is one of these
abbrev pub IsAmong : List (List ℕ) → List ℕ → Type 0
IsAmong ds name = IsTrue (list_any (λ d. bytes_eq d name) ds)

-- the caller's department, where there is one, is one of these
abbrev pub WorksFor : List (List ℕ) → Caller → Type 0
WorksFor ds c = IsTrue (passes_if_given (λ name. list_any (λ d. bytes_eq d name) ds) c.dept)

-- the contents, the settings and the tenures of these three
abbrev pub put_together : History → History → History → History
put_together c s t = record { entry = c.entry; content = c.content; settings = s.settings; tenures = t.tenures }

-- the contents are those of the first, the settings those of the second, the tenures those of the third; all are of the same entries
abbrev pub joined : List History → List History → List History → List History
joined [] ss ts = []
joined (c ∷ cs) [] ts = []
joined (c ∷ cs) (s ∷ ss) [] = []
joined (c ∷ cs) (s ∷ ss) (t ∷ ts) = put_together c s t ∷ joined cs ss ts

-- these histories in these buckets, at the moment and with the moves that meta states, of which their tenures speak
abbrev pub versions_at : MetaRow → List Bucket → List History → Vault
versions_at m buckets hs =
    record { external = false; last = m.last; departments = []; callers = []; buckets = buckets; notes = []; histories = hs; moves = m.moves }

-- the vault of these parts, in tables of that schema version
abbrev pub vault_of : SchemaVersion → MetaRow → List (List ℕ) → List Caller → List Bucket → List Note → List History → List History → List History → Vault
vault_of ed m departments callers buckets notes contents settings tenures = record {
  external = is_external ed;
  last = m.last;
  departments = departments;
  callers = callers;
  buckets = buckets;
  notes = notes;
  histories = joined contents settings tenures;
  moves = m.moves;
}

-- the departments of the history's tenures are among these
abbrev pub IsTenuredAmong : List (List ℕ) → History → Type 0
IsTenuredAmong ds h = AllByRecursion (λ t. IsAmong ds t.dept) h.tenures

-- what each table says by itself, and what ties them to each other
pub record AreParts (ed : SchemaVersion) (db : Database) (m : MetaRow) (departments : List (List ℕ)) (callers : List Caller) (buckets : List Bucket) (notes : List Note) (entries : List Entry) (contents settings tenures : List History) : Type 0 where
  pub schema : db.schema ≡ schema_of ed
  pub meta : IsMeta ed db entries m
  pub departments_are : AreDepartments db departments
  pub callers_are : AreCallers db callers
  pub buckets_are : AreBuckets ed db buckets
  pub entries_are : AreEntries (is_external ed) db entries
  pub contents_are : AreContents ed db entries contents
  pub settings_are : AreSettings db entries settings
  pub notes_are : AreNotes (is_external ed) db entries notes
  pub tenures_are : (entries_in tenures ≡ entries) × AreTenuresOf ed db (versions_at m buckets tenures)
  pub past : AllByRecursion (IsPast m.last) entries
  pub employed : AllByRecursion (WorksFor departments) callers
  pub owned : AllByRecursion (λ (b : Bucket). IsAmong departments b.config.dept) buckets
  pub placed : AllByRecursion (λ (e : Entry). IsSome (config_in buckets e.bucket)) entries
  pub tenured_departments : AllByRecursion (IsTenuredAmong departments) tenures
  pub within : (dept : List ℕ) → IsWithin tenures dept
