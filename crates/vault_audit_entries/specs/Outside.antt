-- The held versions whose bytes are kept outside, beside their entries and beside the bytes that the tables have.
use Rattle.std.specs.Prelude.{◌≡◌, ℕ, ◌==◌, Bool, false, List, [], ◌∷◌, length, map, find, Option, None, Some, IsPermutation}
use Rattle.std.specs.List.{AllByRecursion, list_any}
use Rattle.sqlite_value.specs.declared.value.Value.TheVariants.{Null}
use Rattle.sqlite_value.specs.Order.{Row}
use Rattle.sqlite.specs.Effect.{Database}
use Rattle.vault_core_model.specs.declared.records.Entry.{Entry}
use Rattle.vault_core_model.specs.declared.records.History.{History}
use Rattle.vault_audit_model.specs.declared.rows.ContentRow.{ContentRow}
use Rattle.vault_audit_model.specs.declared.schema.SchemaVersion.{SchemaVersion}
use Rattle.vault_audit_model.specs.declared.schema.SchemaVersion.TheVariants.{Fourth}
use Rattle.vault_audit_model.specs.Relations.{AreContents}
use Rattle.vault_audit_model.specs.Rows.{content_row, content_columns, external_row}
use Rattle.vault_audit_model.specs.Spells.{external_rows_in}
use Rattle.vault_audit_model.specs.Tables.{contents_tree}
use Rattle.vault_audit_model.specs.Values.{number, flag}
use Rattle.vault_audit_rows.specs.Beside.{Decides}
use Rattle.vault_audit_entries.specs.Contents.{AreRisingBy}

-- the entry is a version that is held
abbrev pub IsHeldVersion : Option Entry → Type 0
IsHeldVersion None = ⊥
IsHeldVersion (Some e) = (e.marker ≡ false) × (e.removal ≡ None)

-- the id is that of one of these
abbrev pub IsHeldIn : List Entry → ℕ → Type 0
IsHeldIn es id = IsHeldVersion (find (λ e. e.id == id) es)

-- what is shown of an id beside its entry, where that is a held version
abbrev pub outside_row : ℕ → Row
outside_row id = number id ∷ flag false ∷ Null ∷ []

abbrev pub AreIdsRisingFrom : ℕ → List ℕ → Type 0
AreIdsRisingFrom = AreRisingBy (λ id. id)

-- the rows of external are these ids, each of a held version
pub record AreHeldIds (n : SchemaVersion) (db : Database) (es : List Entry) (ids : List ℕ) : Type 0 where
  pub rows : IsPermutation (map external_row ids) (external_rows_in n db)
  pub rising : AreIdsRisingFrom 1 ids
  pub held : AllByRecursion (IsHeldIn es) ids

-- how many they are; or they aren't such rows
abbrev pub DecidesHeldIds : Database → List Entry → Option ℕ → Type 0
DecidesHeldIds db es (Some count) = (ids : List ℕ) × AreHeldIds Fourth db es ids × (count ≡ length ids)
DecidesHeldIds db es None = (hs : List History) → ¬ AreContents Fourth db es hs

-- no bytes are of this id
abbrev pub HasNoBytes : List ContentRow → ℕ → Type 0
HasNoBytes cs id = list_any (λ c. c.id == id) cs ≡ false

-- whether no row of external has bytes in contents, too
abbrev pub DecidesAbsence : Database → Bool → Type 0
DecidesAbsence db b =
    (cs : List ContentRow) → IsPermutation (map content_row cs) (map content_columns (db.trees contents_tree))
    → (ids : List ℕ) → IsPermutation (map external_row ids) (external_rows_in Fourth db) → Decides b (AllByRecursion (HasNoBytes cs) ids)

-- the rows of external are these ids of held versions, which have no bytes in contents
pub record AreOutside (n : SchemaVersion) (db : Database) (es : List Entry) (ids : List ℕ) : Type 0 where
  pub are : AreHeldIds n db es ids
  pub apart : (cs : List ContentRow) → IsPermutation (map content_row cs) (map content_columns (db.trees contents_tree)) → AllByRecursion (HasNoBytes cs) ids

-- how many they are, in a schema version without that table none; or they aren't such rows
abbrev pub DecidesOutside : SchemaVersion → Database → List Entry → Option ℕ → Type 0
DecidesOutside n db es (Some count) = (ids : List ℕ) × AreOutside n db es ids × (count ≡ length ids)
DecidesOutside n db es None = (hs : List History) → ¬ AreContents n db es hs
