-- The bytes of the held versions, beside their entries.
use Rattle.std.specs.Prelude.{◌≡◌, ℕ, ◌+◌, ◌≤◌, ◌==◌, ◌&&◌, Bool, not, is_none, List, [], ◌∷◌, length, map, filter, find, Option, None, Some, IsPermutation}
use Rattle.std.specs.List.{AllByRecursion}
use Rattle.sha2.specs.Sha256.{sha256}
use Rattle.sqlite_value.specs.declared.value.Value.TheVariants.{Null, Blob}
use Rattle.sqlite_value.specs.Order.{Row}
use Rattle.sqlite.specs.Effect.{Database}
use Rattle.vault_core_model.specs.declared.records.Entry.{Entry}
use Rattle.vault_core_model.specs.declared.records.History.{History}
use Rattle.vault_audit_model.specs.declared.rows.ContentRow.{ContentRow}
use Rattle.vault_audit_model.specs.declared.schema.SchemaVersion.{SchemaVersion}
use Rattle.vault_audit_model.specs.Limits.{IsContentRow}
use Rattle.vault_audit_model.specs.Relations.{AreContents}
use Rattle.vault_audit_model.specs.Rows.{content_row, content_columns}
use Rattle.vault_audit_model.specs.Tables.{contents_tree}
use Rattle.vault_audit_model.specs.Values.{number}

-- a version that is held: no marker, and not removed
abbrev pub is_held_version : Entry → Bool
is_held_version e = not e.marker && is_none e.removal

-- how many versions are held
abbrev pub held_count : List Entry → ℕ
held_count es = length (filter is_held_version es)

-- the bytes are those of this entry: it is held, and of their size and digest
abbrev pub IsContentOf : Option Entry → ContentRow → Type 0
IsContentOf None c = ⊥
IsContentOf (Some e) c = (e.removal ≡ None) × (length c.content ≡ e.size) × (e.digest ≡ Some (sha256 c.content))

-- the bytes are those of one of these entries
abbrev pub IsContentIn : List Entry → ContentRow → Type 0
IsContentIn es c = IsContentOf (find (λ e. e.id == c.id) es) c

-- the ids rise, the first being no less than this one
abbrev pub AreRisingBy : {X : Type 0} → (X → ℕ) → ℕ → List X → Type 0
AreRisingBy id_of next [] = Unit {0}
AreRisingBy id_of next (x ∷ xs) = (next ≤ id_of x) × AreRisingBy id_of (id_of x + 1) xs

abbrev pub AreRisingFrom : ℕ → List ContentRow → Type 0
AreRisingFrom = AreRisingBy (λ c. c.id)

-- the rows of contents are these, in their limits, each of a held version
pub record AreOfHeld (db : Database) (es : List Entry) (cs : List ContentRow) : Type 0 where
  pub rows : IsPermutation (map content_row cs) (map content_columns (db.trees contents_tree))
  pub rising : AreRisingFrom 1 cs
  pub limits : AllByRecursion IsContentRow cs
  pub held : AllByRecursion (IsContentIn es) cs

-- how many they are; or they aren't such rows
abbrev pub DecidesHeld : SchemaVersion → Database → List Entry → Option ℕ → Type 0
DecidesHeld n db es (Some count) = (cs : List ContentRow) × AreOfHeld db es cs × (count ≡ length cs)
DecidesHeld n db es None = (hs : List History) → ¬ AreContents n db es hs

-- what is shown of bytes beside their entry, where that is a held version of their size and digest
abbrev pub held_row : ContentRow → Row
held_row c = number c.id ∷ Blob c.content ∷ number (length c.content) ∷ Blob (sha256 c.content) ∷ Null ∷ []
