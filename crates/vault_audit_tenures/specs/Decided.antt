-- Whether the rows of tenures are those of a vault.
use Rattle.std.specs.Prelude.{◌≡◌, ℕ, Bool, false, Some, ⊤}
use Rattle.std.specs.List.{AllByRecursion}
use Rattle.sqlite.specs.Effect.{Database}
use Rattle.vault_core_model.specs.Sound.{IsPlaced}
use Rattle.vault_core_model.specs.Vault.{Vault}
use Rattle.vault_audit_model.specs.declared.rows.MetaRow.{MetaRow}
use Rattle.vault_audit_model.specs.declared.schema.SchemaVersion.{SchemaVersion}
use Rattle.vault_audit_model.specs.declared.schema.SchemaVersion.TheVariants.{Third, First, Second, Fourth}
use Rattle.vault_audit_model.specs.Relations.{AreBuckets, AreEntries, IsPast, DecidesTenures}
use Rattle.vault_audit_model.specs.Spells.{AreSoundAs, entries_in}
use Rattle.vault_audit_records.specs.Meta.{IsMetaOf}
use Rattle.vault_audit_model.specs.SchemaVersions.{is_external}

-- the schema version has a table of tenures
abbrev pub HasTenuresTable : SchemaVersion → Type 0
HasTenuresTable First = ⊥
HasTenuresTable Second = ⊥
HasTenuresTable Third = ⊤
HasTenuresTable Fourth = ⊤

-- those of whichever vault has the buckets and the entries of the rows, with that many moves and that last moment
abbrev pub DecidesTenuresBy : SchemaVersion → ℕ → ℕ → Database → Bool → Type 0
DecidesTenuresBy n moves last db found =
    (v : Vault) → v.last ≡ last → v.moves ≡ moves → AreBuckets n db v.buckets → AreEntries (is_external n) db (entries_in v.histories) → DecidesTenures n db v found

-- the same of a schema version, where this is the row of meta
abbrev pub DecidesTenuresOf : SchemaVersion → Database → MetaRow → Bool → Type 0
DecidesTenuresOf n db m found =
    IsMetaOf n db (Some m) → (v : Vault) → v.last ≡ m.last → v.moves ≡ m.moves → AreBuckets n db v.buckets → AreEntries (is_external n) db (entries_in v.histories)
    → AllByRecursion (IsPast v.last) (entries_in v.histories) → AllByRecursion (IsPlaced v) v.histories → DecidesTenures n db v found

-- where they are not, the tables are sound for no vault
abbrev pub DamagedUnless : SchemaVersion → Database → MetaRow → Bool → Type 0
DamagedUnless n db m found = found ≡ false → IsMetaOf n db (Some m) → (v : Vault) → ¬ AreSoundAs n db v
