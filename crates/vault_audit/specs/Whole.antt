-- What the passes over all tables say.
use Rattle.std.specs.Prelude.{◌≡◌, ◌⊎◌, ⊤, List, Option, None, Some, Result, Ok, Err}
use Rattle.sqlite.specs.Effect.{Database}
use Rattle.vault_base.specs.declared.refusal.Table.{Table}
use Rattle.vault_base.specs.declared.refusal.Refusal.{Refusal}
use Rattle.vault_base.specs.declared.refusal.Refusal.TheVariants.{Memory, Device, Damaged}
use Rattle.vault_core_model.specs.declared.records.Entry.{Entry}
use Rattle.vault_core_model.specs.Vault.{Vault}
use Rattle.vault_audit_model.specs.declared.schema.SchemaVersion.{SchemaVersion}
use Rattle.vault_audit_model.specs.declared.rows.MetaRow.{MetaRow}
use Rattle.vault_audit_model.specs.Relations.{AreEntries, AreHeads}
use Rattle.vault_audit_model.specs.Spells.{AreSoundAs}
use Rattle.vault_audit_entries.specs.Keys.{entries_of}
use Rattle.vault_audit.specs.Looks.{DepartmentsFound, NamesFound, TenuresFound, VersionsFound}
use Rattle.vault_audit_model.specs.SchemaVersions.{is_external}

-- the entries, what stands beside them, and the heads of their keys
pub record VersionsAndHeads (n : SchemaVersion) (db : Database) : Type 0 where
  pub entries : (es : List Entry) × AreEntries (is_external n) db es
  pub versions : (es : List Entry) → AreEntries (is_external n) db es → VersionsFound n db es
  pub heads : (v : Vault) → AreEntries (is_external n) db (entries_of v) → AreHeads db v

-- what the second pass finds
pub record AllFound (n : SchemaVersion) (db : Database) (m : MetaRow) : Type 0 where
  pub departments : DepartmentsFound n db m
  pub names : NamesFound n db
  pub held : VersionsAndHeads n db
  pub tenures : TenuresFound n db m

-- the tables are sound for a vault; or one is damaged, and they are sound for none
abbrev pub IsAudited : SchemaVersion → Database → Option Table → Type 0
IsAudited n db None = (v : Vault) × AreSoundAs n db v
IsAudited n db (Some table) = (v : Vault) → ¬ AreSoundAs n db v

-- the refusals of an audit
abbrev pub IsReported : Refusal → Type 0
IsReported r = (r ≡ Memory) ⊎ (r ≡ Device) ⊎ ((t : Table) × (r ≡ Damaged t))

-- the tables were judged, whatever they are
abbrev pub IsJudged : Result (Unit {0}) Refusal → Type 0
IsJudged (Ok done) = ⊤
IsJudged (Err r) = (t : Table) × (r ≡ Damaged t)
