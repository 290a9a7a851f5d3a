-- A vault of an earlier schema version, in tables of its own.
use Rattle.std.specs.Prelude.{Bool}
use Rattle.sqlite_trees.specs.Tree.{Trees}
use Rattle.sqlite.specs.Effect.{Database}
use Rattle.vault_core_model.specs.Vault.{Vault}
use Rattle.vault_audit_model.specs.declared.schema.SchemaVersion.{SchemaVersion}
use Rattle.vault_audit_model.specs.Spells.{AreSoundAs}
use Rattle.vault_store_create.specs.Copied.{RefusesARow, registering}
use Rattle.vault_store_apply.specs.Left.{IsFoundIn}

-- The next opening finds in these trees the copy of the vault that the tables of that schema version are sound for. Where they are sound for none, there are no such trees.
abbrev pub IsMigrated : SchemaVersion → Bool → Database → Trees → Type 0
IsMigrated n external from trees = (v : Vault) × AreSoundAs n from v × IsFoundIn (registering external v) trees

-- The tables of that schema version are sound for a vault, of which a copy is refused for one of its rows.
abbrev pub RefusesItsRow : SchemaVersion → Bool → Database → Type 0
RefusesItsRow n external from = (v : Vault) × AreSoundAs n from v × RefusesARow (registering external v)
