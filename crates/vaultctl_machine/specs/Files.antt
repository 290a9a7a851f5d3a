-- The vault that a file and its log hold.
use Rattle.std.specs.Prelude.{◌≡◌, Bool, true, false, IsTrue}
use Rattle.sqlite.specs.Effect.{Database, IsDatabase}
use Rattle.sqlite.specs.Files.{AreFoundIn, HoldsDatabase}
use Rattle.sqlite_trees.specs.Tree.{Trees}
use Rattle.sqlite_wal.specs.Recovery.{Image}
use Rattle.vault_core_model.specs.Vault.{Vault}
use Rattle.vault_audit_model.specs.declared.schema.SchemaVersion.{SchemaVersion}
use Rattle.vault_audit_model.specs.declared.schema.SchemaVersion.TheVariants.{First, Second, Third, Fourth}
use Rattle.vault_audit_model.specs.SchemaVersions.{edition_of}
use Rattle.vault_audit_model.specs.Spells.{AreSoundAs}
use Rattle.vault_audit_model.specs.Tables.{schema_of}
use Rattle.vault_store.specs.Copied.{registering}

-- these trees are tables of that schema version that are sound and spell this vault
abbrev pub AreTreesAs : SchemaVersion → Vault → Trees → Type 0
AreTreesAs n v trees = AreSoundAs n (record { schema = schema_of n; trees = trees }) v

-- they hold a database whose tables are of that schema version, are sound and spell this vault
abbrev pub IsHeldAs : SchemaVersion → Image → Vault → Type 0
IsHeldAs n image v = (trees : Trees) × HoldsDatabase image trees × AreTreesAs n v trees

-- and that database lists the schema of that schema version, and obeys it
abbrev pub IsWholeAs : SchemaVersion → Image → Vault → Type 0
IsWholeAs n image v = (trees : Trees) × HoldsDatabase image trees × AreTreesAs n v trees × IsDatabase (record { schema = schema_of n; trees = trees })

-- an opening finds tables in them that are of that schema version, are sound and spell this vault
abbrev pub IsFoundAs : SchemaVersion → Image → Vault → Type 0
IsFoundAs n image v = (trees : Trees) × AreFoundIn image trees × AreTreesAs n v trees

-- the schema versions whose vaults are copied: those before the copy's, which registers contents that are kept outside, or doesn't
abbrev pub is_earlier : Bool → SchemaVersion → Bool
is_earlier external First = true
is_earlier external Second = true
is_earlier external Third = external
is_earlier external Fourth = false

-- tables are sound as those of one of these schema versions, and spell this vault
abbrev pub AreSoundEarlier : Bool → Database → Vault → Type 0
AreSoundEarlier external db v = (n : SchemaVersion) × IsTrue (is_earlier external n) × AreSoundAs n db v

-- they hold a database that lists the schema of one of these, and obeys it; its tables are sound and spell this vault
abbrev pub IsWholeEarlier : Bool → Image → Vault → Type 0
IsWholeEarlier external image v = (n : SchemaVersion) × IsTrue (is_earlier external n) × IsWholeAs n image v

-- an opening finds tables in them that are of one of these, are sound and spell this vault
abbrev pub IsFoundEarlier : Bool → Image → Vault → Type 0
IsFoundEarlier external image v = (n : SchemaVersion) × IsTrue (is_earlier external n) × IsFoundAs n image v

-- this vault is the copy of one that tables spell which an opening finds in them
abbrev pub IsCopiedFrom : Bool → Image → Vault → Type 0
IsCopiedFrom external image w = (v : Vault) × IsFoundEarlier external image v × (w ≡ registering external v)

-- the same of the schema version that such a vault's file has
abbrev pub IsHeldIn : Image → Vault → Type 0
IsHeldIn image v = IsHeldAs (edition_of v.external) image v

abbrev pub IsFoundIn : Image → Vault → Type 0
IsFoundIn image v = IsFoundAs (edition_of v.external) image v

abbrev pub IsWholeIn : Image → Vault → Type 0
IsWholeIn image v = IsWholeAs (edition_of v.external) image v
