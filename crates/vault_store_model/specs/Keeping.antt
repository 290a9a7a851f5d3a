-- Which vault the tables of a connection spell.
use Rattle.std.specs.Prelude.{◌≡◌, IsTrue}
use Rattle.sqlite_trees.specs.Tree.{Trees}
use Rattle.sqlite.specs.State.{State}
use Rattle.vault_core_model.specs.Vault.{Vault}
use Rattle.vault_audit_model.specs.Tables.{vault_schema}
use Rattle.vault_audit_model.specs.Spells.{AreSound}

-- While the connection is open, its tables are sound and spell the vault, and all is committed. A connection that
-- a failure has shut answers nothing more, and so keeps any vault.
abbrev pub Keeps : State → Vault → Type 0
Keeps s v = IsTrue s.is_open → AreSound s.now v × (s.committed ≡ s.now)

-- trees that the next opening reads as this vault
abbrev pub AreTreesOf : Vault → Trees → Type 0
AreTreesOf v trees = AreSound (record { schema = vault_schema v.external; trees = trees }) v
