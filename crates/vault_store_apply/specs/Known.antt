-- What is known of the vault that a connection keeps.
use Rattle.std.specs.Prelude.{IsTrue}
use Rattle.sqlite_trees.specs.declared.store.Store.{Ghosts}
use Rattle.sqlite.specs.Held.{Held, state}
use Rattle.sqlite.specs.State.{HasCleanDisk}
use Rattle.vault_core_model.specs.Vault.{Vault}
use Rattle.vault_store_model.specs.Keeping.{Keeps}
use Rattle.vault_store_model.specs.Known.{AreKnown}
use Rattle.vault_store_model.specs.declared.known.Known.{Known}

-- a connection whose disk has returned what was written is open
abbrev pub IsOpen : {S : Type 0} → Ghosts S → Held S → Type 0
IsOpen g h = HasCleanDisk (state g h) → IsTrue (state g h).is_open

-- a connection is open, and each thing is that of the vault that it keeps
abbrev pub IsKnownOf : {S : Type 0} → Ghosts S → Held S → Known → Type 0
IsKnownOf g h known = IsOpen g h × (HasCleanDisk (state g h) → (v : Vault) → Keeps (state g h) v → AreKnown known v)
