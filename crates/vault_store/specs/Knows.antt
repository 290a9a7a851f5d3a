-- What a keeper knows of its vault without asking.
use Rattle.sqlite_trees.specs.declared.store.Store.{Ghosts}
use Rattle.sqlite.specs.Held.{Held, state}
use Rattle.sqlite.specs.State.{HasCleanDisk}
use Rattle.vault_core_model.specs.Vault.{Vault}
use Rattle.vault_store_model.specs.Keeping.{Keeps}
use Rattle.vault_store_model.specs.declared.known.Known.{Known}
use Rattle.vault_store_model.specs.Known.{AreKnown}

-- what was known of the vault that a connection kept, what is known then is true of it too
abbrev pub StaysKnown : {S : Type 0} → Ghosts S → Held S → Held S → Known → Known → Type 0
StaysKnown g old new before after = HasCleanDisk (state g new) → (v : Vault) → Keeps (state g old) v → AreKnown before v → AreKnown after v
