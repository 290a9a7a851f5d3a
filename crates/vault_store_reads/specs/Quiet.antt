-- What a read of the vault that a connection keeps says of it, and leaves: that vault, also where a crash comes.
use Rattle.std.specs.Prelude.{IsTrue, ◌≡◌, false, Result, IfOk, OnOk}
use Rattle.sqlite_trees.specs.Tree.{Trees}
use Rattle.sqlite.specs.State.{State, HasCleanDisk, Survives}
use Rattle.sqlite_trees.specs.declared.store.Store.{Ghosts}
use Rattle.sqlite.specs.Held.{Held, state}
use Rattle.vault_core_model.specs.Vault.{Vault}
use Rattle.vault_store_model.specs.Keeping.{Keeps}

-- anything else only where the connection was shut, or stood for no vault
abbrev pub IsQuiet : State → Trees → Type 0
IsQuiet s trees = (v : Vault) → Keeps s v → ¬ IsTrue s.is_open

-- a read changes nothing: a vault that was kept is, and a crash leaves what it left before, unless the connection was shut
pub record OnlyReads {S : Type 0} (g : Ghosts S) (old new : Held S) : Type 0 where
  pub same : HasCleanDisk (state g new) → (v : Vault) → Keeps (state g old) v → Keeps (state g new) v
  pub honest : HasCleanDisk (state g new) → HasCleanDisk (state g old)
  pub mode : old.in_transaction ≡ false → new.in_transaction ≡ false
  pub crash : (v : Vault) → Keeps (state g old) v → Survives (state g old) (state g new) (λ _. ¬ IsTrue (state g old).is_open)

-- the same, where it isn't known yet that a vault was kept
pub record ReadsQuietly {S : Type 0} (g : Ghosts S) (old new : Held S) : Type 0 where
  pub same : HasCleanDisk (state g new) → (v : Vault) → Keeps (state g old) v → Keeps (state g new) v
  pub honest : HasCleanDisk (state g new) → HasCleanDisk (state g old)
  pub mode : old.in_transaction ≡ false → new.in_transaction ≡ false
  pub survives : Survives (state g old) (state g new) (IsQuiet (state g old))

-- where it is answered, this holds of each vault that was kept and of the answer
abbrev pub SaysOf : {S A E : Type 0} → Ghosts S → Held S → Held S → Result A E → (Vault → A → Type 0) → Type 0
SaysOf g old new result Is = HasCleanDisk (state g new) → IfOk result (λ x. (v : Vault) → Keeps (state g old) v → Is v x)

-- where it is answered, the connection is open
abbrev pub IsOpenIfOk : {S A E : Type 0} → Ghosts S → Held S → Result A E → Type 0
IsOpenIfOk g new result = HasCleanDisk (state g new) → OnOk result (IsTrue (state g new).is_open)
