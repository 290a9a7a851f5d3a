-- What it is for a transaction to make a change of the vault.
use Rattle.std.specs.Prelude.{◌≡◌, ℕ, ◌≤◌, IsTrue}
use Rattle.sqlite_trees.specs.Tree.{Trees}
use Rattle.sqlite_trees.specs.declared.store.Store.{Ghosts}
use Rattle.sqlite.specs.Held.{Held, state}
use Rattle.sqlite.specs.State.{State, Survives}
use Rattle.vault_base.specs.Days.{last_moment}
use Rattle.vault_base.specs.declared.refusal.Table.{Table}
use Rattle.vault_core_model.specs.declared.change.Change.{Change}
use Rattle.vault_core_model.specs.Allowed.{Allows}
use Rattle.vault_core_model.specs.Change.{changed}
use Rattle.vault_core_model.specs.Vault.{Vault}
use Rattle.vault_store_model.specs.Rows.{Rows}
use Rattle.vault_store_model.specs.Keeping.{Keeps}
use Rattle.vault_store_model.specs.Changes.{edit_of}
use Rattle.vault_store_model.specs.Limits.{IsChangeInLimits}
use Rattle.vault_store_apply.specs.Left.{IsFoundIn, LeavesAlone}

-- the edit is that of a change of this vault at t
abbrev pub IsEditOf : (Rows → Rows) → Vault → ℕ → Change → Type 0
IsEditOf edit v t c = (xs : Rows) (u : Table) → edit xs u ≡ edit_of v t c xs u

-- each vault that was kept is kept with this change, and a crash leaves that alone
abbrev pub Changes : State → State → ℕ → Change → Type 0
Changes old new t c = (v : Vault) → Keeps old v → v.last ≤ t → Allows v t c → Keeps new (changed v t c) × LeavesAlone new (changed v t c)

-- each vault that was kept is found in these trees, with this change
abbrev pub AreChanged : State → ℕ → Change → Trees → Type 0
AreChanged old t c trees = (v : Vault) → Keeps old v → v.last ≤ t → Allows v t c → IsFoundIn (changed v t c) trees

-- the same of every change that the edit is, where that and its moment are in their limits
abbrev pub ChangesBy : State → State → ℕ → (Rows → Rows) → Type 0
ChangesBy old new t edit = (v : Vault) (c : Change) → t ≤ last_moment → IsChangeInLimits v.external c → Keeps old v → v.last ≤ t → Allows v t c → (IsTrue old.is_open → IsEditOf edit v t c) → Keeps new (changed v t c) × LeavesAlone new (changed v t c)

abbrev pub AreChangedBy : State → ℕ → (Rows → Rows) → Trees → Type 0
AreChangedBy old t edit trees = (v : Vault) (c : Change) → t ≤ last_moment → IsChangeInLimits v.external c → Keeps old v → v.last ≤ t → Allows v t c → (IsTrue old.is_open → IsEditOf edit v t c) → IsFoundIn (changed v t c) trees

-- where the connection was open, this vault is found in these trees, with the change
abbrev pub IsChanged : State → Vault → ℕ → Change → Trees → Type 0
IsChanged old v t c trees = IsTrue old.is_open → v.last ≤ t → Allows v t c → IsFoundIn (changed v t c) trees

-- a crash during the call leaves what it could leave before, or a vault that was kept, with the change
abbrev pub MayLeaveChanged : {S : Type 0} → Ghosts S → Held S → Held S → ℕ → Change → Type 0
MayLeaveChanged g old new t c = (v : Vault) → Keeps (state g old) v → Survives (state g old) (state g new) (IsChanged (state g old) v t c)
