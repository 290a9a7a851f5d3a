-- What a crash leaves, as the next opening finds it.
use Rattle.sqlite_trees.specs.Tree.{Trees}
use Rattle.sqlite_trees.specs.declared.store.Store.{Ghosts}
use Rattle.sqlite.specs.Effect.{IsDatabase}
use Rattle.sqlite.specs.Held.{Held, state}
use Rattle.sqlite.specs.State.{State, Survives}
use Rattle.vault_core_model.specs.Vault.{Vault}
use Rattle.vault_audit_model.specs.Tables.{vault_schema}
use Rattle.vault_store_model.specs.Keeping.{AreTreesOf}

-- The next opening finds this vault in these trees: they list the schema of such a vault, and no other, and the tables spell it soundly.
pub record IsFoundIn (v : Vault) (trees : Trees) : Type 0 where
  pub spelled : AreTreesOf v trees
  pub listed : IsDatabase (record { schema = vault_schema v.external; trees = trees })

-- a crash at this moment leaves this vault, and nothing else
abbrev pub LeavesAlone : State → Vault → Type 0
LeavesAlone s v = (trees : Trees) → s.may_leave trees → IsFoundIn v trees

-- a crash during the call leaves what it could leave before, or this vault
abbrev pub MayLeave : {S : Type 0} → Ghosts S → Held S → Held S → Vault → Type 0
MayLeave g old new v = Survives (state g old) (state g new) (IsFoundIn v)
