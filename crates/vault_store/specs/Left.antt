-- What a crash leaves of a vault that is kept: it, or it with one change more, which was refused.
use Rattle.std.specs.Prelude.{◌⊎◌, ℕ, ◌≤◌, List, [], ◌∷◌}
use Rattle.sqlite_trees.specs.Tree.{Trees}
use Rattle.sqlite.specs.State.{State}
use Rattle.vault_core_model.specs.Allowed.{Allows}
use Rattle.vault_core_model.specs.Change.{changed}
use Rattle.vault_core_model.specs.declared.change.Change.{Change}
use Rattle.vault_core_model.specs.Sound.{Sound}
use Rattle.vault_core_model.specs.Vault.{Vault}
use Rattle.vault_store_model.specs.Keeping.{Keeps}
use Rattle.vault_store_apply.specs.Left.{IsFoundIn}

-- a change, with its moment, was one that the vault allows, and the next opening finds the vault with it in these trees
pub record IsFoundWith (v : Vault) (c : ℕ × Change) (trees : Trees) : Type 0 where
  pub in_time : v.last ≤ c.0
  pub allowed : Allows v c.0 c.1
  pub found : IsFoundIn (changed v c.0 c.1) trees

-- the next opening finds the vault in these trees, or the vault with one of these changes
abbrev pub IsOneFoundIn : Vault → List (ℕ × Change) → Trees → Type 0
IsOneFoundIn v [] trees = IsFoundIn v trees
IsOneFoundIn v (c ∷ cs) trees = IsFoundWith v c trees ⊎ IsOneFoundIn v cs trees

-- a crash at this moment leaves the vault, or the vault with one of these changes, and nothing else
abbrev pub LeavesOneOf : State → Vault → List (ℕ × Change) → Type 0
LeavesOneOf s v refused = (trees : Trees) → s.may_leave trees → IsOneFoundIn v refused trees

-- a connection keeps a sound vault, which its tables spell while it is open, and a crash leaves that, or it with one of these changes
pub record IsKept (s : State) (v : Vault) (refused : List (ℕ × Change)) : Type 0 where
  pub sound : Sound v
  pub keeps : Keeps s v
  pub left : LeavesOneOf s v refused
