-- What a transaction that makes an edit of the tables leaves.
use Rattle.std.specs.Prelude.{◌≡◌, Bool, IsTrue, Result, OnOk, OnErr}
use Rattle.sqlite_trees.specs.Tree.{Trees}
use Rattle.sqlite.specs.Effect.{IsDatabase}
use Rattle.sqlite.specs.State.{State, HasCleanDisk}
use Rattle.sqlite_trees.specs.declared.store.Store.{Ghosts}
use Rattle.sqlite.specs.Held.{Held, state}
use Rattle.vault_core_model.specs.Vault.{Vault}
use Rattle.vault_audit_model.specs.Tables.{vault_schema}
use Rattle.vault_store_model.specs.Rows.{Rows, AreSameRows, rows_in}
use Rattle.vault_store_model.specs.Edits.{IgnoresOrder}
use Rattle.vault_store_model.specs.Keeping.{Keeps}

-- The tables are edited, list their schema and obey it, and that is committed. They are those of a vault that registers contents which are kept outside, or doesn't.
pub record Commits (external : Bool) (old new : State) (edit : Rows → Rows) : Type 0 where
  pub was_open : IsTrue old.is_open
  pub is_open : IsTrue new.is_open
  pub committed : new.committed ≡ new.now
  pub schema : old.now.schema ≡ vault_schema external → new.now.schema ≡ vault_schema external
  pub listed : old.now.schema ≡ vault_schema external → IsDatabase new.now
  pub rows : old.now.schema ≡ vault_schema external → AreSameRows (edit (rows_in external old.now)) (rows_in external new.now)
  pub ignores : IgnoresOrder edit

-- where it is answered over the tables of a vault, they are edited so, and that is committed
abbrev pub CommitsEdit : {S A E : Type 0} → Ghosts S → Held S → Held S → Result A E → (Rows → Rows) → Type 0
CommitsEdit g old new result edit = HasCleanDisk (state g new) → OnOk result ((external : Bool) → (state g old).now.schema ≡ vault_schema external → Commits external (state g old) (state g new) edit)

-- trees of the edited tables, which list their schema and obey it
pub record MayCommit (external : Bool) (old : State) (edit : Rows → Rows) (trees : Trees) : Type 0 where
  pub was_open : IsTrue old.is_open
  pub listed : old.now.schema ≡ vault_schema external → IsDatabase (record { schema = vault_schema external; trees = trees })
  pub rows : old.now.schema ≡ vault_schema external → AreSameRows (edit (rows_in external old.now)) (rows_in external (record { schema = vault_schema external; trees = trees }))
  pub ignores : IgnoresOrder edit

-- trees that a part in its limits may commit, where the connection is open and has the tables of a vault
abbrev pub MayCommitPart : Type 0 → State → (Rows → Rows) → Trees → Type 0
MayCommitPart limits old edit trees = limits × IsTrue old.is_open × ((external : Bool) → old.now.schema ≡ vault_schema external → MayCommit external old edit trees)

-- where it fails, a vault that was kept is
abbrev pub KeepsIfErr : {S A E : Type 0} → Ghosts S → Held S → Held S → Result A E → Type 0
KeepsIfErr g old new result = HasCleanDisk (state g new) → OnErr result ((v : Vault) → Keeps (state g old) v → Keeps (state g new) v)
