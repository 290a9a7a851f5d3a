-- What commands leave of the vault in a connection's tables.
use Rattle.std.specs.Prelude.{◌≡◌, List, IsTrue}
use Rattle.sqlite_trees.specs.declared.store.Store.{Ghosts}
use Rattle.sqlite.specs.Held.{Held, state}
use Rattle.vault_core_model.specs.declared.command.Timed.{Timed}
use Rattle.vault_core_model.specs.declared.reply.Reply.{Reply}
use Rattle.vault_core_model.specs.Step.{IsRun}
use Rattle.vault_core_model.specs.Vault.{Vault}
use Rattle.vault_store_apply.specs.Left.{LeavesAlone}
use Rattle.vault_store.specs.Kept.{StandsFor}
use Rattle.vault_store.specs.Left.{LeavesOneOf}
use Rattle.vault_store.specs.VaultOf.{vault_of}
use Rattle.vault_store.specs.declared.sql_keeper.SqlKeeper.{SqlKeeper}

-- A keeper of this connection keeps the vault that these commands lead to from v, with these replies. While the connection is open, its tables spell that vault, and a crash leaves it alone;
-- where a failure has shut the connection, a crash leaves it, or it with one of the changes that the keeper was refused after all that it made.
pub record AreCarriedOut {S : Type 0} (g : Ghosts S) (conn : Held S) (v : Vault) (commands : List Timed) (replies : List Reply) : Type 0 where
  pub keeper : SqlKeeper S g
  pub same : conn ≡ keeper.conn
  pub run : IsRun v commands replies (vault_of g keeper)
  pub stands : StandsFor (state g conn) (vault_of g keeper)
  pub alone : IsTrue (state g conn).is_open → LeavesAlone (state g conn) (vault_of g keeper)
  pub crash : LeavesOneOf (state g conn) (vault_of g keeper) keeper.refused.items
