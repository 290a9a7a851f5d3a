-- From one opening of files to the next.
use Rattle.std.proofs.Common.{◌≡◌, ℕ, List, [], ◌∷◌, Result, Ok, Err, IsTrue, inl, inr, arith, sym, ap, subst, ◌∙◌}
use Rattle.std.proofs.Math.Logic.{∥∥₁_elim, ∥∥₁_map}
use Rattle.std.specs.Prelude.{IfOk}
use Rattle.sqlite_catalog.proofs.ReadLemmas.{lists_once}
use Rattle.sqlite_disk.specs.declared.Disk.{Ghosts}
use Rattle.sqlite_store.specs.declared.store.FileStore.{FileStore}
use Rattle.sqlite_store.specs.FileStore as store
use Rattle.sqlite_trees.specs.Objects.{catalog_tree}
use Rattle.sqlite_trees.specs.View.{IsClean, IsQuiet, IsRolledBack}
use Rattle.sqlite_wal.specs.Recovery.{Image}
use Rattle.sqlite.specs.Effect.{Database, IsDatabase}
use Rattle.sqlite.specs.Files.{AreFoundIn, file_state, over_files}
use Rattle.sqlite.specs.Held.{AreDatabases}
use Rattle.sqlite.specs.Start.{FindsIn}
use Rattle.sqlite.specs.State.{State, HasCleanDisk, IsLive, IsUnchanged, Opens}
use Rattle.sqlite.proofs.Theorems.{next_run}
use Rattle.vault_core_model.specs.Change.{changed}
use Rattle.vault_core_model.specs.declared.change.Change.{Change}
use Rattle.vault_core_model.specs.Vault.{Vault}
use Rattle.vault_audit_model.specs.Spells.{AreSound}
use Rattle.vault_audit_model.specs.Tables.{vault_schema}
use Rattle.vault_store_apply.specs.Left.{IsFoundIn, LeavesAlone}
use Rattle.vault_store.specs.Acknowledged.{AreSoundFor}
use Rattle.vault_store.specs.Left.{IsOneFoundIn}
use Rattle.vault_store.specs.VaultOf.{vault_of}
use Rattle.vault_store.specs.declared.sql_keeper.SqlKeeper.{SqlKeeper}
use Rattle.vaultctl_machine.specs.Openings.{FindsWhatWasLeft, IsFoundAgain, IsOpenedFrom, MayLeaveFiles}

-- trees in which the next opening finds a vault list a schema, and obey it
are_databases : (v : Vault) (refused : List (ℕ × Change)) → AreDatabases (IsOneFoundIn v refused)
are_databases v [] trees found = (vault_schema v.external, found.listed)
are_databases v (c ∷ cs) trees (inl it) = (vault_schema (changed v c.0 c.1).external, it.found.listed)
are_databases v (c ∷ cs) trees (inr more) = are_databases v cs trees more

-- ---- what the next opening finds is the vault that is kept, or it with one change that was refused

module _ (opened : State) (is_open : IsTrue opened.is_open) (live : IsLive opened) (settled : opened.now ≡ opened.committed) where
  -- trees list one schema, so that of the opening is the one of the vault's file
  read_again : (v : Vault) → IsFoundIn v opened.committed.trees → AreSound opened.now v
  read_again v found =
      let db = opened.committed in
      let same = lists_once (db.trees catalog_tree) db.schema (vault_schema v.external) (live is_open).1.lists found.listed.lists in
      subst (λ (d : Database). AreSound d v) (sym settled) (subst (λ s. AreSound (record { schema = s; trees = db.trees }) v) (sym same) found.spelled)

  read_all : (v : Vault) (refused : List (ℕ × Change)) → IsOneFoundIn v refused opened.committed.trees → AreSoundFor opened.now v refused
  read_all v [] found = read_again v found
  read_all v (c ∷ cs) (inl it) = inl record { in_time = it.in_time; allowed = it.allowed; sound = read_again (changed v c.0 c.1) it.found }
  read_all v (c ∷ cs) (inr more) = inr (read_all v cs more)

-- while the connection of a vault is open, a crash leaves that alone
abbrev pub IsLeftAlone : {D : Type 0} {g : Ghosts D} → SqlKeeper (FileStore D g) over_files → Type 0
IsLeftAlone k = ∥ (HasCleanDisk (file_state k.conn) → IsTrue (file_state k.conn).is_open → LeavesAlone (file_state k.conn) (vault_of over_files k)) ∥₁

module _ {D : Type 0} {g : Ghosts D} (k : SqlKeeper (FileStore D g) over_files) (alone : IsLeftAlone k) (clean : HasCleanDisk (file_state k.conn)) (numbered : IsTrue (store.view k.conn.store).is_numbered) where
  -- what is found in the files that a crash leaves at this moment is what the connection might leave
  found_again : (left : Image) → MayLeaveFiles k left → (opened : State) → IsOpenedFrom left opened → IsFoundAgain k opened
  found_again left may opened is =
      let found : ∥ (file_state k.conn).may_leave opened.committed.trees ∥₁ =
      ∥∥₁_elim k.kept squash₁ (λ kept. next_run k.conn.store numbered (λ trees allowed. are_databases _ _ trees ((kept clean).left trees allowed)) left may opened is.finds) in
      record {
        next = record { is_open = is.is_open; settled = is.settled; live = is.live; found = found };
        sound = ∥∥₁_elim k.kept squash₁ (λ kept. ∥∥₁_map found (λ it. read_all opened is.is_open is.live is.settled (vault_of over_files k) k.refused.items ((kept clean).left opened.committed.trees it)));
        alone = λ was_open. ∥∥₁_elim alone squash₁ (λ alone. ∥∥₁_map found (λ it. read_again opened is.is_open is.live is.settled (vault_of over_files k) (alone clean was_open opened.committed.trees it)));
      }

-- by what the store that was let go of says
pub finds_what_was_left : {D E : Type 0} {g : Ghosts D} (h : Ghosts E) (k : SqlKeeper (FileStore D g) over_files) (it : FileStore D g) → IsLeftAlone k → IsRolledBack (store.view k.conn.store) (store.view it)
    → IsQuiet store.view store.faults store.recovers store.is_shielded k.conn.store it → (IsClean (store.view it) → IsTrue (store.view it).is_numbered) → FindsWhatWasLeft k h it
finds_what_was_left h k it alone undone quiet numbered clean left may opened is =
    found_again k alone (omega (arith, quiet.clean, clean)) (subst IsTrue undone.numbered (numbered clean)) left may (file_state opened) is

-- a connection that was only read is as it was opened
pub opened_still : (image : Image) (old new : State) → Opens old → IsLive old → FindsIn image old → IsUnchanged old new → IsOpenedFrom image new
opened_still image old new opens live finds same = record {
  is_open = same.0.is_open;
  settled = same.0.now_is ∙ opens.clean ∙ sym same.0.committed_is;
  live = λ _. (
    subst IsDatabase (sym same.0.now_is) (live opens.is_open).0,
    subst IsDatabase (sym same.0.committed_is) (live opens.is_open).1,
  );
  finds = record {
    holds = λ db holds. ap (λ (d : Database). d.trees) same.0.committed_is ∙ finds.holds db holds;
    reads = subst (λ (d : Database). AreFoundIn image d.trees) (sym same.0.committed_is) finds.reads;
  };
}

-- what holds of a value that is answered holds by another word
pub ok_by : {V E : Type 0} (P Q : V → Type 0) (r : Result V E) → ((v : V) → P v → Q v) → IfOk r P → IfOk r Q
ok_by P Q (Ok v) weaker holds = weaker v holds
ok_by P Q (Err e) weaker holds = tt
