-- What an opening finds in the files of a vault that ended without being closed.
use Rattle.std.specs.Prelude.{◌≡◌, IsTrue}
use Rattle.sqlite_disk.specs.declared.Disk.{Ghosts}
use Rattle.sqlite_store.specs.declared.store.FileStore.{FileStore}
use Rattle.sqlite_store.specs.FileStore as store
use Rattle.sqlite_trees.specs.View.{IsClean}
use Rattle.sqlite_wal.specs.Recovery.{Image}
use Rattle.sqlite.specs.Files.{file_state, over_files}
use Rattle.sqlite.specs.Held.{Held}
use Rattle.sqlite.specs.Start.{FindsIn}
use Rattle.sqlite.specs.State.{State, IsLive}
use Rattle.vault_audit_model.specs.Spells.{AreSound}
use Rattle.vault_store.specs.Acknowledged.{AreSoundFor, IsNextOpening}
use Rattle.vault_store.specs.VaultOf.{vault_of}
use Rattle.vault_store.specs.declared.sql_keeper.SqlKeeper.{SqlKeeper}

-- a connection as an opening of files that held this gives it
pub record IsOpenedFrom (image : Image) (s : State) : Type 0 where
  pub is_open : IsTrue s.is_open
  pub settled : s.now ≡ s.committed
  pub live : IsLive s
  pub finds : FindsIn image s

module _ {D : Type 0} {g : Ghosts D} (k : SqlKeeper (FileStore D g) over_files) where
  -- at this moment a crash may leave this of the vault's two files
  abbrev pub MayLeaveFiles : Image → Type 0
  MayLeaveFiles left = (store.state k.conn.store).may_leave left

  -- a connection is the next opening after this moment, and its tables are sound, for the vault or for the vault with one change more, which was refused after all changes that it has
  pub record IsFoundAgain (opened : State) : Type 0 where
    pub next : IsNextOpening (file_state k.conn) opened
    pub sound : ∥ AreSoundFor opened.now (vault_of over_files k) k.refused.items ∥₁
    -- while the vault's connection was open, for the vault alone
    pub alone : IsTrue (file_state k.conn).is_open → ∥ AreSound opened.now (vault_of over_files k) ∥₁

  -- From one run to the next: whatever a crash may leave of the two files, a connection that an opening of files which hold that gives finds the vault again. This is said of a disk that has returned what was written by the time that the store is let go of.
  abbrev pub FindsWhatWasLeft : {E : Type 0} → Ghosts E → FileStore D g → Type 0
  FindsWhatWasLeft {E} h it =
      IsClean (store.view it) → (left : Image) → MayLeaveFiles left → (opened : Held (FileStore E h)) → IsOpenedFrom left (file_state opened) → IsFoundAgain (file_state opened)
