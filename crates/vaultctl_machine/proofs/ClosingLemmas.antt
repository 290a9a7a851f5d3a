-- What files hold that were closed.
use Rattle.std.proofs.Common.{◌≡◌, [], Option, None, Some, sym, subst}
use Rattle.std.specs.Prelude.{IfSome}
use Rattle.std.proofs.Math.Logic.{∥∥₁_elim, ∥∥₁_map}
use Rattle.sqlite_disk.specs.declared.Disk.{Ghosts}
use Rattle.sqlite_disk.specs.declared.Files.{Files}
use Rattle.sqlite_store.specs.declared.store.FileStore.{FileStore}
use Rattle.sqlite_wal.specs.Reads.{AreClean}
use Rattle.sqlite_wal.specs.Recovery.{Image}
use Rattle.sqlite.specs.Closing.{IsCopied}
use Rattle.sqlite.specs.Files.{HoldsDatabase, file_state, over_files}
use Rattle.sqlite.specs.Held.{Held}
use Rattle.sqlite.specs.State.{HasCleanDisk}
use Rattle.vault_core_model.specs.Vault.{Vault}
use Rattle.vault_audit_model.specs.SchemaVersions.{edition_of}
use Rattle.vault_audit_model.specs.Spells.{AreSoundAs}
use Rattle.vault_store.specs.Kept.{StandsFor}
use Rattle.vault_store.specs.VaultOf.{vault_of}
use Rattle.vault_store.specs.declared.sql_keeper.SqlKeeper.{SqlKeeper}
use Rattle.vaultctl_machine.specs.Closings.{HoldVault}
use Rattle.vaultctl_machine.specs.Files.{IsHeldIn}

module _ {D : Type 0} {g : Ghosts D} (c : Held (FileStore D g)) (files : Files D) (v : Vault) (copied : IsCopied c files) (stands : StandsFor (file_state c) v) where
  held : (image : Image) → HoldsDatabase image (file_state c).committed.trees → IsHeldIn image v
  held image holds =
      let kept = stands.keeps copied.was_open in
      let is = subst (λ db. AreSoundAs (edition_of v.external) db v) (sym kept.1) kept.0 in
      ((file_state c).committed.trees, holds, subst (λ schema. AreSoundAs (edition_of v.external) (record { schema = schema; trees = (file_state c).committed.trees }) v) is.spells.schema is)

module _ {D : Type 0} {g : Ghosts D} (keeper : SqlKeeper (FileStore D g) over_files) where
  abbrev Stands : Held (FileStore D g) → Type 0
  Stands conn = ∥ (HasCleanDisk (file_state conn) → StandsFor (file_state conn) (vault_of over_files keeper)) ∥₁

  -- of a keeper whose connection was closed so
  hold_vault : (files : Files D) → Stands keeper.conn → (AreClean g files.log files.db → IsCopied keeper.conn files) → HoldVault keeper files
  hold_vault files stands copied clean image left =
      let is = copied clean in
      let holds = is.left image left in
      let v = vault_of over_files keeper in (
        ∥∥₁_elim stands squash₁ (λ s. ∥∥₁_map holds.both (held keeper.conn files v is (s is.was_clean) image)),
        ∥∥₁_elim stands squash₁ (λ s. ∥∥₁_map holds.alone (held keeper.conn files v is (s is.was_clean) (record image { log = [] }))),
      )

  abbrev AreCopies : Held (FileStore D g) → Option (Files D) → Type 0
  AreCopies conn r = IfSome r (λ files. AreClean g files.log files.db → IsCopied conn files)

  hold_copies : (r : Option (Files D)) → Stands keeper.conn → AreCopies keeper.conn r → IfSome r (HoldVault keeper)
  hold_copies None stands copied = tt
  hold_copies (Some files) stands copied = hold_vault files stands copied

  pub hold_if_copied : (conn : Held (FileStore D g)) (r : Option (Files D)) → conn ≡ keeper.conn → Stands conn → AreCopies conn r → IfSome r (HoldVault keeper)
  hold_if_copied conn r same stands copied = hold_copies r (subst Stands same stands) (subst (λ c. AreCopies c r) same copied)

  pub stands_for : (conn : Held (FileStore D g)) → conn ≡ keeper.conn → Stands conn → Stands keeper.conn
  stands_for conn same stands = subst Stands same stands
