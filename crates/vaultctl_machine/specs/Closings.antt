-- What a vault's files hold once they are closed, and what a vault came to from its opening to there.
use Rattle.std.specs.Prelude.{◌≡◌, ◌∷◌, ◌++◌, [], Bool, true, List}
use Rattle.sqlite_disk.specs.declared.Disk.{Ghosts}
use Rattle.sqlite_disk.specs.declared.Files.{Files}
use Rattle.sqlite_store.specs.declared.store.FileStore.{FileStore}
use Rattle.sqlite_wal.specs.Files.{outcomes}
use Rattle.sqlite_wal.specs.Reads.{AreClean}
use Rattle.sqlite_wal.specs.Recovery.{Image}
use Rattle.sqlite.specs.Files.{file_state, over_files}
use Rattle.sqlite.specs.Held.{Held}
use Rattle.sqlite.specs.State.{State, HasCleanDisk}
use Rattle.vault_core_model.specs.Vault.{Vault}
use Rattle.vault_store.specs.Copied.{registering}
use Rattle.vault_store.specs.Kept.{StandsFor}
use Rattle.vault_store.specs.VaultOf.{vault_of}
use Rattle.vault_store.specs.declared.sql_keeper.SqlKeeper.{SqlKeeper}
use Rattle.vaultctl_machine.specs.Files.{IsFoundEarlier, IsFoundIn, IsHeldIn}

-- Whatever a crash leaves of two files that were closed, the one without its log holds the keeper's vault, and so do both together: if the disk returned what was written.
abbrev pub HoldVault : {D : Type 0} {g : Ghosts D} → SqlKeeper (FileStore D g) over_files → Files D → Type 0
HoldVault {D} {g} keeper files =
    AreClean g files.log files.db → (image : Image) → outcomes g files.log files.db image
    → ∥ IsHeldIn image (vault_of over_files keeper) ∥₁ × ∥ IsHeldIn (record image { log = [] }) (vault_of over_files keeper) ∥₁

-- one connection more was closed, of which this holds
abbrev pub Closes : {C : Type 0} → List (C × Bool) → List (C × Bool) → (C → Type 0) → Type 0
Closes {C} old new P = (conn : C) × (new ≡ old ++ (conn, true) ∷ []) × P conn

-- A vault from its opening to its closing: the first was found in files that held this image, what was done leads from the first to the last, and the connection stood for the last when it was closed.
pub record IsCarriedOn (image : Image) (s : State) (Does : Vault → Vault → Type 0) : Type 0 where
  pub first : Vault
  pub last : Vault
  pub found : IsFoundIn image first
  pub stands : ∥ StandsFor s last ∥₁
  pub done : Does first last

-- one vault more was closed, which was found in files that held this image, after this was done with it; if the disk returned what was written
abbrev pub Carries : {D : Type 0} {g : Ghosts D} → Image → List (Held (FileStore D g) × Bool) → List (Held (FileStore D g) × Bool) → (Vault → Vault → Type 0) → Type 0
Carries image old new Does = Closes old new (λ conn. HasCleanDisk (file_state conn) → IsCarriedOn image (file_state conn) Does)

-- The vault of an earlier schema version that was found in files that held this image was copied: both connections were closed, and the second one stood for the copy, which registers contents that are kept outside, or doesn't; if both disks returned what was written.
abbrev pub Copies : {D E : Type 0} {g : Ghosts D} {h : Ghosts E} → Bool → Image → List (Held (FileStore D g) × Bool) → List (Held (FileStore D g) × Bool)
    → List (Held (FileStore E h) × Bool) → List (Held (FileStore E h) × Bool) → Type 0
Copies external image old new none copies =
    Closes old new (λ source. Closes none copies (λ conn. HasCleanDisk (file_state source) → HasCleanDisk (file_state conn)
    → (v : Vault) × IsFoundEarlier external image v × ∥ StandsFor (file_state conn) (registering external v) ∥₁))
