-- Why no vault was given out, and what is known of the connection that was let go of then.
use Rattle.std.specs.Prelude.{◌≡◌, ◌≢◌, ◌⊎◌, Bool, List, IsTrue}
use Rattle.sqlite_wal.specs.Recovery.{Image}
use Rattle.sqlite.specs.Effect.{Database}
use Rattle.sqlite.specs.State.{State, HasCleanDisk}
use Rattle.vault_base.specs.declared.refusal.Refusal.{Refusal}
use Rattle.vault_base.specs.declared.refusal.Refusal.TheVariants.{Damaged, Device, NameTaken}
use Rattle.vault_base.specs.declared.refusal.Table.{Table}
use Rattle.vault_core_model.specs.Vault.{Vault}
use Rattle.vault_audit.specs.Health.{IsHealthy}
use Rattle.vault_audit.specs.Whole.{IsReported}
use Rattle.vault_audit_model.specs.Tables.{no_schema}
use Rattle.vault_store.specs.Copied.{RefusesARow, registering}
use Rattle.vault_store.specs.Create.{IsFault}
use Rattle.vaultctl_machine.specs.Closings.{Closes}
use Rattle.vaultctl_machine.specs.Faults.{ReportsFailure, refusal_of}
use Rattle.vaultctl_machine.specs.Files.{AreSoundEarlier, IsFoundEarlier, IsWholeEarlier, IsWholeIn}
use Rattle.vaultctl_machine.specs.declared.open_error.OpenError.{OpenError}

-- a making is refused where something is there already, or where memory runs out, or by the device
abbrev pub IsUnmade : Refusal → Type 0
IsUnmade r = r ≢ NameTaken → IsFault r

-- a copying also where a table is damaged
abbrev pub IsUncopied : Refusal → Type 0
IsUncopied r = r ≢ NameTaken → IsReported r

-- what is reported is a refusal of these, and a failure of the disk is reported as one
pub record Reports (Reported : Refusal → Type 0) (cause : OpenError) : Type 0 where
  pub stated : Reported (refusal_of cause)
  pub failure : ReportsFailure cause

-- no connection was let go of, or one was, of which this holds
abbrev pub LetsGo : {C : Type 0} → List (C × Bool) → List (C × Bool) → (C → Type 0) → Type 0
LetsGo old new P = (new ≡ old) ⊎ Closes old new P

-- both connections of a copy were let go of, and this holds of the two, or the second one wasn't opened
abbrev pub LetsBothGo : {C D : Type 0} → List (C × Bool) → List (C × Bool) → List (D × Bool) → List (D × Bool) → (C → D → Type 0) → Type 0
LetsBothGo old new none uncopied P = (uncopied ≡ none) ⊎ Closes old new (λ source. Closes none uncopied (P source))

-- the tables of a connection to files that held this were looked at, and refused
pub record IsRefusedOver (image : Image) (s : State) (r : Refusal) : Type 0 where
  -- a store that works is never reported as one that failed
  pub healthy : IsHealthy s → r ≢ Device
  -- nor are files that hold a sound vault reported as damaged
  pub damaged : HasCleanDisk s → (t : Table) → r ≡ Damaged t → (v : Vault) → ¬ IsWholeIn image v

-- a vault of an earlier schema version was looked at in files that held this, and wasn't copied: it isn't reported as damaged where it is sound
pub record IsUncopiedFrom (external : Bool) (image : Image) (s : State) (r : Refusal) : Type 0 where
  pub damaged : HasCleanDisk s → (t : Table) → r ≡ Damaged t → (v : Vault) → ¬ IsWholeEarlier external image v

-- tables of an earlier schema version are sound for a vault, of which a copy is refused for one of its rows
abbrev pub RefusesItsRowEarlier : Bool → Database → Type 0
RefusesItsRowEarlier external db = (v : Vault) × AreSoundEarlier external db v × RefusesARow (registering external v)

-- Where the two stores work, a copy of the vault in files that held this is reported as a failed device only because the tables of the copy refuse a row of that vault.
abbrev pub FailsForItsRow : Bool → Image → State → State → Refusal → Type 0
FailsForItsRow external image source target r = IsHealthy source → IsHealthy target → r ≡ Device → (v : Vault) × IsFoundEarlier external image v × RefusesARow (registering external v)

-- no vault was made in the store of a connection
pub record IsUnmadeOver (s : State) (r : Refusal) : Type 0 where
  -- a store that works is never reported as one that failed
  pub healthy : IsHealthy s → r ≢ Device
  -- where something is there already, it has a table, an index or a view
  pub taken : HasCleanDisk s → IsTrue s.is_open → r ≡ NameTaken → s.now.schema ≢ no_schema
