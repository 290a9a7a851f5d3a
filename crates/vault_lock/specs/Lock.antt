-- What guards a version against removal, and what keeps its retention from being lowered.
use Rattle.std.specs.Prelude.{◌≡◌, ℕ, ◌<◌, ◌≤◌, Bool, false, ◌&&◌, nat_lt, nat_le, List, length, [], ◌∷◌, filter, Option, Some, None, Result, Ok, Err, if◌then◌else◌}
use Rattle.vault_lock.specs.declared.retention.Mode.{Mode}
use Rattle.vault_lock.specs.declared.retention.Mode.TheVariants as mode
use Rattle.vault_lock.specs.declared.retention.Retention.{Retention}
use Rattle.vault_lock.specs.declared.lock.Lock.{Lock}
use Rattle.vault_lock.specs.declared.lock.Permit.{Permit}
use Rattle.vault_lock.specs.declared.lock.Permit.TheVariants.{Free, Bypass}
use Rattle.vault_lock.specs.declared.lock.Denial.{Denial}
use Rattle.vault_lock.specs.declared.lock.Denial.TheVariants.{Hold, Compliance, Governance}
use Rattle.vault_lock.specs.Retention.{is_mode, in_force}

-- a retention of that mode is in force
abbrev pub has_mode : Mode → Option Retention → Bool
has_mode m None = false
has_mode m (Some r) = is_mode m r.mode

-- whether it guards a version with this lock at t
abbrev pub is_guard : Lock → ℕ → Denial → Bool
is_guard l t Hold = l.hold
is_guard l t Compliance = has_mode mode.Compliance (in_force l.retention t)
is_guard l t Governance = has_mode mode.Governance (in_force l.retention t)

-- the set of guards of a version with this lock at t, in the order in which they are named (S3 User Guide, "Locking objects with Object Lock")
abbrev pub guards : Lock → ℕ → List Denial
guards l t = filter (is_guard l t) (Hold ∷ Compliance ∷ Governance ∷ [])

-- no guard: free; governance alone: by a bypass that is asked and allowed; else the first guard denies (S3 User Guide, "Locking objects with Object Lock": Bypassing governance mode)
abbrev pub permit_under : List Denial → Bool → Bool → Result Permit Denial
permit_under [] asked allowed = Ok Free
permit_under (Governance ∷ []) asked allowed = if asked && allowed then Ok Bypass else Err Governance
permit_under (g ∷ gs) asked allowed = Err g

-- whether a version with this lock may be removed at t
abbrev pub removable : Lock → ℕ → Bool → Bool → Result Permit Denial
removable l t asked allowed = permit_under (guards l t) asked allowed

-- a version with this lock is locked at t
abbrev pub is_locked : Lock → ℕ → Bool
is_locked l t = nat_lt 0 (length (guards l t))

-- the denial that names a mode
abbrev pub denial_of : Mode → Denial
denial_of mode.Governance = Governance
denial_of mode.Compliance = Compliance

-- the new retention has the mode of the old one and doesn't end earlier
abbrev pub keeps : Retention → Retention → Bool
keeps old new = is_mode old.mode new.mode && nat_le old.until new.until

-- who may change a retention of this mode, where the new one doesn't keep it
abbrev pub permit_to_lower : Mode → Bool → Bool → Result Permit Denial
permit_to_lower mode.Compliance asked allowed = Err Compliance
permit_to_lower mode.Governance asked allowed = if asked && allowed then Ok Bypass else Err Governance

-- whether the new retention may take the place of what is in force (API Reference, "PutObjectRetention")
abbrev pub permit_instead : Option Retention → Retention → Bool → Bool → Result Permit Denial
permit_instead None new asked allowed = Ok Free
permit_instead (Some old) new asked allowed =
    if keeps old new then Ok Free else permit_to_lower old.mode asked allowed

-- whether a version with this lock may get the new retention at t; a hold doesn't matter
abbrev pub retainable : Lock → Retention → ℕ → Bool → Bool → Result Permit Denial
retainable l new t asked allowed = permit_instead (in_force l.retention t) new asked allowed

-- where a retention is in force, the new one has its mode and doesn't end earlier
abbrev pub KeepsRetention : Option Retention → Retention → ℕ → Type 0
KeepsRetention None new t = Unit {0}
KeepsRetention (Some old) new t = t < old.until → (new.mode ≡ old.mode) × (old.until ≤ new.until)

-- a retention whose mode has that name in denials is in force
abbrev pub HasInForce : Option Retention → ℕ → Denial → Type 0
HasInForce None t d = ⊥
HasInForce (Some r) t d = (t < r.until) × (d ≡ denial_of r.mode)

-- governance is in force, and the new retention doesn't keep it
abbrev pub LowersGovernance : Option Retention → Retention → ℕ → Type 0
LowersGovernance old new t = HasInForce old t Governance × (KeepsRetention old new t → ⊥)
