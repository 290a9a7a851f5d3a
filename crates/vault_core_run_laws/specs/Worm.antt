-- Write once, read many: what holds of every version and of every setting that it ever had.
use Rattle.std.specs.Prelude.{◌≡◌, ◌⊎◌, ◌≤◌, ℕ, Bool, true, false, List, [], ◌∷◌, Option, Some, None}
use Rattle.std.specs.List.{AllByRecursion}
use Rattle.vault_lock.specs.declared.retention.Mode.{Mode}
use Rattle.vault_lock.specs.declared.retention.Mode.TheVariants.{Compliance, Governance}
use Rattle.vault_lock.specs.declared.retention.Retention.{Retention}
use Rattle.vault_core_model.specs.declared.records.Cause.{Cause}
use Rattle.vault_core_model.specs.declared.records.Cause.TheVariants.{Request, Bypass, Rule}
use Rattle.vault_core_model.specs.declared.records.History.{History}
use Rattle.vault_core_model.specs.declared.records.Removal.{Removal}
use Rattle.vault_core_model.specs.declared.records.Setting.{Setting}
use Rattle.vault_core_model.specs.Vault.{Vault, last_lock}
use Rattle.vault_core_run_laws.specs.Bypass.{MayBypass}

-- no removal before u
abbrev pub IsThereUntil : ℕ → Option Removal → Type 0
IsThereUntil u None = Unit {0}
IsThereUntil u (Some r) = u ≤ r.at

-- the cause is a bypass, of a caller who may
abbrev pub IsBypassOf : Vault → Cause → Type 0
IsBypassOf v (Request who) = ⊥
IsBypassOf v (Bypass who) = MayBypass v who
IsBypassOf v (Rule rule) = ⊥

-- it was removed by bypass, of a caller who may
abbrev pub IsBypassed : Vault → Option Removal → Type 0
IsBypassed v None = ⊥
IsBypassed v (Some r) = IsBypassOf v r.cause

-- one of these settings was made by bypass, of a caller who may
abbrev pub IsLowered : Vault → List Setting → Type 0
IsLowered v [] = ⊥
IsLowered v (s ∷ ss) = ((s.bypass ≡ true) × MayBypass v s.by) ⊎ IsLowered v ss

-- compliance is kept to its end; governance to its end, but for an allowed bypass, by the removal or by a later setting
abbrev pub IsKeptTo : Vault → Option Removal → List Setting → ℕ → Mode → Type 0
IsKeptTo v removal later u Compliance = IsThereUntil u removal
IsKeptTo v removal later u Governance = IsThereUntil u removal ⊎ (IsBypassed v removal ⊎ IsLowered v later)

abbrev pub IsKept : Vault → Option Removal → List Setting → Option Retention → Type 0
IsKept v removal later None = Unit {0}
IsKept v removal later (Some r) = IsKeptTo v removal later r.until r.mode

-- so is the retention of each of these settings, oldest first
abbrev pub AreKept : Vault → Option Removal → List Setting → Type 0
AreKept v removal [] = Unit {0}
AreKept v removal (s ∷ later) = IsKept v removal later s.lock.retention × AreKept v removal later

-- no removal while the hold is on
abbrev pub HoldIsKept : Option Removal → Bool → Type 0
HoldIsKept None hold = Unit {0}
HoldIsKept (Some r) hold = hold ≡ false

-- every retention that the version ever had, and its hold
abbrev pub IsWorm : Vault → History → Type 0
IsWorm v h = AreKept v h.entry.removal h.settings × HoldIsKept h.entry.removal (last_lock h.settings).hold

-- Each version that ever had a retention in compliance is there until its end. One that had governance is too, or an allowed bypass removed it or lowered it. What was removed was off hold.
abbrev pub Worm : Vault → Type 0
Worm v = AllByRecursion (IsWorm v) v.histories
