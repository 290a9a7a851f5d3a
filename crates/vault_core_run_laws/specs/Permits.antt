-- Which changes a caller may make by a command, beyond what any vault allows: the lock rules.
use Rattle.std.specs.Prelude.{◌≡◌, ◌⊎◌, ◌<◌, ℕ, Bool, true, false, List, [], ◌∷◌, Some}
use Rattle.vault_lock.specs.declared.lock.Lock.{Lock}
use Rattle.vault_lock.specs.declared.retention.Retention.{Retention}
use Rattle.vault_lock.specs.Lock.{guards, KeepsRetention, LowersGovernance}
use Rattle.vault_core_model.specs.declared.change.Change.{Change}
use Rattle.vault_core_model.specs.declared.change.Change.TheVariants.{AddDept, AddCaller, CloseCaller, AddBucket, MoveBucket, SetDefault, SetRules, Admit, AddSetting, Remove}
use Rattle.vault_core_model.specs.declared.records.Cause.{Cause}
use Rattle.vault_core_model.specs.declared.records.Cause.TheVariants as cause
use Rattle.vault_core_model.specs.declared.records.Setting.{Setting}
use Rattle.vault_core_model.specs.Vault.{Vault}
use Rattle.vault_core_model.specs.Reads.{lock_of}
use Rattle.vault_core_model.specs.Allowed.{IsHeldId}
use Rattle.vault_core_run_laws.specs.Bypass.{MayBypass}
use Rattle.vault_core_run_laws.specs.Removals.{IsPermittedUnder}

-- a content version comes with one setting, made at t by its caller and not by bypass; a marker with none
abbrev pub ComesWith : ℕ → List ℕ → Bool → List Setting → Type 0
ComesWith t who true settings = settings ≡ []
ComesWith t who false settings =
    (lock : Lock) × (settings ≡ record { at = t; by = who; lock = lock; bypass = false } ∷ [])

-- the setting keeps the hold and gives a new retention, which ends later than t: freely where it keeps what is in force, by bypass where it lowers governance
pub record IsRetentionSetting (v : Vault) (t : ℕ) (old : Lock) (s : Setting) : Type 0 where
  pub new : Retention
  pub given : s.lock.retention ≡ Some new
  pub later : t < new.until
  pub hold : s.lock.hold ≡ old.hold
  pub kept : (KeepsRetention old.retention new t × (s.bypass ≡ false)) ⊎ (LowersGovernance old.retention new t × (s.bypass ≡ true) × MayBypass v s.by)

-- the setting keeps the retention, whatever its hold
abbrev pub IsHoldSetting : Lock → Setting → Type 0
IsHoldSetting old s = (s.lock.retention ≡ old.retention) × (s.bypass ≡ false)

-- a setting by the caller, of a version whose last lock is the old one
abbrev pub IsPermittedSetting : Vault → ℕ → List ℕ → Lock → Setting → Type 0
IsPermittedSetting v t who old s = (s.by ≡ who) × (IsRetentionSetting v t old s ⊎ IsHoldSetting old s)

-- the cause names the caller, or a rule
abbrev pub IsCauseOf : List ℕ → Cause → Type 0
IsCauseOf who (cause.Request name) = name ≡ who
IsCauseOf who (cause.Bypass name) = name ≡ who
IsCauseOf who (cause.Rule rule) = Unit {0}

-- what the lock rules say of the change
abbrev pub Permits : Vault → ℕ → List ℕ → Change → Type 0
Permits v t who (AddDept name) = Unit {0}
Permits v t who (AddCaller c) = Unit {0}
Permits v t who (CloseCaller name) = Unit {0}
Permits v t who (AddBucket name dept) = Unit {0}
Permits v t who (MoveBucket name dept) = Unit {0}
Permits v t who (SetDefault name default) = Unit {0}
Permits v t who (SetRules name rules) = Unit {0}
Permits v t who (Admit a) = ComesWith t who a.history.entry.marker a.history.settings
Permits v t who (AddSetting id s) = IsHeldId v id × IsPermittedSetting v t who (lock_of v id) s
Permits v t who (Remove id r) = IsCauseOf who r.cause × IsPermittedUnder v (guards (lock_of v id) t) r.cause
