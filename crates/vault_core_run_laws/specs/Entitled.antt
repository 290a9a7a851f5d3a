-- The right that each change needs.
use Rattle.std.specs.Prelude.{◌≡◌, ◌⊎◌, ℕ, Bool, true, false, List, [], ◌∷◌, Option, Some, None, IsTrue}
use Rattle.vault_base.specs.declared.right.Right.{Right}
use Rattle.vault_base.specs.declared.right.Right.TheVariants as right
use Rattle.vault_lock.specs.declared.lock.Lock.{Lock}
use Rattle.vault_core_model.specs.declared.change.Change.{Change}
use Rattle.vault_core_model.specs.declared.change.Change.TheVariants.{Admit, AddSetting, Remove}
use Rattle.vault_core_model.specs.declared.records.Author.{Author}
use Rattle.vault_core_model.specs.declared.records.Author.TheVariants as author
use Rattle.vault_core_model.specs.declared.records.Caller.{Caller}
use Rattle.vault_core_model.specs.declared.records.Cause.{Cause}
use Rattle.vault_core_model.specs.declared.records.Cause.TheVariants as cause
use Rattle.vault_core_model.specs.declared.records.Setting.{Setting}
use Rattle.vault_core_model.specs.Rights.{has}
use Rattle.vault_core_model.specs.Vault.{Vault, caller_of}
use Rattle.vault_core_model.specs.Reads.{lock_of}
use Rattle.vault_core_run_laws.specs.Permits.{IsRetentionSetting, IsHoldSetting}

-- a caller with that right
abbrev pub has_right : Right → Option Caller → Bool
has_right r None = false
has_right r (Some c) = has c.rights r

-- the caller of that name has the right; also where it is closed by now, since rights never change
abbrev pub HasRight : Vault → List ℕ → Right → Type 0
HasRight v who r = IsTrue (has_right r (caller_of v who))

-- a version is admitted by a caller who may put; a marker by one who may delete, or by a rule
abbrev pub IsAdmitter : Vault → Bool → Author → Type 0
IsAdmitter v false (author.Caller name) = HasRight v name right.Put
IsAdmitter v false (author.Rule rule) = ⊥
IsAdmitter v true (author.Caller name) = HasRight v name right.Delete
IsAdmitter v true (author.Rule rule) = Unit {0}

-- a version's first setting is by the caller who admitted it, who may set a hold where it is on
abbrev pub IsFirstBy : Vault → Author → List Setting → Type 0
IsFirstBy v by [] = Unit {0}
IsFirstBy v by (s ∷ ss) = (by ≡ author.Caller s.by) × (s.lock.hold ≡ true → HasRight v s.by right.Hold)

-- a retention is set by a caller who may retain, a hold by one who may hold
abbrev pub IsSetByRight : Vault → ℕ → Lock → Setting → Type 0
IsSetByRight v t old s =
    (IsRetentionSetting v t old s × HasRight v s.by right.Retain) ⊎ (IsHoldSetting old s × HasRight v s.by right.Hold)

-- a request or a bypass is of a caller who may delete versions
abbrev pub IsCausedByRight : Vault → Cause → Type 0
IsCausedByRight v (cause.Request name) = HasRight v name right.DeleteVersion
IsCausedByRight v (cause.Bypass name) = HasRight v name right.DeleteVersion
IsCausedByRight v (cause.Rule rule) = Unit {0}

-- an admission, a setting and a removal were made by somebody with the right to them
abbrev pub IsEntitled : Vault → ℕ → Change → Type 0
IsEntitled v t (Admit a) = IsAdmitter v a.history.entry.marker a.history.entry.by × IsFirstBy v a.history.entry.by a.history.settings
IsEntitled v t (AddSetting id s) = IsSetByRight v t (lock_of v id) s
IsEntitled v t (Remove id r) = IsCausedByRight v r.cause
IsEntitled v t _ = Unit {0}
