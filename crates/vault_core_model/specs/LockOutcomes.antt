-- What the commands on retention and legal hold answer, and the vault after them.
use Rattle.std.specs.Prelude.{ℕ, List, Bool, true, false, Some, Result, Ok}
use Rattle.vault_base.specs.declared.refusal.Refusal.{Refusal}
use Rattle.vault_base.specs.declared.right.Right.TheVariants as right
use Rattle.vault_lock.specs.declared.lock.Lock.{Lock}
use Rattle.vault_lock.specs.declared.lock.Permit.{Permit}
use Rattle.vault_lock.specs.declared.lock.Permit.TheVariants.{Free, Bypass}
use Rattle.vault_lock.specs.Lock.{retainable}
use Rattle.vault_core_model.specs.declared.records.Setting.{Setting}
use Rattle.vault_core_model.specs.declared.access.Access.{Access}
use Rattle.vault_core_model.specs.declared.change.Change.TheVariants as change
use Rattle.vault_core_model.specs.declared.change.NextSetting.{NextSetting}
use Rattle.vault_core_model.specs.declared.command.SetRetention.{SetRetention}
use Rattle.vault_core_model.specs.declared.command.GetRetention.{GetRetention}
use Rattle.vault_core_model.specs.declared.command.SetHold.{SetHold}
use Rattle.vault_core_model.specs.declared.command.GetHold.{GetHold}
use Rattle.vault_core_model.specs.declared.reply.Answer.{Answer}
use Rattle.vault_core_model.specs.declared.reply.Answer.TheVariants as answer
use Rattle.vault_core_model.specs.Vault.{Vault}
use Rattle.vault_core_model.specs.Reads.{lock_of}
use Rattle.vault_core_model.specs.Change.{changed}
use Rattle.vault_core_model.specs.Checks.{◌>>=◌, access, ends_later, version_meant, permitted, free_setting}

abbrev pub is_bypass : Permit → Bool
is_bypass Free = false
is_bypass Bypass = true

-- a setting of this lock, made at t
abbrev pub setting : ℕ → List ℕ → Lock → Permit → Setting
setting t who lock p = record { at = t; by = who; lock = lock; bypass = is_bypass p }

-- the setting with the new retention, where what is in force permits it; the hold is kept
abbrev pub next_retention : Vault → ℕ → List ℕ → SetRetention → Access → Result NextSetting Refusal
next_retention v t who c a = do
  _ ← ends_later t c.retention
  e ← version_meant v c.bucket c.key c.id
  p ← permitted (retainable (lock_of v e.id) c.retention t c.bypass a.caller.rights.bypass)
  _ ← free_setting v e.id
  Ok (record { id = e.id; setting = setting t who (record { retention = Some c.retention; hold = (lock_of v e.id).hold }) p })

-- the retention of a version is set (API Reference, "PutObjectRetention")
abbrev pub set_retention : Vault → ℕ → List ℕ → SetRetention → Result (Answer × Vault) Refusal
set_retention v t who c = do
  a ← access v t who c.bucket right.Retain
  n ← next_retention v t who c a
  Ok (answer.Nothing, changed v t (change.AddSetting n.id n.setting))

-- the last setting's retention, in force or not (API Reference, "GetObjectRetention")
abbrev pub get_retention : Vault → ℕ → List ℕ → GetRetention → Result (Answer × Vault) Refusal
get_retention v t who c = do
  _ ← access v t who c.bucket right.Get
  e ← version_meant v c.bucket c.key c.id
  Ok (answer.Retention (lock_of v e.id).retention, v)

-- the setting with the hold on or off; the retention is kept
abbrev pub next_hold : Vault → ℕ → List ℕ → SetHold → Result NextSetting Refusal
next_hold v t who c = do
  e ← version_meant v c.bucket c.key c.id
  _ ← free_setting v e.id
  Ok (record { id = e.id; setting = setting t who (record { retention = (lock_of v e.id).retention; hold = c.hold }) Free })

-- the legal hold of a version is set (API Reference, "PutObjectLegalHold")
abbrev pub set_hold : Vault → ℕ → List ℕ → SetHold → Result (Answer × Vault) Refusal
set_hold v t who c = do
  _ ← access v t who c.bucket right.Hold
  n ← next_hold v t who c
  Ok (answer.Nothing, changed v t (change.AddSetting n.id n.setting))

-- the last setting's hold (API Reference, "GetObjectLegalHold")
abbrev pub get_hold : Vault → ℕ → List ℕ → GetHold → Result (Answer × Vault) Refusal
get_hold v t who c = do
  _ ← access v t who c.bucket right.Get
  e ← version_meant v c.bucket c.key c.id
  Ok (answer.Hold (lock_of v e.id).hold, v)
