-- What the commands on retention and legal hold change.
use Rattle.std.proofs.Common.{◌≡◌, ℕ, ◌≤◌, ◌<◌, List, Bool, true, false, Option, Some, None, Ok, refl, sym, subst, inl, inr, arith}
use Rattle.std.specs.Prelude.{IfOk, nat_le, nat_lt, ◌&&◌, if◌then◌else◌}
use Rattle.std.proofs.lemmas.Bool.{leb-true, ltb-true, ltb-false, and_parts}
use Rattle.vault_base.specs.declared.refusal.Refusal.TheVariants.{InvalidArgument, VaultFull}
use Rattle.vault_base.specs.declared.right.Right.TheVariants as right
use Rattle.vault_base.specs.Limits.{most_settings}
use Rattle.vault_lock.specs.declared.lock.Lock.{Lock}
use Rattle.vault_lock.specs.declared.lock.Permit.{Permit}
use Rattle.vault_lock.specs.declared.lock.Permit.TheVariants.{Free, Bypass}
use Rattle.vault_lock.specs.declared.retention.Mode.{Mode}
use Rattle.vault_lock.specs.declared.retention.Mode.TheVariants.{Governance, Compliance}
use Rattle.vault_lock.specs.declared.retention.Retention.{Retention}
use Rattle.vault_lock.specs.Retention.{is_mode, is_in_force, in_force}
use Rattle.vault_lock.specs.Lock.{keeps, retainable, permit_instead, permit_to_lower, KeepsRetention, LowersGovernance}
use Rattle.vault_core_model.specs.declared.access.Access.{Access}
use Rattle.vault_core_model.specs.declared.change.Change.TheVariants as change
use Rattle.vault_core_model.specs.declared.change.NextSetting.{NextSetting}
use Rattle.vault_core_model.specs.declared.command.SetRetention.{SetRetention}
use Rattle.vault_core_model.specs.declared.command.GetRetention.{GetRetention}
use Rattle.vault_core_model.specs.declared.command.SetHold.{SetHold}
use Rattle.vault_core_model.specs.declared.command.GetHold.{GetHold}
use Rattle.vault_core_model.specs.Vault.{Vault, caller_of}
use Rattle.vault_core_model.specs.Reads.{setting_of, lock_of, count_of_settings}
use Rattle.vault_core_model.specs.Sound.{Sound}
use Rattle.vault_core_model.specs.Allowed.{IsNextSetting, IsHeldId}
use Rattle.vault_core_model.specs.Checks.{access, ends_later, version_meant, permitted, free_setting}
use Rattle.vault_core_model.specs.LockOutcomes as locks
use Rattle.vault_core_run_laws.specs.Entitled.{HasRight, IsSetByRight}
use Rattle.vault_core_run_laws.specs.Permits.{IsRetentionSetting, IsPermittedSetting}
use Rattle.vault_core_run_laws.proofs.Checked.{bind_if, any-is, check-is, HasAccess, access-is}
use Rattle.vault_core_run_laws.proofs.Meant.{IsHeldVersion, version_meant-is}
use Rattle.vault_core_run_laws.proofs.EntryChanges.{may_bypass}
use Rattle.vault_core_run_laws.proofs.RecordChanges.{Changes, unchanged, one_change}

-- ---- what a permit says of a new retention

abbrev pub Retained : Option Retention → Retention → ℕ → Bool → Permit → Type 0
Retained old new t allowed Free = KeepsRetention old new t
Retained old new t allowed Bypass = LowersGovernance old new t × (allowed ≡ true)

one_mode : (m n : Mode) → is_mode m n ≡ true → n ≡ m
one_mode Governance Governance e = refl
one_mode Compliance Compliance e = refl
one_mode Governance Compliance e = absurd (cc e)
one_mode Compliance Governance e = absurd (cc e)

mode_itself : (m : Mode) → is_mode m m ≡ true
mode_itself Governance = refl
mode_itself Compliance = refl

keeps-is : (old new : Retention) → keeps old new ≡ true → (new.mode ≡ old.mode) × (old.until ≤ new.until)
keeps-is old new e =
    let parts = and_parts (is_mode old.mode new.mode) (nat_le old.until new.until) e in
    (one_mode old.mode new.mode parts.0, leb-true old.until new.until parts.1)

pub is-keeps : (old new : Retention) → (new.mode ≡ old.mode) × (old.until ≤ new.until) → keeps old new ≡ true
is-keeps old new kept =
    let P : Mode → Type 0 = λ m. (is_mode old.mode m && nat_le old.until new.until) ≡ true in
    subst P (sym kept.0) (rw (mode_itself old.mode, le_true old.until new.until kept.1) refl)
  where
    le_true : (m n : ℕ) → m ≤ n → nat_le m n ≡ true
    le_true m n le = grind (arith, le)

to_lower : (old new : Retention) (t : ℕ) (mode : Mode) (asked allowed : Bool) → old.mode ≡ mode → t < old.until → keeps old new ≡ false → IfOk (permitted (permit_to_lower mode asked allowed)) (Retained (Some old) new t allowed)
to_lower old new t Compliance asked allowed is force lower = tt
to_lower old new t Governance true true is force lower = (((force, rw is refl), λ kept. absurd (cc (is-keeps old new (kept force)))), refl)
to_lower old new t Governance true false is force lower = tt
to_lower old new t Governance false allowed is force lower = tt

if_kept : (old new : Retention) (t : ℕ) (b asked allowed : Bool) → keeps old new ≡ b → t < old.until → IfOk (permitted (if b then Ok Free else permit_to_lower old.mode asked allowed)) (Retained (Some old) new t allowed)
if_kept old new t true asked allowed e force = λ f. keeps-is old new e
if_kept old new t false asked allowed e force = to_lower old new t old.mode asked allowed refl force e

if_forced : (old new : Retention) (t : ℕ) (b asked allowed : Bool) → is_in_force old t ≡ b → IfOk (permitted (permit_instead (if b then Some old else None) new asked allowed)) (Retained (Some old) new t allowed)
if_forced old new t true asked allowed e = if_kept old new t (keeps old new) asked allowed refl (ltb-true t old.until e)
if_forced old new t false asked allowed e = λ force. absurd (omega (arith, force, ltb-false t old.until e))

pub retainable-is : (o : Option Retention) (new : Retention) (t : ℕ) (asked allowed : Bool) → IfOk (permitted (permit_instead (in_force o t) new asked allowed)) (Retained o new t allowed)
retainable-is None new t asked allowed = tt
retainable-is (Some old) new t asked allowed = if_forced old new t (is_in_force old t) asked allowed refl

-- ---- the setting

-- a setting that a caller may give a version
pub record IsNext (v : Vault) (t : ℕ) (who : List ℕ) (n : NextSetting) : Type 0 where
  pub allowed : IsNextSetting v t n.id n.setting
  pub held : IsHeldId v n.id
  pub permitted : IsPermittedSetting v t who (lock_of v n.id) n.setting
  pub entitled : IsSetByRight v t (lock_of v n.id) n.setting

setting-retains : (v : Vault) (t : ℕ) (who : List ℕ) (a : Access) (old : Lock) (new : Retention) (p : Permit) → caller_of v who ≡ Some a.caller → t < new.until → Retained old.retention new t a.caller.rights.bypass p → IsRetentionSetting v t old (locks.setting t who (record { retention = Some new; hold = old.hold }) p)
setting-retains v t who a old new Free there later may = record { new = new; given = refl; later = later; hold = refl; kept = inl (may, refl) }
setting-retains v t who a old new Bypass there later may = record { new = new; given = refl; later = later; hold = refl; kept = inr (may.0, refl, may_bypass v who a.caller there may.1) }

next_retention-is : (v : Vault) (t : ℕ) (who : List ℕ) (c : SetRetention) (a : Access) → Sound v → caller_of v who ≡ Some a.caller → HasRight v who right.Retain → IfOk (locks.next_retention v t who c a) (IsNext v t who)
next_retention-is v t who c a sound there right_to =
    bind_if (ends_later t c.retention) (λ u. nat_lt t c.retention.until ≡ true) _ _ (check-is (nat_lt t c.retention.until) InvalidArgument)
    (λ u later. bind_if (version_meant v c.bucket c.key c.id) (IsHeldVersion v) _ _ (version_meant-is v c.bucket c.key c.id sound)
    (λ e held. bind_if (permitted (retainable (lock_of v e.id) c.retention t c.bypass a.caller.rights.bypass)) (Retained (lock_of v e.id).retention c.retention t a.caller.rights.bypass) _ _ (retainable-is (lock_of v e.id).retention c.retention t c.bypass a.caller.rights.bypass)
    (λ p may. bind_if (free_setting v e.id) (λ u. nat_lt (count_of_settings (setting_of v e.id)) most_settings ≡ true) _ _ (check-is (nat_lt (count_of_settings (setting_of v e.id)) most_settings) VaultFull)
    (λ w free. record {
      allowed = record { now = refl; entry = e; there = held.there; held = held.held; version = held.version; fits = ltb-true (count_of_settings (setting_of v e.id)) most_settings free };
      held = (e, held.there, held.held);
      permitted = (refl, inl (setting-retains v t who a (lock_of v e.id) c.retention p there (ltb-true t c.retention.until later) may));
      entitled = inl (setting-retains v t who a (lock_of v e.id) c.retention p there (ltb-true t c.retention.until later) may, right_to);
    }))))

pub set_retention-changes : (v : Vault) (t : ℕ) (who : List ℕ) (c : SetRetention) → Sound v → Changes v t who (locks.set_retention v t who c)
set_retention-changes v t who c sound =
    bind_if (access v t who c.bucket right.Retain) (λ a. HasAccess v t who c.bucket a × HasRight v who right.Retain) _ _ (access-is v t who c.bucket right.Retain)
    (λ a at. bind_if (locks.next_retention v t who c a) (IsNext v t who) _ _ (next_retention-is v t who c a sound at.0.caller at.1)
    (λ n is. one_change v t who (change.AddSetting n.id n.setting) (record { in_time = at.0.in_time; allowed = is.allowed; permitted = (is.held, is.permitted); entitled = is.entitled })))

next_hold-is : (v : Vault) (t : ℕ) (who : List ℕ) (c : SetHold) → Sound v → HasRight v who right.Hold → IfOk (locks.next_hold v t who c) (IsNext v t who)
next_hold-is v t who c sound right_to =
    bind_if (version_meant v c.bucket c.key c.id) (IsHeldVersion v) _ _ (version_meant-is v c.bucket c.key c.id sound)
    (λ e held. bind_if (free_setting v e.id) (λ u. nat_lt (count_of_settings (setting_of v e.id)) most_settings ≡ true) _ _ (check-is (nat_lt (count_of_settings (setting_of v e.id)) most_settings) VaultFull)
    (λ w free. record {
      allowed = record { now = refl; entry = e; there = held.there; held = held.held; version = held.version; fits = ltb-true (count_of_settings (setting_of v e.id)) most_settings free };
      held = (e, held.there, held.held);
      permitted = (refl, inr (refl, refl));
      entitled = inr ((refl, refl), right_to);
    }))

pub set_hold-changes : (v : Vault) (t : ℕ) (who : List ℕ) (c : SetHold) → Sound v → Changes v t who (locks.set_hold v t who c)
set_hold-changes v t who c sound =
    bind_if (access v t who c.bucket right.Hold) (λ a. HasAccess v t who c.bucket a × HasRight v who right.Hold) _ _ (access-is v t who c.bucket right.Hold)
    (λ a at. bind_if (locks.next_hold v t who c) (IsNext v t who) _ _ (next_hold-is v t who c sound at.1)
    (λ n is. one_change v t who (change.AddSetting n.id n.setting) (record { in_time = at.0.in_time; allowed = is.allowed; permitted = (is.held, is.permitted); entitled = is.entitled })))

-- ---- reads

pub get_retention-changes : (v : Vault) (t : ℕ) (who : List ℕ) (c : GetRetention) → Changes v t who (locks.get_retention v t who c)
get_retention-changes v t who c =
    bind_if (access v t who c.bucket right.Get) (λ a. Unit {0}) _ _ (any-is (access v t who c.bucket right.Get))
    (λ a at. bind_if (version_meant v c.bucket c.key c.id) (λ e. Unit {0}) _ _ (any-is (version_meant v c.bucket c.key c.id))
    (λ e meant. unchanged v t who))

pub get_hold-changes : (v : Vault) (t : ℕ) (who : List ℕ) (c : GetHold) → Changes v t who (locks.get_hold v t who c)
get_hold-changes v t who c =
    bind_if (access v t who c.bucket right.Get) (λ a. Unit {0}) _ _ (any-is (access v t who c.bucket right.Get))
    (λ a at. bind_if (version_meant v c.bucket c.key c.id) (λ e. Unit {0}) _ _ (any-is (version_meant v c.bucket c.key c.id))
    (λ e meant. unchanged v t who))
