-- What the commands that admit, read and remove entries change.
use Rattle.std.proofs.Common.{◌≡◌, ◌∙◌, ℕ, ◌+◌, ◌≤◌, List, [], ◌∷◌, Bool, true, false, Option, Some, None, Ok, Err, refl, sym, subst, arith, lit≤}
use Rattle.std.specs.Prelude.{IfOk, option_map, unwrap_or, is_some, nat_le, ◌&&◌, ◌||◌, not, IsTrue, if◌then◌else◌}
use Rattle.std.proofs.lemmas.Bool.{leb-true}
use Rattle.vault_base.specs.declared.refusal.Refusal.TheVariants.{RetentionOutOfRange, InvalidArgument, MethodNotAllowed, EntityTooLarge, QuotaExceeded, VaultFull}
use Rattle.vault_base.specs.declared.right.Right.TheVariants as right
use Rattle.vault_base.specs.Content.{size, most_size, is_external}
use Rattle.vault_base.specs.Limits.{most_ids}
use Rattle.vault_lock.specs.declared.lock.Denial.{Denial}
use Rattle.vault_lock.specs.declared.lock.Denial.TheVariants.{Hold, Compliance, Governance}
use Rattle.vault_lock.specs.declared.lock.Lock.{Lock}
use Rattle.vault_lock.specs.declared.lock.Permit.{Permit}
use Rattle.vault_lock.specs.declared.lock.Permit.TheVariants.{Free, Bypass}
use Rattle.vault_lock.specs.declared.retention.Default.{Default}
use Rattle.vault_lock.specs.declared.retention.Retention.{Retention}
use Rattle.vault_lock.specs.Retention.{default_retention, first_lock}
use Rattle.vault_lock.specs.Lock.{guards, removable, permit_under}
use Rattle.vault_tally.specs.Row.{quota}
use Rattle.vault_core_model.specs.declared.access.Access.{Access}
use Rattle.vault_core_model.specs.declared.change.Change.TheVariants as change
use Rattle.vault_core_model.specs.declared.command.Put.{Put}
use Rattle.vault_core_model.specs.declared.command.Get.{Get}
use Rattle.vault_core_model.specs.declared.command.Head.{Head}
use Rattle.vault_core_model.specs.declared.command.Delete.{Delete}
use Rattle.vault_core_model.specs.declared.command.DeleteVersion.{DeleteVersion}
use Rattle.vault_core_model.specs.declared.command.ListVersions.{ListVersions}
use Rattle.vault_core_model.specs.declared.command.Certificate.{Certificate}
use Rattle.vault_core_model.specs.declared.command.Intake.{Intake}
use Rattle.vault_core_model.specs.declared.records.Note.{Note}
use Rattle.vault_core_model.specs.declared.records.Author.TheVariants as author
use Rattle.vault_core_model.specs.declared.records.Caller.{Caller}
use Rattle.vault_core_model.specs.declared.records.History.{History}
use Rattle.vault_core_model.specs.declared.reply.Removed.{Removed}
use Rattle.vault_core_model.specs.Vault.{Vault, caller_of, config_of, next_id, note_of}
use Rattle.vault_core_model.specs.Reads.{entry_of, lock_of}
use Rattle.vault_core_model.specs.Sound.{HasRoom, Sound}
use Rattle.vault_core_model.specs.Totals.{admitted_bytes, received_bytes}
use Rattle.vault_core_model.specs.Allowed.{IsFirstNote, IsHeldId}
use Rattle.vault_core_model.specs.Rights.{has}
use Rattle.vault_core_model.specs.Checks.{check, found, needs_if, access, has_place, small_enough, ends_later_if_given, held_entry, version_meant, permitted, lock_at_admission, within_quota, free_id}
use Rattle.vault_core_model.specs.Change.{changed}
use Rattle.vault_core_model.specs.EntryOutcomes as entries
use Rattle.vault_core_model.specs.IntakeOutcome as intakes
use Rattle.vault_core_model.specs.ListingOutcome as listings
use Rattle.vault_core_run_laws.specs.Bypass.{MayBypass, has_bypass}
use Rattle.vault_core_run_laws.specs.Removals.{IsPermittedUnder}
use Rattle.vault_core_run_laws.specs.Permits.{IsCauseOf}
use Rattle.vault_core_run_laws.specs.Entitled.{HasRight, IsCausedByRight}
use Rattle.vault_core_run_laws.proofs.Checked.{bind_if, if_weaker, any-is, check-is, has-right, needs_if-is, HasAccess, access-is}
use Rattle.vault_core_run_laws.proofs.Meant.{IsHeldUnder, held_entry-is}
use Rattle.vault_core_run_laws.proofs.RecordChanges.{Changes, LeadsOnce, unchanged, one_change}

-- ---- admission

-- access to put, with the right to it, and that to hold where a hold is given
pub record MayPut (v : Vault) (t : ℕ) (who : List ℕ) (c : Put) (a : Access) : Type 0 where
  pub at : HasAccess v t who c.bucket a
  pub put : HasRight v who right.Put
  pub hold : is_some c.hold ≡ true → HasRight v who right.Hold

access_to_put-is : (v : Vault) (t : ℕ) (who : List ℕ) (c : Put) → IfOk (entries.access_to_put v t who c) (MayPut v t who c)
access_to_put-is v t who c =
    bind_if (access v t who c.bucket right.Put) (λ a. HasAccess v t who c.bucket a × HasRight v who right.Put) _ _ (access-is v t who c.bucket right.Put)
    (λ a at. bind_if (needs_if (is_some c.retention) a.caller right.Retain) (λ u. Unit {0}) _ _ (any-is (needs_if (is_some c.retention) a.caller right.Retain))
    (λ u retain. bind_if (needs_if (is_some c.hold) a.caller right.Hold) (λ u. is_some c.hold ≡ true → has a.caller.rights right.Hold ≡ true) _ _ (needs_if-is (is_some c.hold) a.caller right.Hold)
    (λ w hold. record { at = at.0; put = at.1; hold = λ e. has-right v who a.caller right.Hold at.0.caller (hold e) })))

-- the content is in its limit, and fits the quota
abbrev Fits : Vault → Put → Access → Type 0
Fits v c a = HasRoom v.external (Some c.content) (size c.content) × (admitted_bytes v a.bucket.dept + received_bytes v a.bucket.dept + size c.content ≤ quota)

-- and the lock has the hold that was given
abbrev FitsWith : Vault → Put → Access → Lock → Type 0
FitsWith v c a lock = Fits v c a × (lock.hold ≡ unwrap_or c.hold false)

default_lock-is : (o : Option Retention) (hold : Bool) → IfOk (found (option_map (λ r. record { retention = Some r; hold = hold }) o) RetentionOutOfRange) (λ (lock : Lock). lock.hold ≡ hold)
default_lock-is None hold = tt
default_lock-is (Some r) hold = refl

first_lock-is : (d : Option Default) (r : Option Retention) (hold : Bool) (t : ℕ) → IfOk (found (first_lock d r hold t) RetentionOutOfRange) (λ (lock : Lock). lock.hold ≡ hold)
first_lock-is d (Some r) hold t = refl
first_lock-is None None hold t = refl
first_lock-is (Some d) None hold t = default_lock-is (default_retention d t) hold

lock_to_admit-is : (v : Vault) (t : ℕ) (c : Put) (a : Access) → IfOk (entries.lock_to_admit v t c a) (FitsWith v c a)
lock_to_admit-is v t c a =
    bind_if (has_place v c.content) (λ u. IsTrue (v.external || not (is_external c.content))) _ _ (check-is (v.external || not (is_external c.content)) InvalidArgument)
    (λ u place. bind_if (small_enough c.content) (λ u. nat_le (size c.content) (most_size c.content) ≡ true) _ _ (check-is (nat_le (size c.content) (most_size c.content)) EntityTooLarge)
    (λ x small. bind_if (ends_later_if_given t c.retention) (λ u. Unit {0}) _ _ (any-is (ends_later_if_given t c.retention))
    (λ w later. bind_if (lock_at_admission a.bucket c.retention c.hold t) (λ lock. lock.hold ≡ unwrap_or c.hold false) _ _ (first_lock-is a.bucket.default c.retention (unwrap_or c.hold false) t)
    (λ lock first. bind_if (within_quota v a.bucket.dept (size c.content)) (λ u. nat_le (admitted_bytes v a.bucket.dept + received_bytes v a.bucket.dept + size c.content) quota ≡ true) _ _ (check-is (nat_le (admitted_bytes v a.bucket.dept + received_bytes v a.bucket.dept + size c.content) quota) QuotaExceeded)
    (λ z fits. (((leb-true (size c.content) (most_size c.content) small, place), leb-true (admitted_bytes v a.bucket.dept + received_bytes v a.bucket.dept + size c.content) quota fits), first))))))

-- where the first hold is on, one was given
hold_given : (o : Option Bool) (b : Bool) → b ≡ unwrap_or o false → b ≡ true → is_some o ≡ true
hold_given None b is on = absurd (cc (sym is ∙ on))
hold_given (Some x) b is on = refl

-- the next id, while one is left
abbrev IsFree : Vault → ℕ → Type 0
IsFree v id = (id ≡ next_id v) × (next_id v ≤ most_ids)

if_free : (v : Vault) (b : Bool) → nat_le (next_id v) most_ids ≡ b → IfOk (if b then Ok (next_id v) else Err VaultFull) (IsFree v)
if_free v true e = (refl, leb-true (next_id v) most_ids e)
if_free v false e = tt

free_id-is : (v : Vault) → IfOk (free_id v) (IsFree v)
free_id-is v = if_free v (nat_le (next_id v) most_ids) refl

-- a version that fits is admitted with the next id, and with the note of an intake line or none
admit_one : (v : Vault) (t : ℕ) (who : List ℕ) (c : Put) (a : Access) (lock : Lock) (id : ℕ) (note : ℕ → Option Note) → IsFirstNote v (entries.new_version (next_id v) t who a.bucket.dept c lock).entry (note (next_id v)) → MayPut v t who c a → FitsWith v c a lock → IsFree v id → LeadsOnce v t who (changed v t (change.Admit (record { history = entries.new_version id t who a.bucket.dept c lock; note = note id })))
admit_one v t who c a lock id note noted may fits free =
    let P : ℕ → Type 0 = λ i. LeadsOnce v t who (changed v t (change.Admit (record { history = entries.new_version i t who a.bucket.dept c lock; note = note i }))) in
    subst P (sym free.0)
    (one_change v t who (change.Admit (record { history = entries.new_version (next_id v) t who a.bucket.dept c lock; note = note (next_id v) })) (record {
      in_time = may.at.in_time;
      allowed = record {
        id = refl;
        enough_ids = free.1;
        now = refl;
        held = refl;
        whole = (fits.0.0, (refl, refl), lit≤ tt, lit≤ tt);
        first = (refl, refl);
        bucket = a.bucket;
        placed = may.at.bucket;
        tenured = refl;
        fits = fits.0.1;
        noted = noted;
      };
      permitted = (lock, refl);
      entitled = (may.put, (refl, λ on. may.hold (hold_given c.hold lock.hold fits.1 on)));
    }))

-- the version that a Put admits
pub record IsNewVersion (v : Vault) (t : ℕ) (who : List ℕ) (c : Put) (a : Access) (h : History) : Type 0 where
  pub lock : Lock
  pub id : ℕ
  pub new : h ≡ entries.new_version id t who a.bucket.dept c lock
  pub free : IsFree v id
  pub fits : FitsWith v c a lock

admission-is : (v : Vault) (t : ℕ) (who : List ℕ) (c : Put) (a : Access) → IfOk (entries.admission v t who c a) (IsNewVersion v t who c a)
admission-is v t who c a =
    bind_if (entries.lock_to_admit v t c a) (FitsWith v c a) _ _ (lock_to_admit-is v t c a)
    (λ lock fits. bind_if (free_id v) (IsFree v) _ _ (free_id-is v)
    (λ id free. record { lock = lock; id = id; new = refl; free = free; fits = fits }))

put_one : (v : Vault) (t : ℕ) (who : List ℕ) (c : Put) (a : Access) (h : History) → MayPut v t who c a → IsNewVersion v t who c a h → LeadsOnce v t who (changed v t (change.Admit (record { history = h; note = None })))
put_one v t who c a h at is =
    let P : History → Type 0 = λ g. LeadsOnce v t who (changed v t (change.Admit (record { history = g; note = None }))) in
    subst P (sym is.new) (admit_one v t who c a is.lock is.id (λ i. None) tt at is.fits is.free)

pub put-changes : (v : Vault) (t : ℕ) (who : List ℕ) (c : Put) → Changes v t who (entries.put v t who c)
put-changes v t who c =
    bind_if (entries.access_to_put v t who c) (MayPut v t who c) _ _ (access_to_put-is v t who c)
    (λ a at. bind_if (entries.admission v t who c a) (IsNewVersion v t who c a) _ _ (admission-is v t who c a)
    (λ h is. put_one v t who c a h at is))

-- ---- intake

-- the line's number is in its range, and its content fits
abbrev FitsLine : Vault → Intake → Access → Lock → Type 0
FitsLine v c a lock = IsTrue (intakes.is_line c.line) × FitsWith v c.put a lock

lock_to_take_in-is : (v : Vault) (t : ℕ) (c : Intake) (a : Access) → IfOk (intakes.lock_to_take_in v t c a) (FitsLine v c a)
lock_to_take_in-is v t c a =
    bind_if (check (intakes.is_line c.line) InvalidArgument) (λ u. intakes.is_line c.line ≡ true) _ _ (check-is (intakes.is_line c.line) InvalidArgument)
    (λ u line. if_weaker (entries.lock_to_admit v t c.put a) (FitsWith v c.put a) (FitsLine v c a) (λ lock fits. (line, fits)) (lock_to_admit-is v t c.put a))

if_new : (v : Vault) (t : ℕ) (who : List ℕ) (c : Intake) (a : Access) → note_of v c.put.bucket c.batch c.line ≡ None → MayPut v t who c.put a → Changes v t who (intakes.take_in v t who c a)
if_new v t who c a first at =
    bind_if (intakes.lock_to_take_in v t c a) (FitsLine v c a) _ _ (lock_to_take_in-is v t c a)
    (λ lock fits. bind_if (free_id v) (IsFree v) _ _ (free_id-is v)
    (λ id free. admit_one v t who c.put a lock id (λ i. Some (intakes.new_note i c)) (first, fits.0, refl, (refl, refl, refl, refl)) at fits.1 free))

by_note : (v : Vault) (t : ℕ) (who : List ℕ) (c : Intake) (a : Access) (o : Option Note) → note_of v c.put.bucket c.batch c.line ≡ o → MayPut v t who c.put a → Changes v t who (intakes.intake_by v t who c a o)
by_note v t who c a None first at = if_new v t who c a first at
by_note v t who c a (Some n) first at =
    bind_if (intakes.taken_before c.put n) (λ x. Unit {0}) _ _ (any-is (intakes.taken_before c.put n)) (λ x again. unchanged v t who)

pub intake-changes : (v : Vault) (t : ℕ) (who : List ℕ) (c : Intake) → Changes v t who (intakes.intake v t who c)
intake-changes v t who c =
    bind_if (entries.access_to_put v t who c.put) (MayPut v t who c.put) _ _ (access_to_put-is v t who c.put)
    (λ a at. by_note v t who c a (note_of v c.put.bucket c.batch c.line) refl at)

-- ---- reading

pub list_versions-changes : (v : Vault) (t : ℕ) (who : List ℕ) (c : ListVersions) → Changes v t who (listings.list_versions v t who c)
list_versions-changes v t who c =
    bind_if (access v t who c.bucket right.List) (λ a. Unit {0}) _ _ (any-is (access v t who c.bucket right.List))
    (λ a at. bind_if (check (listings.is_page_size c.most) InvalidArgument) (λ u. Unit {0}) _ _ (any-is (check (listings.is_page_size c.most) InvalidArgument))
    (λ u page. unchanged v t who))

pub certificate-changes : (v : Vault) (t : ℕ) (who : List ℕ) (c : Certificate) → Changes v t who (listings.certificate v t who c)
certificate-changes v t who c =
    bind_if (access v t who c.bucket right.Report) (λ a. Unit {0}) _ _ (any-is (access v t who c.bucket right.Report))
    (λ a at. bind_if (listings.entry_in c.bucket (entry_of v c.id)) (λ u. Unit {0}) _ _ (any-is (listings.entry_in c.bucket (entry_of v c.id)))
    (λ e there. bind_if (check (listings.is_certifiable e) MethodNotAllowed) (λ u. Unit {0}) _ _ (any-is (check (listings.is_certifiable e) MethodNotAllowed))
    (λ u removed. unchanged v t who)))

pub get-changes : (v : Vault) (t : ℕ) (who : List ℕ) (c : Get) → Changes v t who (entries.get v t who c)
get-changes v t who c =
    bind_if (access v t who c.bucket right.Get) (λ a. Unit {0}) _ _ (any-is (access v t who c.bucket right.Get))
    (λ a at. bind_if (version_meant v c.bucket c.key c.id) (λ e. Unit {0}) _ _ (any-is (version_meant v c.bucket c.key c.id))
    (λ e meant. unchanged v t who))

pub head-changes : (v : Vault) (t : ℕ) (who : List ℕ) (c : Head) → Changes v t who (entries.head v t who c)
head-changes v t who c =
    bind_if (access v t who c.bucket right.Get) (λ a. Unit {0}) _ _ (any-is (access v t who c.bucket right.Get))
    (λ a at. bind_if (version_meant v c.bucket c.key c.id) (λ e. Unit {0}) _ _ (any-is (version_meant v c.bucket c.key c.id))
    (λ e meant. unchanged v t who))

-- ---- removal

-- a marker may be admitted at the bucket, with that id
pub record IsMarkerId (v : Vault) (t : ℕ) (who name : List ℕ) (id : ℕ) : Type 0 where
  pub in_time : v.last ≤ t
  pub access : Access
  pub bucket : config_of v name ≡ Some access.bucket
  pub free : IsFree v id
  pub may : HasRight v who right.Delete

marker_id-is : (v : Vault) (t : ℕ) (who : List ℕ) (c : Delete) → IfOk (entries.marker_id v t who c) (IsMarkerId v t who c.bucket)
marker_id-is v t who c =
    bind_if (access v t who c.bucket right.Delete) (λ a. HasAccess v t who c.bucket a × HasRight v who right.Delete) _ _ (access-is v t who c.bucket right.Delete)
    (λ a at. if_marker a at.0 at.1 (nat_le (next_id v) most_ids) refl)
  where
    if_marker : (a : Access) → HasAccess v t who c.bucket a → HasRight v who right.Delete → (b : Bool) → nat_le (next_id v) most_ids ≡ b → IfOk (if b then Ok (next_id v) else Err VaultFull) (IsMarkerId v t who c.bucket)
    if_marker a at may true e = record { in_time = at.in_time; access = a; bucket = at.bucket; free = (refl, leb-true (next_id v) most_ids e); may = may }
    if_marker a at may false e = tt

pub delete-changes : (v : Vault) (t : ℕ) (who : List ℕ) (c : Delete) → Sound v → Changes v t who (entries.delete v t who c)
delete-changes v t who c sound =
    bind_if (entries.marker_id v t who c) (IsMarkerId v t who c.bucket) _ _ (marker_id-is v t who c)
    (λ id is. one_change v t who (change.Admit (record { history = entries.new_marker id c.bucket c.key t (author.Caller who); note = None })) (record {
      in_time = is.in_time;
      allowed = record {
        id = is.free.0;
        enough_ids = is.free.1;
        now = refl;
        held = refl;
        whole = (refl, refl, refl, refl);
        first = refl;
        bucket = is.access.bucket;
        placed = is.bucket;
        tenured = refl;
        fits = omega (arith, sound.within is.access.bucket.dept);
        noted = tt;
      };
      permitted = refl;
      entitled = (is.may, tt);
    }))

-- what a permit says of the guards, and of the right to bypass
abbrev pub Permitted : List Denial → Bool → Permit → Type 0
Permitted guarding allowed Free = guarding ≡ []
Permitted guarding allowed Bypass = (guarding ≡ Governance ∷ []) × (allowed ≡ true)

under_governance : (asked allowed : Bool) → IfOk (permitted (if asked && allowed then Ok Bypass else Err Governance)) (Permitted (Governance ∷ []) allowed)
under_governance true true = (refl, refl)
under_governance true false = tt
under_governance false allowed = tt

pub permit_under-is : (guarding : List Denial) (asked allowed : Bool) → IfOk (permitted (permit_under guarding asked allowed)) (Permitted guarding allowed)
permit_under-is [] asked allowed = refl
permit_under-is (Governance ∷ []) asked allowed = under_governance asked allowed
permit_under-is (Governance ∷ g ∷ gs) asked allowed = tt
permit_under-is (Hold ∷ gs) asked allowed = tt
permit_under-is (Compliance ∷ gs) asked allowed = tt

-- how the removal of the entry of the id is permitted
pub record IsRemovable (v : Vault) (t : ℕ) (id : ℕ) (a : Access) (r : Removed) : Type 0 where
  pub held : IsHeldId v id
  pub permitted : Permitted (guards (lock_of v id) t) a.caller.rights.bypass r.permit

removal_permitted-is : (v : Vault) (t : ℕ) (c : DeleteVersion) (a : Access) → IfOk (entries.removal_permitted v t c a) (IsRemovable v t c.id a)
removal_permitted-is v t c a =
    bind_if (held_entry v c.bucket c.key c.id) (IsHeldUnder v c.id) _ _ (held_entry-is v c.bucket c.key c.id)
    (λ e held. bind_if (permitted (removable (lock_of v c.id) t c.bypass a.caller.rights.bypass)) (Permitted (guards (lock_of v c.id) t) a.caller.rights.bypass) _ _ (permit_under-is (guards (lock_of v c.id) t) c.bypass a.caller.rights.bypass)
    (λ p may. record { held = (e, held.there, held.held); permitted = may }))

pub may_bypass : (v : Vault) (who : List ℕ) (c : Caller) → caller_of v who ≡ Some c → c.rights.bypass ≡ true → MayBypass v who
may_bypass v who c there right = let P : Option Caller → Type 0 = λ o. IsTrue (has_bypass o) in subst P (sym there) right

cause-permitted : (v : Vault) (who : List ℕ) (a : Access) (guarding : List Denial) (p : Permit) → caller_of v who ≡ Some a.caller → Permitted guarding a.caller.rights.bypass p → IsCauseOf who (entries.cause_by p who) × IsPermittedUnder v guarding (entries.cause_by p who)
cause-permitted v who a guarding Free there may = (refl, may)
cause-permitted v who a guarding Bypass there may = (refl, (may.0, may_bypass v who a.caller there may.1))

caused_by_right : (v : Vault) (who : List ℕ) (p : Permit) → HasRight v who right.DeleteVersion → IsCausedByRight v (entries.cause_by p who)
caused_by_right v who Free may = may
caused_by_right v who Bypass may = may

pub delete_version-changes : (v : Vault) (t : ℕ) (who : List ℕ) (c : DeleteVersion) → Changes v t who (entries.delete_version v t who c)
delete_version-changes v t who c =
    bind_if (access v t who c.bucket right.DeleteVersion) (λ a. HasAccess v t who c.bucket a × HasRight v who right.DeleteVersion) _ _ (access-is v t who c.bucket right.DeleteVersion)
    (λ a at. bind_if (entries.removal_permitted v t c a) (IsRemovable v t c.id a) _ _ (removal_permitted-is v t c a)
    (λ r is. one_change v t who (change.Remove c.id (entries.removal_by t who r.permit)) (record {
      in_time = at.0.in_time;
      allowed = record { now = refl; held = is.held };
      permitted = cause-permitted v who a (guards (lock_of v c.id) t) r.permit at.0.caller is.permitted;
      entitled = caused_by_right v who r.permit at.1;
    })))
