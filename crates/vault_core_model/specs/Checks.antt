-- The checks that commands share, in their order: the clock, the caller, the bucket, its department, the right, the arguments, the entry, the lock, the quota, the ids and numbers.
use Rattle.std.specs.Prelude.{ℕ, ◌+◌, Bool, true, false, not, ◌||◌, nat_lt, nat_le, List, Option, Some, None, Result, Ok, Err, if◌then◌else◌, ⊤, unwrap_or}
use Rattle.std.specs.Str.{bytes_eq}
use Rattle.vault_base.specs.declared.refusal.Refusal.{Refusal}
use Rattle.vault_base.specs.declared.refusal.Refusal.TheVariants.{ClockBack, AccessDenied, NoSuchBucket, NoSuchKey, NoSuchVersion, MethodNotAllowed, InvalidArgument, RetentionOutOfRange, EntityTooLarge, QuotaExceeded, VaultFull}
use Rattle.vault_base.specs.declared.refusal.Reason.TheVariants as reason
use Rattle.vault_base.specs.declared.right.Right.{Right}
use Rattle.vault_base.specs.declared.right.Right.TheVariants as right
use Rattle.vault_base.specs.declared.content.Content.{Content}
use Rattle.vault_base.specs.Content.{size, most_size, is_external}
use Rattle.vault_base.specs.Limits.{most_ids, most_moves, most_settings}
use Rattle.vault_lock.specs.declared.retention.Retention.{Retention}
use Rattle.vault_lock.specs.declared.lock.Lock.{Lock}
use Rattle.vault_lock.specs.declared.lock.Permit.{Permit}
use Rattle.vault_lock.specs.declared.lock.Denial.{Denial}
use Rattle.vault_lock.specs.declared.lock.Denial.TheVariants as denial
use Rattle.vault_lock.specs.declared.retention.Default.{Default}
use Rattle.vault_lock.specs.Retention.{first_lock, is_period}
use Rattle.vault_tally.specs.Row.{quota}
use Rattle.vault_core_model.specs.declared.records.BucketConfig.{BucketConfig}
use Rattle.vault_core_model.specs.declared.records.Caller.{Caller}
use Rattle.vault_core_model.specs.declared.records.Entry.{Entry}
use Rattle.vault_core_model.specs.declared.records.History.{History}
use Rattle.vault_core_model.specs.declared.access.Access.{Access}
use Rattle.vault_core_model.specs.Rights.{has}
use Rattle.vault_core_model.specs.Vault.{Vault, caller_of, config_of, has_department, next_id}
use Rattle.vault_core_model.specs.Places.{is_held_at, current}
use Rattle.vault_core_model.specs.Reads.{entry_of, setting_of, count_of_settings}
use Rattle.vault_core_model.specs.Totals.{admitted_bytes, received_bytes}

-- one check after another: the first that fails is the answer
infixl 10 ◌>>=◌
abbrev pub ◌>>=◌ : {A B : Type 0} → Result A Refusal → (A → Result B Refusal) → Result B Refusal
(Ok x) >>= f = f x
(Err e) >>= f = Err e

-- a test that must pass
abbrev pub check : Bool → Refusal → Result ⊤ Refusal
check passes refusal = if passes then Ok tt else Err refusal

-- what must be there
abbrev pub found : {A : Type 0} → Option A → Refusal → Result A Refusal
found None refusal = Err refusal
found (Some x) refusal = Ok x

-- ---- the clock and the caller

-- the caller has the right
abbrev pub needs : Caller → Right → Result ⊤ Refusal
needs c r = check (has c.rights r) (AccessDenied (reason.Right r))

-- the right is needed only where something is asked
abbrev pub needs_if : Bool → Caller → Right → Result ⊤ Refusal
needs_if asked c r = if asked then needs c r else Ok tt

-- a caller that is there and isn't closed
abbrev pub open_caller : Option Caller → Result Caller Refusal
open_caller None = Err (AccessDenied reason.UnknownCaller)
open_caller (Some c) = if c.closed then Err (AccessDenied reason.UnknownCaller) else Ok c

-- the reading isn't before the last moment
abbrev pub in_time : Vault → ℕ → Result ⊤ Refusal
in_time v t = check (nat_le v.last t) ClockBack

-- the clock, then the caller
abbrev pub asking : Vault → ℕ → List ℕ → Result Caller Refusal
asking v t who = do
  _ ← in_time v t
  open_caller (caller_of v who)

-- a caller with the right to administer
abbrev pub administrator : Vault → ℕ → List ℕ → Result Caller Refusal
administrator v t who = do
  c ← asking v t who
  _ ← needs c right.Admin
  Ok c

-- ---- the bucket, its department and the right

-- that is the caller's department
abbrev pub is_own : Option (List ℕ) → List ℕ → Bool
is_own None dept = false
is_own (Some own) dept = bytes_eq own dept

-- a caller with that right at that bucket
abbrev pub access : Vault → ℕ → List ℕ → List ℕ → Right → Result Access Refusal
access v t who bucket r = do
  c ← asking v t who
  b ← found (config_of v bucket) NoSuchBucket
  _ ← check (is_own c.dept b.dept) (AccessDenied reason.Department)
  _ ← needs c r
  Ok (record { caller = c; bucket = b })

-- ---- the arguments

-- a content that is kept outside is only for a vault that registers such contents
abbrev pub has_place : Vault → Content → Result ⊤ Refusal
has_place v content = check (v.external || not (is_external content)) InvalidArgument

abbrev pub small_enough : Content → Result ⊤ Refusal
small_enough content = check (nat_le (size content) (most_size content)) EntityTooLarge

-- a new retention ends after the reading
abbrev pub ends_later : ℕ → Retention → Result ⊤ Refusal
ends_later t r = check (nat_lt t r.until) InvalidArgument

abbrev pub ends_later_if_given : ℕ → Option Retention → Result ⊤ Refusal
ends_later_if_given t None = Ok tt
ends_later_if_given t (Some r) = ends_later t r

-- a default's period, where there is a default, is in its range
abbrev pub has_period : Option Default → Bool
has_period None = true
has_period (Some d) = is_period d.period

abbrev pub allowed_default : Option Default → Result ⊤ Refusal
allowed_default d = check (has_period d) InvalidArgument

abbrev pub known_department : Vault → List ℕ → Result ⊤ Refusal
known_department v dept = check (has_department v dept) InvalidArgument

-- a department that is there, and isn't the bucket's own
abbrev pub other_department : Vault → BucketConfig → List ℕ → Result ⊤ Refusal
other_department v b dept = do
  _ ← known_department v dept
  check (not (bytes_eq b.dept dept)) InvalidArgument

abbrev pub known_department_if_given : Vault → Option (List ℕ) → Result ⊤ Refusal
known_department_if_given v None = Ok tt
known_department_if_given v (Some dept) = known_department v dept

-- a report is for administrators, and of the own department for those with the right
abbrev pub may_report : Caller → List ℕ → Result ⊤ Refusal
may_report c dept = do
  _ ← check (c.rights.admin || is_own c.dept dept) (AccessDenied reason.Department)
  check (c.rights.admin || c.rights.report) (AccessDenied (reason.Right right.Report))

-- ---- the key or version

-- a content version on top of its key; a marker there is reported (API Reference, "GetObject": a delete marker on top answers 404)
abbrev pub content_on_top : Option History → Result Entry Refusal
content_on_top None = Err (NoSuchKey false)
content_on_top (Some h) = if h.entry.marker then Err (NoSuchKey true) else Ok h.entry

-- the entry, where it is held in that bucket and under that key
abbrev pub held_there : List ℕ → List ℕ → Option Entry → Result Entry Refusal
held_there bucket key None = Err NoSuchVersion
held_there bucket key (Some e) = if is_held_at bucket key e then Ok e else Err NoSuchVersion

-- the held entry of that id, in that bucket and under that key
abbrev pub held_entry : Vault → List ℕ → List ℕ → ℕ → Result Entry Refusal
held_entry v bucket key id = held_there bucket key (entry_of v id)

-- a content version
abbrev pub content_version : Entry → Result Entry Refusal
content_version e = if e.marker then Err MethodNotAllowed else Ok e

-- the content version that is meant: the current one, or that of the id
abbrev pub version_meant : Vault → List ℕ → List ℕ → Option ℕ → Result Entry Refusal
version_meant v bucket key None = content_on_top (current v bucket key)
version_meant v bucket key (Some id) = do
  e ← held_entry v bucket key id
  content_version e

-- ---- the lock

-- the refusal that a denial gives
abbrev pub refusal_of : Denial → Refusal
refusal_of denial.Hold = AccessDenied reason.LegalHold
refusal_of denial.Compliance = AccessDenied reason.RetentionCompliance
refusal_of denial.Governance = AccessDenied reason.RetentionGovernance

abbrev pub permitted : Result Permit Denial → Result Permit Refusal
permitted (Ok p) = Ok p
permitted (Err d) = Err (refusal_of d)

-- the first lock of a version placed in a bucket; a hold is on only where ON was asked
abbrev pub lock_at_admission : BucketConfig → Option Retention → Option Bool → ℕ → Result Lock Refusal
lock_at_admission b retention hold t = found (first_lock b.default retention (unwrap_or hold false) t) RetentionOutOfRange

-- ---- the quota, the ids and the numbers

abbrev pub within_quota : Vault → List ℕ → ℕ → Result ⊤ Refusal
within_quota v dept size = check (nat_le (admitted_bytes v dept + received_bytes v dept + size) quota) QuotaExceeded

-- the next id, while one is left
abbrev pub free_id : Vault → Result ℕ Refusal
free_id v = if nat_le (next_id v) most_ids then Ok (next_id v) else Err VaultFull

-- one move more may be made
abbrev pub free_move : Vault → Result ⊤ Refusal
free_move v = check (nat_lt v.moves most_moves) VaultFull

-- one setting more may be made of the version of that id
abbrev pub free_setting : Vault → ℕ → Result ⊤ Refusal
free_setting v id = check (nat_lt (count_of_settings (setting_of v id)) most_settings) VaultFull
