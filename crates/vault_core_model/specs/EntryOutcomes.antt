-- What the commands that admit, read and remove entries answer, and the vault after them.
use Rattle.std.specs.Prelude.{ℕ, List, [], ◌∷◌, false, Some, None, is_some, unwrap_or, Result, Ok, true}
use Rattle.vault_base.specs.declared.content.Content.TheVariants.{Inside}
use Rattle.vault_base.specs.declared.refusal.Refusal.{Refusal}
use Rattle.vault_base.specs.declared.right.Right.TheVariants as right
use Rattle.vault_base.specs.Content.{size, digest}
use Rattle.vault_lock.specs.declared.lock.Lock.{Lock}
use Rattle.vault_lock.specs.declared.lock.Permit.{Permit}
use Rattle.vault_lock.specs.declared.lock.Permit.TheVariants as permit
use Rattle.vault_lock.specs.Lock.{removable}
use Rattle.vault_core_model.specs.declared.records.Author.{Author}
use Rattle.vault_core_model.specs.declared.records.Author.TheVariants as author
use Rattle.vault_core_model.specs.declared.records.Cause.{Cause}
use Rattle.vault_core_model.specs.declared.records.Cause.TheVariants as cause
use Rattle.vault_core_model.specs.declared.records.History.{History}
use Rattle.vault_core_model.specs.declared.records.Removal.{Removal}
use Rattle.vault_core_model.specs.declared.change.Change.TheVariants as change
use Rattle.vault_core_model.specs.declared.command.Put.{Put}
use Rattle.vault_core_model.specs.declared.command.Get.{Get}
use Rattle.vault_core_model.specs.declared.command.Head.{Head}
use Rattle.vault_core_model.specs.declared.command.Delete.{Delete}
use Rattle.vault_core_model.specs.declared.command.DeleteVersion.{DeleteVersion}
use Rattle.vault_core_model.specs.declared.reply.Answer.{Answer}
use Rattle.vault_core_model.specs.declared.reply.Removed.{Removed}
use Rattle.vault_core_model.specs.declared.reply.Answer.TheVariants as answer
use Rattle.vault_core_model.specs.declared.access.Access.{Access}
use Rattle.vault_core_model.specs.Vault.{Vault}
use Rattle.vault_core_model.specs.Reads.{lock_of, content_of}
use Rattle.vault_core_model.specs.Change.{changed}
use Rattle.vault_core_model.specs.Checks.{◌>>=◌, needs_if, access, has_place, small_enough, ends_later_if_given, held_entry, version_meant, permitted, lock_at_admission, within_quota, free_id}

-- ---- admission

-- the version that is admitted, with its first setting and the bucket's department
abbrev pub new_version : ℕ → ℕ → List ℕ → List ℕ → Put → Lock → History
new_version id t who dept c lock = record {
  entry = record { id = id; bucket = c.bucket; key = c.key; marker = false; size = size c.content; digest = Some (digest c.content); admitted = t; by = author.Caller who; removal = None };
  content = Some c.content;
  settings = record { at = t; by = who; lock = lock; bypass = false } ∷ [];
  tenures = record { dept = dept; from = t; number = 0 } ∷ [];
}

-- a caller that may put, and set what is given of retention and hold
abbrev pub access_to_put : Vault → ℕ → List ℕ → Put → Result Access Refusal
access_to_put v t who c = do
  a ← access v t who c.bucket right.Put
  _ ← needs_if (is_some c.retention) a.caller right.Retain
  _ ← needs_if (is_some c.hold) a.caller right.Hold
  Ok a

-- the lock that a Put gives: the arguments, the lock, the quota
abbrev pub lock_to_admit : Vault → ℕ → Put → Access → Result Lock Refusal
lock_to_admit v t c a = do
  _ ← has_place v c.content
  _ ← small_enough c.content
  _ ← ends_later_if_given t c.retention
  lock ← lock_at_admission a.bucket c.retention c.hold t
  _ ← within_quota v a.bucket.dept (size c.content)
  Ok lock

-- the version that a Put admits, with the next id
abbrev pub admission : Vault → ℕ → List ℕ → Put → Access → Result History Refusal
admission v t who c a = do
  lock ← lock_to_admit v t c a
  id ← free_id v
  Ok (new_version id t who a.bucket.dept c lock)

-- a new version above whatever the key has (API Reference, "PutObject")
abbrev pub put : Vault → ℕ → List ℕ → Put → Result (Answer × Vault) Refusal
put v t who c = do
  a ← access_to_put v t who c
  h ← admission v t who c a
  Ok (answer.Admitted h.entry.id, changed v t (change.Admit (record { history = h; note = None })))

-- ---- reading

-- the content that is held, with the lock that counts (API Reference, "GetObject")
abbrev pub get : Vault → ℕ → List ℕ → Get → Result (Answer × Vault) Refusal
get v t who c = do
  _ ← access v t who c.bucket right.Get
  e ← version_meant v c.bucket c.key c.id
  Ok (answer.Version (record { entry = e; lock = lock_of v e.id }) (unwrap_or (content_of v e.id) (Inside [])), v)

-- the same without the content (API Reference, "HeadObject")
abbrev pub head : Vault → ℕ → List ℕ → Head → Result (Answer × Vault) Refusal
head v t who c = do
  _ ← access v t who c.bucket right.Get
  e ← version_meant v c.bucket c.key c.id
  Ok (answer.Head (record { entry = e; lock = lock_of v e.id }), v)

-- ---- removal

-- a delete marker admitted at t
abbrev pub new_marker : ℕ → List ℕ → List ℕ → ℕ → Author → History
new_marker id bucket key t by = record {
  entry = record { id = id; bucket = bucket; key = key; marker = true; size = 0; digest = None; admitted = t; by = by; removal = None };
  content = None;
  settings = [];
  tenures = [];
}

-- the id of the delete marker that a caller may admit
abbrev pub marker_id : Vault → ℕ → List ℕ → Delete → Result ℕ Refusal
marker_id v t who c = do
  _ ← access v t who c.bucket right.Delete
  free_id v

-- a delete marker on top, also over a locked version, a marker or an absent key (S3 User Guide, "Working with delete markers")
abbrev pub delete : Vault → ℕ → List ℕ → Delete → Result (Answer × Vault) Refusal
delete v t who c = do
  id ← marker_id v t who c
  Ok (answer.Marked id, changed v t (change.Admit (record { history = new_marker id c.bucket c.key t (author.Caller who); note = None })))

-- the cause of a removal that was permitted so
abbrev pub cause_by : Permit → List ℕ → Cause
cause_by permit.Free who = cause.Request who
cause_by permit.Bypass who = cause.Bypass who

-- the held entry of the id, and how its lock permits the removal
abbrev pub removal_permitted : Vault → ℕ → DeleteVersion → Access → Result Removed Refusal
removal_permitted v t c a = do
  e ← held_entry v c.bucket c.key c.id
  p ← permitted (removable (lock_of v c.id) t c.bypass a.caller.rights.bypass)
  Ok (record { id = c.id; marker = e.marker; permit = p })

-- the removal that a permit gives
abbrev pub removal_by : ℕ → List ℕ → Permit → Removal
removal_by t who p = record { at = t; cause = cause_by p who }

-- the entry is removed for good, where no lock denies it (S3 User Guide, "Deleting object versions from a versioning-enabled bucket")
abbrev pub delete_version : Vault → ℕ → List ℕ → DeleteVersion → Result (Answer × Vault) Refusal
delete_version v t who c = do
  a ← access v t who c.bucket right.DeleteVersion
  r ← removal_permitted v t c a
  Ok (answer.Removed r, changed v t (change.Remove c.id (removal_by t who r.permit)))
