-- What the commands on departments, callers and buckets answer, and the vault after them.
use Rattle.std.specs.Prelude.{ℕ, List, not, false, is_some, Result, Ok, Bool, Option, Some, None}
use Rattle.vault_base.specs.declared.refusal.Refusal.{Refusal}
use Rattle.vault_base.specs.declared.refusal.Refusal.TheVariants.{NameTaken, BucketAlreadyExists, NoSuchBucket, InvalidArgument, NoSuchLifecycleConfiguration}
use Rattle.vault_base.specs.declared.right.Right.TheVariants as right
use Rattle.vault_core_model.specs.declared.records.BucketConfig.{BucketConfig}
use Rattle.vault_core_model.specs.declared.records.Caller.{Caller}
use Rattle.vault_core_model.specs.declared.change.Change.TheVariants as change
use Rattle.vault_core_model.specs.declared.command.AddDept.{AddDept}
use Rattle.vault_core_model.specs.declared.command.AddCaller.{AddCaller}
use Rattle.vault_core_model.specs.declared.command.CloseCaller.{CloseCaller}
use Rattle.vault_core_model.specs.declared.command.AddBucket.{AddBucket}
use Rattle.vault_core_model.specs.declared.command.MoveBucket.{MoveBucket}
use Rattle.vault_core_model.specs.declared.command.SetDefault.{SetDefault}
use Rattle.vault_core_model.specs.declared.command.GetDefault.{GetDefault}
use Rattle.vault_core_model.specs.declared.command.SetRules.{SetRules}
use Rattle.vault_core_model.specs.declared.command.GetRules.{GetRules}
use Rattle.vault_core_model.specs.declared.command.DropRules.{DropRules}
use Rattle.vault_core_model.specs.declared.command.Report.{Report}
use Rattle.vault_core_model.specs.declared.reply.Report.{Report as Sums}
use Rattle.vault_core_model.specs.declared.reply.Answer.{Answer}
use Rattle.vault_core_model.specs.declared.reply.Answer.TheVariants as answer
use Rattle.vault_core_model.specs.Vault.{Vault, caller_of, config_of, has_department, rules_of}
use Rattle.vault_core_model.specs.Change.{changed}
use Rattle.vault_core_model.specs.Totals.{admitted_bytes, received_bytes, held_bytes, removed_bytes, handed_bytes, byte_days_at, bucket_bytes}
use Rattle.vault_core_model.specs.Checks.{◌>>=◌, check, found, needs, access, allowed_default, asking, administrator, known_department, known_department_if_given, other_department, within_quota, free_move, may_report}

abbrev pub add_dept : Vault → ℕ → List ℕ → AddDept → Result (Answer × Vault) Refusal
add_dept v t who c = do
  _ ← administrator v t who
  _ ← check (not (has_department v c.dept)) NameTaken
  Ok (answer.Nothing, changed v t (change.AddDept c.dept))

abbrev pub new_caller : AddCaller → Caller
new_caller c = record { name = c.caller; dept = c.dept; rights = c.rights; closed = false }

-- the name of a closed caller stays taken
abbrev pub add_caller : Vault → ℕ → List ℕ → AddCaller → Result (Answer × Vault) Refusal
add_caller v t who c = do
  _ ← administrator v t who
  _ ← known_department_if_given v c.dept
  _ ← check (not (is_some (caller_of v c.caller))) NameTaken
  Ok (answer.Nothing, changed v t (change.AddCaller (new_caller c)))

-- an open caller
abbrev pub is_open : Option Caller → Bool
is_open None = false
is_open (Some c) = not c.closed

-- a caller is closed for good, and once
abbrev pub close_caller : Vault → ℕ → List ℕ → CloseCaller → Result (Answer × Vault) Refusal
close_caller v t who c = do
  _ ← administrator v t who
  _ ← check (is_open (caller_of v c.caller)) InvalidArgument
  Ok (answer.Nothing, changed v t (change.CloseCaller c.caller))

abbrev pub add_bucket : Vault → ℕ → List ℕ → AddBucket → Result (Answer × Vault) Refusal
add_bucket v t who c = do
  _ ← administrator v t who
  _ ← known_department v c.dept
  _ ← check (not (is_some (config_of v c.bucket))) BucketAlreadyExists
  Ok (answer.Nothing, changed v t (change.AddBucket c.bucket c.dept))

-- the bucket, for an administrator of whatever department; the bucket is looked for before the right is asked
abbrev pub bucket_to_move : Vault → ℕ → List ℕ → MoveBucket → Result BucketConfig Refusal
bucket_to_move v t who c = do
  caller ← asking v t who
  b ← found (config_of v c.bucket) NoSuchBucket
  _ ← needs caller right.Admin
  Ok b

-- the bucket and its held content become another department's, as far as that one's quota goes
abbrev pub move_bucket : Vault → ℕ → List ℕ → MoveBucket → Result (Answer × Vault) Refusal
move_bucket v t who c = do
  b ← bucket_to_move v t who c
  _ ← other_department v b c.dept
  _ ← within_quota v c.dept (bucket_bytes v c.bucket)
  _ ← free_move v
  Ok (answer.Moved (bucket_bytes v c.bucket), changed v t (change.MoveBucket c.bucket c.dept))

-- the default goes to versions placed later alone (S3 User Guide, "Locking objects with Object Lock": Default retention)
abbrev pub set_default : Vault → ℕ → List ℕ → SetDefault → Result (Answer × Vault) Refusal
set_default v t who c = do
  _ ← access v t who c.bucket right.Config
  _ ← allowed_default c.default
  Ok (answer.Nothing, changed v t (change.SetDefault c.bucket c.default))

abbrev pub get_default : Vault → ℕ → List ℕ → GetDefault → Result (Answer × Vault) Refusal
get_default v t who c = do
  a ← access v t who c.bucket right.Config
  Ok (answer.Default a.bucket.default, v)

-- the rules take the place of those that the bucket has (API Reference, "PutBucketLifecycleConfiguration")
abbrev pub set_rules : Vault → ℕ → List ℕ → SetRules → Result (Answer × Vault) Refusal
set_rules v t who c = do
  _ ← access v t who c.bucket right.Config
  Ok (answer.Nothing, changed v t (change.SetRules c.bucket (Some c.rules)))

abbrev pub get_rules : Vault → ℕ → List ℕ → GetRules → Result (Answer × Vault) Refusal
get_rules v t who c = do
  _ ← access v t who c.bucket right.Config
  rules ← found (rules_of v c.bucket) NoSuchLifecycleConfiguration
  Ok (answer.Rules rules, v)

-- done also where the bucket has no rules (API Reference, "DeleteBucketLifecycle")
abbrev pub drop_rules : Vault → ℕ → List ℕ → DropRules → Result (Answer × Vault) Refusal
drop_rules v t who c = do
  _ ← access v t who c.bucket right.Config
  Ok (answer.Nothing, changed v t (change.SetRules c.bucket None))

-- the sums of a department at t
abbrev pub report_of : Vault → List ℕ → ℕ → Sums
report_of v dept t = record {
  dept = dept;
  at = t;
  admitted = admitted_bytes v dept;
  received = received_bytes v dept;
  held = held_bytes v dept;
  removed = removed_bytes v dept;
  handed = handed_bytes v dept;
  byte_days = byte_days_at v dept t;
}

abbrev pub report : Vault → ℕ → List ℕ → Report → Result (Answer × Vault) Refusal
report v t who c = do
  caller ← asking v t who
  _ ← may_report caller c.dept
  _ ← known_department v c.dept
  Ok (answer.Report (report_of v c.dept t), v)
