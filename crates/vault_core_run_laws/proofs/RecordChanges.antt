-- What the commands on departments, callers, buckets and their configuration change.
use Rattle.std.proofs.Common.{IsTrue, ◌+◌, ◌≤◌, length, ◌≡◌, ℕ, List, [], ◌∷◌, true, false, Option, Some, None, Result, refl, arith}
use Rattle.std.specs.Prelude.{IfOk, IsSome, nat_le, nat_lt, not, is_some}
use Rattle.std.specs.Str.{bytes_eq}
use Rattle.std.proofs.lemmas.Bool.{leb-true, ltb-true}
use Rattle.vault_base.specs.declared.refusal.Refusal.{Refusal}
use Rattle.vault_base.specs.declared.refusal.Refusal.TheVariants.{NameTaken, BucketAlreadyExists, NoSuchBucket, InvalidArgument, NoSuchLifecycleConfiguration, QuotaExceeded, VaultFull}
use Rattle.vault_rules.specs.Rules.{is_rule_set, passes_if_given}
use Rattle.vault_tally.specs.Row.{quota}
use Rattle.vault_base.specs.declared.right.Right.TheVariants as right
use Rattle.vault_base.specs.Limits.{most_moves}
use Rattle.vault_core_model.specs.declared.change.Change.{Change}
use Rattle.vault_core_model.specs.declared.change.Change.TheVariants as change
use Rattle.vault_core_model.specs.declared.command.AddDept.{AddDept}
use Rattle.vault_core_model.specs.declared.command.AddCaller.{AddCaller}
use Rattle.vault_core_model.specs.declared.command.CloseCaller.{CloseCaller}
use Rattle.vault_core_model.specs.declared.command.AddBucket.{AddBucket}
use Rattle.vault_core_model.specs.declared.command.MoveBucket.{MoveBucket}
use Rattle.vault_core_model.specs.declared.command.SetDefault.{SetDefault}
use Rattle.vault_core_model.specs.declared.command.GetDefault.{GetDefault}
use Rattle.vault_core_model.specs.declared.command.SetRules.{SetRules}
use Rattle.vault_core_model.specs.declared.command.GetRules.{GetRules}
use Rattle.vault_core_model.specs.declared.command.DropRules.{DropRules}
use Rattle.vault_core_model.specs.declared.command.Report.{Report}
use Rattle.vault_core_model.specs.declared.records.BucketConfig.{BucketConfig}
use Rattle.vault_core_model.specs.declared.records.Caller.{Caller}
use Rattle.vault_core_model.specs.declared.reply.Answer.{Answer}
use Rattle.vault_core_model.specs.Vault.{Vault, caller_of, config_of, has_department, rules_of}
use Rattle.vault_core_model.specs.Change.{changed}
use Rattle.vault_core_model.specs.Totals.{admitted_bytes, received_bytes, bucket_bytes}
use Rattle.vault_core_model.specs.Checks.{check, found, needs, access, allowed_default, has_period, asking, administrator, known_department, known_department_if_given, other_department, within_quota, free_move, may_report}
use Rattle.vault_core_model.specs.RecordOutcomes as records
use Rattle.vault_core_run_laws.specs.Chains.{MayMake, MayMakeAll}
use Rattle.vault_core_run_laws.proofs.Checked.{bind_if, if_weaker, any-is, check-is, found-is, not-true, not_some, some_is, IsAsking, asking-is, administrator-is, HasAccess, access-only}

-- one permitted change at most leads from v to v'
abbrev pub LeadsOnce : Vault → ℕ → List ℕ → Vault → Type 0
LeadsOnce v t who v' = (cs : List Change) × MayMakeAll v t who cs v' × (length cs ≤ 1)

pub unchanged : (v : Vault) (t : ℕ) (who : List ℕ) → LeadsOnce v t who v
unchanged v t who = ([], refl, omega arith)

pub one_change : (v : Vault) (t : ℕ) (who : List ℕ) (c : Change) → MayMake v t who c → LeadsOnce v t who (changed v t c)
one_change v t who c may = (c ∷ [], (may, refl), omega arith)

-- the vault after the command, where it is done, comes by one permitted change at most
abbrev pub Changes : Vault → ℕ → List ℕ → Result (Answer × Vault) Refusal → Type 0
Changes v t who judged = IfOk judged (λ p. LeadsOnce v t who p.1)

pub add_dept-changes : (v : Vault) (t : ℕ) (who : List ℕ) (c : AddDept) → Changes v t who (records.add_dept v t who c)
add_dept-changes v t who c =
    bind_if (administrator v t who) (IsAsking v t who) _ _ (administrator-is v t who)
    (λ a asked. bind_if (check (not (has_department v c.dept)) NameTaken) (λ u. not (has_department v c.dept) ≡ true) _ _ (check-is (not (has_department v c.dept)) NameTaken)
    (λ u free. one_change v t who (change.AddDept c.dept) (record { in_time = asked.in_time; allowed = not-true (has_department v c.dept) free; permitted = tt; entitled = tt })))

-- the department, where one is given, is there
known_if_given : (v : Vault) (o : Option (List ℕ)) → IfOk (known_department_if_given v o) (λ u. IsTrue (passes_if_given (has_department v) o))
known_if_given v None = refl
known_if_given v (Some dept) = check-is (has_department v dept) InvalidArgument

pub add_caller-changes : (v : Vault) (t : ℕ) (who : List ℕ) (c : AddCaller) → Changes v t who (records.add_caller v t who c)
add_caller-changes v t who c =
    bind_if (administrator v t who) (IsAsking v t who) _ _ (administrator-is v t who)
    (λ a asked. bind_if (known_department_if_given v c.dept) (λ u. IsTrue (passes_if_given (has_department v) c.dept)) _ _ (known_if_given v c.dept)
    (λ u known. bind_if (check (not (is_some (caller_of v c.caller))) NameTaken) (λ u. not (is_some (caller_of v c.caller)) ≡ true) _ _ (check-is (not (is_some (caller_of v c.caller))) NameTaken)
    (λ w free. one_change v t who (change.AddCaller (records.new_caller c)) (record { in_time = asked.in_time; allowed = (not_some (caller_of v c.caller) free, known); permitted = tt; entitled = tt }))))

open_is_there : (o : Option Caller) → records.is_open o ≡ true → IsSome o
open_is_there None e = absurd (cc e)
open_is_there (Some c) e = refl

pub close_caller-changes : (v : Vault) (t : ℕ) (who : List ℕ) (c : CloseCaller) → Changes v t who (records.close_caller v t who c)
close_caller-changes v t who c =
    bind_if (administrator v t who) (IsAsking v t who) _ _ (administrator-is v t who)
    (λ a asked. bind_if (check (records.is_open (caller_of v c.caller)) InvalidArgument) (λ u. records.is_open (caller_of v c.caller) ≡ true) _ _ (check-is (records.is_open (caller_of v c.caller)) InvalidArgument)
    (λ u there. one_change v t who (change.CloseCaller c.caller) (record { in_time = asked.in_time; allowed = open_is_there (caller_of v c.caller) there; permitted = tt; entitled = tt })))

pub add_bucket-changes : (v : Vault) (t : ℕ) (who : List ℕ) (c : AddBucket) → Changes v t who (records.add_bucket v t who c)
add_bucket-changes v t who c =
    bind_if (administrator v t who) (IsAsking v t who) _ _ (administrator-is v t who)
    (λ a asked. bind_if (known_department v c.dept) (λ u. has_department v c.dept ≡ true) _ _ (check-is (has_department v c.dept) InvalidArgument)
    (λ u known. bind_if (check (not (is_some (config_of v c.bucket))) BucketAlreadyExists) (λ u. not (is_some (config_of v c.bucket)) ≡ true) _ _ (check-is (not (is_some (config_of v c.bucket))) BucketAlreadyExists)
    (λ w free. one_change v t who (change.AddBucket c.bucket c.dept) (record { in_time = asked.in_time; allowed = (not_some (config_of v c.bucket) free, known); permitted = tt; entitled = tt }))))

-- a bucket that is asked in time to be moved
record IsToMove (v : Vault) (t : ℕ) (name : List ℕ) (b : BucketConfig) : Type 0 where
  pub in_time : v.last ≤ t
  pub there : config_of v name ≡ Some b

bucket_to_move-is : (v : Vault) (t : ℕ) (who : List ℕ) (c : MoveBucket) → IfOk (records.bucket_to_move v t who c) (IsToMove v t c.bucket)
bucket_to_move-is v t who c =
    bind_if (asking v t who) (IsAsking v t who) _ _ (asking-is v t who)
    (λ a asked. bind_if (found (config_of v c.bucket) NoSuchBucket) (λ b. config_of v c.bucket ≡ Some b) _ _ (found-is (config_of v c.bucket) NoSuchBucket)
    (λ b there. bind_if (needs a right.Admin) (λ u. Unit {0}) _ _ (any-is (needs a right.Admin))
    (λ u may. record { in_time = asked.in_time; there = there })))

-- the department is there, and isn't the bucket's
abbrev IsOther : Vault → BucketConfig → List ℕ → Type 0
IsOther v b dept = IsTrue (has_department v dept) × (bytes_eq b.dept dept ≡ false)

other_department-is : (v : Vault) (b : BucketConfig) (dept : List ℕ) → IfOk (other_department v b dept) (λ u. IsOther v b dept)
other_department-is v b dept =
    bind_if (known_department v dept) (λ u. has_department v dept ≡ true) _ _ (check-is (has_department v dept) InvalidArgument)
    (λ u known. if_weaker (check (not (bytes_eq b.dept dept)) InvalidArgument) (λ w. not (bytes_eq b.dept dept) ≡ true) (λ w. IsOther v b dept) (λ w other. (known, not-true (bytes_eq b.dept dept) other)) (check-is (not (bytes_eq b.dept dept)) InvalidArgument))

-- what the receiving department has counted for it after the move
abbrev counted_after : Vault → MoveBucket → ℕ
counted_after v c = admitted_bytes v c.dept + received_bytes v c.dept + bucket_bytes v c.bucket

pub move_bucket-changes : (v : Vault) (t : ℕ) (who : List ℕ) (c : MoveBucket) → Changes v t who (records.move_bucket v t who c)
move_bucket-changes v t who c =
    bind_if (records.bucket_to_move v t who c) (IsToMove v t c.bucket) _ _ (bucket_to_move-is v t who c)
    (λ b at. bind_if (other_department v b c.dept) (λ u. IsOther v b c.dept) _ _ (other_department-is v b c.dept)
    (λ u other. bind_if (within_quota v c.dept (bucket_bytes v c.bucket)) (λ w. nat_le (counted_after v c) quota ≡ true) _ _ (check-is (nat_le (counted_after v c) quota) QuotaExceeded)
    (λ w fits. bind_if (free_move v) (λ x. nat_lt v.moves most_moves ≡ true) _ _ (check-is (nat_lt v.moves most_moves) VaultFull)
    (λ x left. one_change v t who (change.MoveBucket c.bucket c.dept) (record {
      in_time = at.in_time;
      allowed = record { bucket = b; there = at.there; known = other.0; other = other.1; fits = leb-true (counted_after v c) quota fits; left = ltb-true v.moves most_moves left };
      permitted = tt;
      entitled = tt;
    })))))

pub set_default-changes : (v : Vault) (t : ℕ) (who : List ℕ) (c : SetDefault) → Changes v t who (records.set_default v t who c)
set_default-changes v t who c =
    bind_if (access v t who c.bucket right.Config) (HasAccess v t who c.bucket) _ _ (access-only v t who c.bucket right.Config)
    (λ a at. bind_if (allowed_default c.default) (λ u. has_period c.default ≡ true) _ _ (check-is (has_period c.default) InvalidArgument)
    (λ u period. one_change v t who (change.SetDefault c.bucket c.default) (record { in_time = at.in_time; allowed = (some_is (config_of v c.bucket) a.bucket at.bucket, period); permitted = tt; entitled = tt })))

pub set_rules-changes : (v : Vault) (t : ℕ) (who : List ℕ) (c : SetRules) → IsTrue (is_rule_set c.rules) → Changes v t who (records.set_rules v t who c)
set_rules-changes v t who c set =
    bind_if (access v t who c.bucket right.Config) (HasAccess v t who c.bucket) _ _ (access-only v t who c.bucket right.Config)
    (λ a at. one_change v t who (change.SetRules c.bucket (Some c.rules)) (record { in_time = at.in_time; allowed = (some_is (config_of v c.bucket) a.bucket at.bucket, set); permitted = tt; entitled = tt }))

pub drop_rules-changes : (v : Vault) (t : ℕ) (who : List ℕ) (c : DropRules) → Changes v t who (records.drop_rules v t who c)
drop_rules-changes v t who c =
    bind_if (access v t who c.bucket right.Config) (HasAccess v t who c.bucket) _ _ (access-only v t who c.bucket right.Config)
    (λ a at. one_change v t who (change.SetRules c.bucket None) (record { in_time = at.in_time; allowed = (some_is (config_of v c.bucket) a.bucket at.bucket, refl); permitted = tt; entitled = tt }))

-- ---- reads

pub get_default-changes : (v : Vault) (t : ℕ) (who : List ℕ) (c : GetDefault) → Changes v t who (records.get_default v t who c)
get_default-changes v t who c =
    bind_if (access v t who c.bucket right.Config) (λ a. Unit {0}) _ _ (any-is (access v t who c.bucket right.Config)) (λ a at. unchanged v t who)

pub get_rules-changes : (v : Vault) (t : ℕ) (who : List ℕ) (c : GetRules) → Changes v t who (records.get_rules v t who c)
get_rules-changes v t who c =
    bind_if (access v t who c.bucket right.Config) (λ a. Unit {0}) _ _ (any-is (access v t who c.bucket right.Config))
    (λ a at. bind_if (found (rules_of v c.bucket) NoSuchLifecycleConfiguration) (λ a. Unit {0}) _ _ (any-is (found (rules_of v c.bucket) NoSuchLifecycleConfiguration))
    (λ rules there. unchanged v t who))

pub report-changes : (v : Vault) (t : ℕ) (who : List ℕ) (c : Report) → Changes v t who (records.report v t who c)
report-changes v t who c =
    bind_if (asking v t who) (λ a. Unit {0}) _ _ (any-is (asking v t who))
    (λ a asked. bind_if (may_report a c.dept) (λ a. Unit {0}) _ _ (any-is (may_report a c.dept))
    (λ u may. bind_if (known_department v c.dept) (λ a. Unit {0}) _ _ (any-is (known_department v c.dept))
    (λ w known. unchanged v t who)))
