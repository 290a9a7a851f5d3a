-- In every vault that is reached, a first retention ends after the admission, and who admitted an entry was of the right department.
use Rattle.std.proofs.Common.{◌≡◌, ◌∙◌, ℕ, List, [], ◌∷◌, ◌++◌, map, take, Bool, true, false, Option, Some, None, Result, Ok, Err, refl, sym, ap, subst, inl, inr, eqb}
use Rattle.std.specs.Prelude.{IfOk, ◌<◌, find, is_some, length, nat_le, nat_lt, not, option_map, option_and_then, unwrap_or, if◌then◌else◌}
use Rattle.std.specs.List.{AllByRecursion}
use Rattle.std.specs.Str.{bytes_eq}
use Rattle.std.proofs.lemmas.Bool.{ltb-true}
use Rattle.std.proofs.lemmas.Slice.Eq.{bytes_eq-Decides}
use Rattle.vault_base.specs.declared.refusal.Refusal.{Refusal}
use Rattle.vault_base.specs.declared.refusal.Refusal.TheVariants.{AccessDenied, BucketAlreadyExists, InvalidArgument, MethodNotAllowed, NameTaken, NoSuchBucket, NoSuchLifecycleConfiguration, RetentionOutOfRange, VaultFull}
use Rattle.vault_base.specs.declared.refusal.Reason.TheVariants as reason
use Rattle.vault_base.specs.declared.right.Right.{Right}
use Rattle.vault_base.specs.declared.right.Right.TheVariants as right
use Rattle.vault_base.specs.Content.{size}
use Rattle.vault_base.specs.Days.{is_moment}
use Rattle.vault_base.specs.Limits.{most_ids}
use Rattle.vault_lock.specs.declared.lock.Lock.{Lock}
use Rattle.vault_lock.specs.declared.retention.Default.{Default}
use Rattle.vault_lock.specs.declared.retention.Retention.{Retention}
use Rattle.vault_lock.specs.Retention.{end_of, first_lock}
use Rattle.vault_rules.specs.KeyPlan.{Planned}
use Rattle.vault_rules.specs.declared.plan.Step.{Step}
use Rattle.vault_rules.specs.declared.plan.Step.TheVariants.{Mark, Remove, RemoveLone}
use Rattle.vault_core_model.specs.declared.access.Access.{Access}
use Rattle.vault_core_model.specs.declared.change.Change.{Change}
use Rattle.vault_core_model.specs.declared.change.Change.TheVariants as change
use Rattle.vault_core_model.specs.declared.command.Command.{Command}
use Rattle.vault_core_model.specs.declared.command.Command.TheVariants as command
use Rattle.vault_core_model.specs.declared.command.AddBucket.{AddBucket}
use Rattle.vault_core_model.specs.declared.command.AddCaller.{AddCaller}
use Rattle.vault_core_model.specs.declared.command.AddDept.{AddDept}
use Rattle.vault_core_model.specs.declared.command.Certificate.{Certificate}
use Rattle.vault_core_model.specs.declared.command.CloseCaller.{CloseCaller}
use Rattle.vault_core_model.specs.declared.command.Delete.{Delete}
use Rattle.vault_core_model.specs.declared.command.DeleteVersion.{DeleteVersion}
use Rattle.vault_core_model.specs.declared.command.DropRules.{DropRules}
use Rattle.vault_core_model.specs.declared.command.Get.{Get}
use Rattle.vault_core_model.specs.declared.command.GetDefault.{GetDefault}
use Rattle.vault_core_model.specs.declared.command.GetHold.{GetHold}
use Rattle.vault_core_model.specs.declared.command.GetRetention.{GetRetention}
use Rattle.vault_core_model.specs.declared.command.GetRules.{GetRules}
use Rattle.vault_core_model.specs.declared.command.Head.{Head}
use Rattle.vault_core_model.specs.declared.command.Intake.{Intake}
use Rattle.vault_core_model.specs.declared.command.ListVersions.{ListVersions}
use Rattle.vault_core_model.specs.declared.command.MoveBucket.{MoveBucket}
use Rattle.vault_core_model.specs.declared.command.Put.{Put}
use Rattle.vault_core_model.specs.declared.command.Report.{Report}
use Rattle.vault_core_model.specs.declared.command.SetDefault.{SetDefault}
use Rattle.vault_core_model.specs.declared.command.SetHold.{SetHold}
use Rattle.vault_core_model.specs.declared.command.SetRetention.{SetRetention}
use Rattle.vault_core_model.specs.declared.command.SetRules.{SetRules}
use Rattle.vault_core_model.specs.declared.command.Timed.{Timed}
use Rattle.vault_core_model.specs.declared.records.Author.{Author}
use Rattle.vault_core_model.specs.declared.records.Author.TheVariants as author
use Rattle.vault_core_model.specs.declared.records.Bucket.{Bucket}
use Rattle.vault_core_model.specs.declared.records.BucketConfig.{BucketConfig}
use Rattle.vault_core_model.specs.declared.records.Caller.{Caller}
use Rattle.vault_core_model.specs.declared.records.History.{History}
use Rattle.vault_core_model.specs.declared.records.Note.{Note}
use Rattle.vault_core_model.specs.declared.records.Removal.{Removal}
use Rattle.vault_core_model.specs.declared.records.Setting.{Setting}
use Rattle.vault_core_model.specs.declared.records.Tenure.{Tenure}
use Rattle.vault_core_model.specs.declared.reply.Answer.{Answer}
use Rattle.vault_core_model.specs.declared.reply.Reply.{Reply}
use Rattle.vault_core_model.specs.declared.reply.Reply.TheVariants.{Done, Refused, Stopped}
use Rattle.vault_core_model.specs.declared.reply.Stop.TheVariants as stop
use Rattle.vault_core_model.specs.Change.{changed, next_tenure, removed_by, removed_if, tenured_by, tenured_if, with_setting}
use Rattle.vault_core_model.specs.Checks.{◌>>=◌, access, administrator, allowed_default, asking, check, ends_later_if_given, found, free_id, free_move, has_period, is_own, known_department, known_department_if_given, lock_at_admission, may_report, needs, needs_if, other_department, has_place, small_enough, version_meant, within_quota}
use Rattle.vault_core_model.specs.Reads.{entry_of}
use Rattle.vault_core_model.specs.Totals.{bucket_bytes}
use Rattle.vault_core_model.specs.EntryOutcomes as entries
use Rattle.vault_core_model.specs.IntakeOutcome as intakes
use Rattle.vault_core_model.specs.ListingOutcome as listings
use Rattle.vault_core_model.specs.LockOutcomes as locks
use Rattle.vault_core_model.specs.Places.{is_held_version_in}
use Rattle.vault_core_model.specs.Plan.{after_steps, change_at, change_of}
use Rattle.vault_core_model.specs.RecordOutcomes as records
use Rattle.vault_core_model.specs.RunOutcome.{planned_run, AnswersRun, StopsByFault}
use Rattle.vault_core_model.specs.Sound.{HasPeriod, Sound}
use Rattle.vault_core_model.specs.Step.{Answers, IsRun, IsStep, Reached}
use Rattle.vault_core_model.specs.Vault.{Vault, caller_of, config_in, config_of, has_department, next_id, note_of, opening_of, rules_of}
use Rattle.vault_core_laws.proofs.Lists.{All-push, All-weaker}
use Rattle.vault_core_run_laws.specs.Callers.{KeepsCallers}
use Rattle.vault_core_run_laws.proofs.Checked.{bind_if, check-is, found-is, IsAsking, asking-is}
use Rattle.vault_core_run_laws.proofs.Reached.{run-callers, run-Sound, Sound-opening}
use Rattle.vault_core_evidence.specs.Lawful.{department_of, EndsAfter, IsOfDepartment}
use Rattle.vault_core_evidence.proofs.DefaultEnds.{period_ends}

-- ---- what is kept

-- a version has a first setting, whose retention ends after the admission
abbrev pub HasEnd : Bool → ℕ → List Setting → Type 0
HasEnd true admitted ss = Unit {0}
HasEnd false admitted [] = ⊥
HasEnd false admitted (s ∷ ss) = EndsAfter admitted s.lock.retention

pub record IsAdmittedSo (v : Vault) (h : History) : Type 0 where
  pub end : HasEnd h.entry.marker h.entry.admitted h.settings
  pub department : IsOfDepartment v h.entry.marker h.entry.by h.tenures

abbrev AreAdmittedSo : Vault → Type 0
AreAdmittedSo v = AllByRecursion (IsAdmittedSo v) v.histories

-- where w has the callers of v, its entries were admitted so too
abbrev Goes : Vault → Vault → Type 0
Goes v w = KeepsCallers v w → AreAdmittedSo v → AreAdmittedSo w

-- ---- callers keep their departments

department_is : (v : Vault) (who : List ℕ) (c : Caller) → caller_of v who ≡ Some c → department_of v who ≡ c.dept
department_is v who c there = ap (λ (o : Option Caller). option_and_then (λ (d : Caller). d.dept) o) there

-- a department that a caller has, the caller has later too
still : (v w : Vault) (who : List ℕ) (dept : List ℕ) → KeepsCallers v w → department_of v who ≡ Some dept → department_of w who ≡ Some dept
still v w who dept keep is = by_caller (caller_of v who) refl
  where
    by_caller : (o : Option Caller) → caller_of v who ≡ o → department_of w who ≡ Some dept
    by_caller None e =
        let none : department_of v who ≡ None = ap (λ (o : Option Caller). option_and_then (λ (d : Caller). d.dept) o) e in
        absurd (cc (sym none ∙ is))
    by_caller (Some c) e =
        let kept = keep who c e in
        department_is w who (record c { closed = kept.closed }) kept.there ∙ (sym (department_is v who c e) ∙ is)

some_still : (v w : Vault) (who : List ℕ) (o : Option (List ℕ)) → department_of v who ≡ o → is_some o ≡ true → KeepsCallers v w → is_some (department_of w who) ≡ true
some_still v w who None e some keep = absurd (cc some)
some_still v w who (Some dept) e some keep =
    let P : Option (List ℕ) → Type 0 = λ d. is_some d ≡ true in subst P (sym (still v w who dept keep e)) refl

department_stays : (v w : Vault) (marker : Bool) (by : Author) (ts : List Tenure) → KeepsCallers v w → IsOfDepartment v marker by ts → IsOfDepartment w marker by ts
department_stays v w false (author.Caller name) [] keep is = absurd is
department_stays v w false (author.Caller name) (t ∷ ts) keep is = still v w name t.dept keep is
department_stays v w false (author.Rule rule) ts keep is = absurd is
department_stays v w true (author.Caller name) ts keep is = some_still v w name (department_of v name) refl is keep
department_stays v w true (author.Rule rule) ts keep is = tt

pub on : (v w : Vault) (h : History) → KeepsCallers v w → IsAdmittedSo v h → IsAdmittedSo w h
on v w h keep is = record { end = is.end; department = department_stays v w h.entry.marker h.entry.by h.tenures keep is.department }

all_on : (v w : Vault) (hs : List History) → KeepsCallers v w → AllByRecursion (IsAdmittedSo v) hs → AllByRecursion (IsAdmittedSo w) hs
all_on v w hs keep all = All-weaker (IsAdmittedSo v) (IsAdmittedSo w) (λ h is. on v w h keep is) hs all

-- ---- the changes of one history

mapped : (v w : Vault) (f : History → History) → ((h : History) → IsAdmittedSo v h → IsAdmittedSo v (f h)) → KeepsCallers v w → (hs : List History) → AllByRecursion (IsAdmittedSo v) hs → AllByRecursion (IsAdmittedSo w) (map f hs)
mapped v w f one keep [] all = tt
mapped v w f one keep (h ∷ hs) all = (on v w (f h) keep (one h all.0), mapped v w f one keep hs all.1)

end-push : (marker : Bool) (admitted : ℕ) (ss : List Setting) (s : Setting) → HasEnd marker admitted ss → HasEnd marker admitted (ss ++ s ∷ [])
end-push true admitted ss s end = tt
end-push false admitted [] s end = absurd end
end-push false admitted (r ∷ rs) s end = end

department-push : (v : Vault) (marker : Bool) (by : Author) (ts : List Tenure) (t : Tenure) → IsOfDepartment v marker by ts → IsOfDepartment v marker by (ts ++ t ∷ [])
department-push v false (author.Caller name) [] t is = absurd is
department-push v false (author.Caller name) (u ∷ us) t is = is
department-push v false (author.Rule rule) ts t is = absurd is
department-push v true (author.Caller name) ts t is = is
department-push v true (author.Rule rule) ts t is = tt

pub one_set : (v : Vault) (id : ℕ) (s : Setting) (h : History) → IsAdmittedSo v h → IsAdmittedSo v (with_setting id s h)
one_set v id s h is =
    elim (eqb h.entry.id id) as (λ b. IsAdmittedSo v (if b then record h { settings = h.settings ++ s ∷ [] } else h)) [
      | true ↦ record { end = end-push h.entry.marker h.entry.admitted h.settings s is.end; department = is.department }
      | false ↦ is
    ]

pub one_moved : (v : Vault) (bucket : List ℕ) (t : Tenure) (h : History) → IsAdmittedSo v h → IsAdmittedSo v (tenured_if bucket t h)
one_moved v bucket t h is =
    elim (is_held_version_in bucket h.entry) as (λ b. IsAdmittedSo v (if b then tenured_by t h else h)) [
      | true ↦ record { end = is.end; department = department-push v h.entry.marker h.entry.by h.tenures t is.department }
      | false ↦ is
    ]

pub one_removed : (v : Vault) (id : ℕ) (r : Removal) (h : History) → IsAdmittedSo v h → IsAdmittedSo v (removed_if id r h)
one_removed v id r h is =
    elim (eqb h.entry.id id) as (λ b. IsAdmittedSo v (if b then removed_by r h else h)) [
      | true ↦ record { end = is.end; department = is.department }
      | false ↦ is
    ]

-- ---- the changes of a vault

-- what is admitted is admitted so
abbrev Gives : Vault → Change → Type 0
Gives v (change.Admit a) = IsAdmittedSo v a.history
Gives v _ = Unit {0}

goes : (v : Vault) (t : ℕ) (c : Change) → Gives v c → Goes v (changed v t c)
goes v t (change.AddDept name) gives = λ keep all. all_on v (changed v t (change.AddDept name)) v.histories keep all
goes v t (change.AddCaller c) gives = λ keep all. all_on v (changed v t (change.AddCaller c)) v.histories keep all
goes v t (change.CloseCaller name) gives = λ keep all. all_on v (changed v t (change.CloseCaller name)) v.histories keep all
goes v t (change.AddBucket name dept) gives = λ keep all. all_on v (changed v t (change.AddBucket name dept)) v.histories keep all
goes v t (change.MoveBucket name dept) gives = λ keep all.
    mapped v (changed v t (change.MoveBucket name dept)) (tenured_if name (next_tenure v t dept)) (λ h is. one_moved v name (next_tenure v t dept) h is) keep v.histories all
goes v t (change.SetDefault name default) gives = λ keep all. all_on v (changed v t (change.SetDefault name default)) v.histories keep all
goes v t (change.SetRules name rules) gives = λ keep all. all_on v (changed v t (change.SetRules name rules)) v.histories keep all
goes v t (change.Admit a) gives = λ keep all.
    let w = changed v t (change.Admit a) in
    All-push (IsAdmittedSo w) v.histories a.history (all_on v w v.histories keep all) (on v w a.history keep gives)
goes v t (change.AddSetting id s) gives = λ keep all.
    mapped v (changed v t (change.AddSetting id s)) (with_setting id s) (λ h is. one_set v id s h is) keep v.histories all
goes v t (change.Remove id r) gives = λ keep all.
    mapped v (changed v t (change.Remove id r)) (removed_if id r) (λ h is. one_removed v id r h is) keep v.histories all

-- ---- what the checks of an admission find

-- a caller of the bucket's department
record IsAt (v : Vault) (who name : List ℕ) (a : Access) : Type 0 where
  own : department_of v who ≡ Some a.bucket.dept
  bucket : config_of v name ≡ Some a.bucket

its_department : (own : Option (List ℕ)) (dept : List ℕ) → is_own own dept ≡ true → own ≡ Some dept
its_department None dept is = absurd (cc is)
its_department (Some own) dept is = ap (λ (d : List ℕ). Some d) ((bytes_eq-Decides own dept).0 is)

-- one check after another, where nothing of the first is needed
passed : {A B : Type 0} (r : Result A Refusal) (f : A → Result B Refusal) (P : B → Type 0) → ((x : A) → IfOk (f x) P) → IfOk (r >>= f) P
passed (Ok x) f P rest = rest x
passed (Err e) f P rest = tt

access-own : (v : Vault) (t : ℕ) (who bucket : List ℕ) (r : Right) → IfOk (access v t who bucket r) (IsAt v who bucket)
access-own v t who bucket r =
    bind_if (asking v t who) (IsAsking v t who) _ _ (asking-is v t who)
    (λ c asked. bind_if (found (config_of v bucket) NoSuchBucket) (λ b. config_of v bucket ≡ Some b) _ _ (found-is (config_of v bucket) NoSuchBucket)
    (λ b there. bind_if (check (is_own c.dept b.dept) (AccessDenied reason.Department)) (λ u. is_own c.dept b.dept ≡ true) _ _ (check-is (is_own c.dept b.dept) (AccessDenied reason.Department))
    (λ u own. passed (needs c r) _ _ (λ w. record { own = department_is v who c asked.caller ∙ its_department c.dept b.dept own; bucket = there }))))

access_to_put-own : (v : Vault) (t : ℕ) (who : List ℕ) (c : Put) → IfOk (entries.access_to_put v t who c) (IsAt v who c.bucket)
access_to_put-own v t who c =
    bind_if (access v t who c.bucket right.Put) (IsAt v who c.bucket) _ _ (access-own v t who c.bucket right.Put)
    (λ a at. passed (needs_if (is_some c.retention) a.caller right.Retain) _ _
    (λ u. passed (needs_if (is_some c.hold) a.caller right.Hold) _ _ (λ w. at)))

-- a bucket that is there has no default, or one whose period is in its range
if_in : (name : List ℕ) (b : Bucket) (more : Option Bucket) (x : Bool) (config : BucketConfig) → HasPeriod b → (option_map (λ (c : Bucket). c.config) more ≡ Some config → has_period config.default ≡ true) → option_map (λ (c : Bucket). c.config) (if x then Some b else more) ≡ Some config → has_period config.default ≡ true
if_in name b more true config has later is =
    let same : b.config ≡ config = cc is in
    let P : BucketConfig → Type 0 = λ c. has_period c.default ≡ true in subst P same has
if_in name b more false config has later is = later is

period_in : (bs : List Bucket) (name : List ℕ) (config : BucketConfig) → AllByRecursion HasPeriod bs → config_in bs name ≡ Some config → has_period config.default ≡ true
period_in [] name config all is = absurd (cc is)
period_in (b ∷ bs) name config all is =
    if_in name b (find (λ (c : Bucket). bytes_eq c.name name) bs) (bytes_eq b.name name) config all.0 (λ more. period_in bs name config all.1 more) is

abbrev LockEnds : ℕ → Lock → Type 0
LockEnds t lock = EndsAfter t lock.retention

default_in : (d : Default) (hold : Bool) (t : ℕ) (b : Bool) → is_moment (end_of d.period t) ≡ b → has_period (Some d) ≡ true → IfOk (found (option_map (λ (r : Retention). record { retention = Some r; hold = hold }) (if b then Some (record { mode = d.mode; until = end_of d.period t }) else None)) RetentionOutOfRange) (LockEnds t)
default_in d hold t true e has = period_ends d.period t has e
default_in d hold t false e has = tt

first_lock-ends : (d : Option Default) (r : Option Retention) (hold : Bool) (t : ℕ) → has_period d ≡ true → EndsAfter t r → IfOk (found (first_lock d r hold t) RetentionOutOfRange) (LockEnds t)
first_lock-ends d (Some r) hold t has later = later
first_lock-ends None None hold t has later = tt
first_lock-ends (Some d) None hold t has later = default_in d hold t (is_moment (end_of d.period t)) refl has

given-ends : (t : ℕ) (r : Option Retention) → IfOk (ends_later_if_given t r) (λ u. EndsAfter t r)
given-ends t None = tt
given-ends t (Some r) = if_later (nat_lt t r.until) refl
  where
    if_later : (b : Bool) → nat_lt t r.until ≡ b → IfOk (check b InvalidArgument) (λ u. t < r.until)
    if_later true e = ltb-true t r.until e
    if_later false e = tt

lock_to_admit-ends : (v : Vault) (t : ℕ) (c : Put) (a : Access) → has_period a.bucket.default ≡ true → IfOk (entries.lock_to_admit v t c a) (LockEnds t)
lock_to_admit-ends v t c a has =
    passed (has_place v c.content) _ _
    (λ x. passed (small_enough c.content) _ _
    (λ u. bind_if (ends_later_if_given t c.retention) (λ w. EndsAfter t c.retention) _ _ (given-ends t c.retention)
    (λ w later. bind_if (lock_at_admission a.bucket c.retention c.hold t) (LockEnds t) _ _ (first_lock-ends a.bucket.default c.retention (unwrap_or c.hold false) t has later)
    (λ lock ends. passed (within_quota v a.bucket.dept (size c.content)) _ _ (λ z. ends)))))

-- ---- the commands that admit

-- so it is of what a command leaves
abbrev IsGoing : Vault → Result (Answer × Vault) Refusal → Type 0
IsGoing v judged = IfOk judged (λ p. Goes v p.1)

stays : (v : Vault) → Goes v v
stays v = λ keep all. all

admits : (v : Vault) (t : ℕ) (who : List ℕ) (c : Put) (a : Access) (lock : Lock) (id : ℕ) (note : Option Note) → IsAt v who c.bucket a → LockEnds t lock → Goes v (changed v t (change.Admit (record { history = entries.new_version id t who a.bucket.dept c lock; note = note })))
admits v t who c a lock id note at ends =
    goes v t (change.Admit (record { history = entries.new_version id t who a.bucket.dept c lock; note = note })) (record { end = ends; department = at.own })

default_of : (v : Vault) (who name : List ℕ) (a : Access) → Sound v → IsAt v who name a → has_period a.bucket.default ≡ true
default_of v who name a sound at = period_in v.buckets name a.bucket sound.periods at.bucket

put-goes : (v : Vault) (t : ℕ) (who : List ℕ) (c : Put) → Sound v → IsGoing v (entries.put v t who c)
put-goes v t who c sound =
    bind_if (entries.access_to_put v t who c) (IsAt v who c.bucket) _ _ (access_to_put-own v t who c)
    (λ a at. bind_if (entries.admission v t who c a) (λ h. Goes v (changed v t (change.Admit (record { history = h; note = None })))) _ _
    (bind_if (entries.lock_to_admit v t c a) (LockEnds t) _ _ (lock_to_admit-ends v t c a (default_of v who c.bucket a sound at))
    (λ lock ends. passed (free_id v) _ _ (λ id. admits v t who c a lock id None at ends)))
    (λ h is. is))

take_in-goes : (v : Vault) (t : ℕ) (who : List ℕ) (c : Intake) (a : Access) → Sound v → IsAt v who c.put.bucket a → IsGoing v (intakes.take_in v t who c a)
take_in-goes v t who c a sound at =
    bind_if (intakes.lock_to_take_in v t c a) (LockEnds t) _ _
    (passed (check (intakes.is_line c.line) InvalidArgument) _ _ (λ u. lock_to_admit-ends v t c.put a (default_of v who c.put.bucket a sound at)))
    (λ lock ends. passed (free_id v) _ _ (λ id. admits v t who c.put a lock id (Some (intakes.new_note id c)) at ends))

intake_by-goes : (v : Vault) (t : ℕ) (who : List ℕ) (c : Intake) (a : Access) (note : Option Note) → Sound v → IsAt v who c.put.bucket a → IsGoing v (intakes.intake_by v t who c a note)
intake_by-goes v t who c a None sound at = take_in-goes v t who c a sound at
intake_by-goes v t who c a (Some n) sound at = passed (intakes.taken_before c.put n) _ _ (λ taken. stays v)

intake-goes : (v : Vault) (t : ℕ) (who : List ℕ) (c : Intake) → Sound v → IsGoing v (intakes.intake v t who c)
intake-goes v t who c sound =
    bind_if (entries.access_to_put v t who c.put) (IsAt v who c.put.bucket) _ _ (access_to_put-own v t who c.put)
    (λ a at. intake_by-goes v t who c a (note_of v c.put.bucket c.batch c.line) sound at)

-- a caller of some department
has_one : (o : Option (List ℕ)) (dept : List ℕ) → o ≡ Some dept → is_some o ≡ true
has_one o dept is = let P : Option (List ℕ) → Type 0 = λ d. is_some d ≡ true in subst P (sym is) refl

delete-goes : (v : Vault) (t : ℕ) (who : List ℕ) (c : Delete) → IsGoing v (entries.delete v t who c)
delete-goes v t who c =
    bind_if (entries.marker_id v t who c) (λ id. is_some (department_of v who) ≡ true) _ _
    (bind_if (access v t who c.bucket right.Delete) (IsAt v who c.bucket) _ _ (access-own v t who c.bucket right.Delete)
    (λ a at. if_free (nat_le (next_id v) most_ids) (has_one (department_of v who) a.bucket.dept at.own)))
    (λ id own. goes v t (change.Admit (record { history = entries.new_marker id c.bucket c.key t (author.Caller who); note = None })) (record { end = tt; department = own }))
  where
    if_free : (b : Bool) → is_some (department_of v who) ≡ true → IfOk (if b then Ok (next_id v) else Err VaultFull) (λ id. is_some (department_of v who) ≡ true)
    if_free true own = own
    if_free false own = tt

-- ---- a run

-- where the callers are the same, they are kept
keeps_same : (v w : Vault) → w.callers ≡ v.callers → KeepsCallers v w
keeps_same v w same = λ n c there. record { closed = c.closed; there = ap (λ (cs : List Caller). find (λ d. bytes_eq d.name n) cs) same ∙ there; for_good = λ e. e }

goes_step : (v : Vault) (bucket : List ℕ) (t : ℕ) (key : List ℕ) (s : Step) → AreAdmittedSo v → AreAdmittedSo (changed v t (change_at v bucket t key s))
goes_step v bucket t key (Mark r) all = goes v t (change_at v bucket t key (Mark r)) (record { end = tt; department = tt }) (keeps_same v _ refl) all
goes_step v bucket t key (Remove id r) all = goes v t (change_at v bucket t key (Remove id r)) tt (keeps_same v _ refl) all
goes_step v bucket t key (RemoveLone id r) all = goes v t (change_at v bucket t key (RemoveLone id r)) tt (keeps_same v _ refl) all

goes_steps : (v : Vault) (bucket : List ℕ) (t : ℕ) (ps : List Planned) → AreAdmittedSo v → AreAdmittedSo (after_steps v bucket t ps)
goes_steps v bucket t [] all = all
goes_steps v bucket t (p ∷ ps) all = goes_steps (changed v t (change_of v bucket t p)) bucket t ps (goes_step v bucket t p.key p.step all)

left_by : (v w : Vault) (bucket : List ℕ) (t : ℕ) (ps : List Planned) → w ≡ after_steps v bucket t ps → AreAdmittedSo v → AreAdmittedSo w
left_by v w bucket t ps is all = let P : Vault → Type 0 = λ u. AreAdmittedSo u in subst P (sym is) (goes_steps v bucket t ps all)

unchanged : (v w : Vault) → w ≡ v → AreAdmittedSo v → AreAdmittedSo w
unchanged v w is all = let P : Vault → Type 0 = λ u. AreAdmittedSo u in subst P (sym is) all

by_fault : (judged : Result (List Planned) Refusal) (n : ℕ) (v w : Vault) (bucket : List ℕ) (t : ℕ) → StopsByFault judged n v bucket t w → AreAdmittedSo v → AreAdmittedSo w
by_fault judged n v w bucket t (inl none) all = unchanged v w none.1 all
by_fault judged n v w bucket t (inr some) all = left_by v w bucket t (take n some.0) some.2.1 all

run-goes : (judged : Result (List Planned) Refusal) (v w : Vault) (bucket : List ℕ) (t : ℕ) (r : Reply) → AnswersRun judged v bucket t r w → AreAdmittedSo v → AreAdmittedSo w
run-goes judged v w bucket t (Done a) run all = left_by v w bucket t run.0 run.4 all
run-goes judged v w bucket t (Refused r) run all = unchanged v w run.0 all
run-goes judged v w bucket t (Stopped n stop.Memory) run all = by_fault judged n v w bucket t run all
run-goes judged v w bucket t (Stopped n stop.Device) run all = by_fault judged n v w bucket t run all
run-goes judged v w bucket t (Stopped n stop.VaultFull) run all = left_by v w bucket t (take n run.0) run.4 all

-- ---- the commands that admit nothing

add_dept-goes : (v : Vault) (t : ℕ) (who : List ℕ) (c : AddDept) → IsGoing v (records.add_dept v t who c)
add_dept-goes v t who c =
    passed (administrator v t who) _ _ (λ a. passed (check (not (has_department v c.dept)) NameTaken) _ _ (λ u. goes v t (change.AddDept c.dept) tt))

add_caller-goes : (v : Vault) (t : ℕ) (who : List ℕ) (c : AddCaller) → IsGoing v (records.add_caller v t who c)
add_caller-goes v t who c =
    passed (administrator v t who) _ _ (λ a. passed (known_department_if_given v c.dept) _ _
    (λ u. passed (check (not (is_some (caller_of v c.caller))) NameTaken) _ _ (λ w. goes v t (change.AddCaller (records.new_caller c)) tt)))

close_caller-goes : (v : Vault) (t : ℕ) (who : List ℕ) (c : CloseCaller) → IsGoing v (records.close_caller v t who c)
close_caller-goes v t who c =
    passed (administrator v t who) _ _ (λ a. passed (check (records.is_open (caller_of v c.caller)) InvalidArgument) _ _ (λ u. goes v t (change.CloseCaller c.caller) tt))

add_bucket-goes : (v : Vault) (t : ℕ) (who : List ℕ) (c : AddBucket) → IsGoing v (records.add_bucket v t who c)
add_bucket-goes v t who c =
    passed (administrator v t who) _ _ (λ a. passed (known_department v c.dept) _ _
    (λ u. passed (check (not (is_some (config_of v c.bucket))) BucketAlreadyExists) _ _ (λ w. goes v t (change.AddBucket c.bucket c.dept) tt)))

move_bucket-goes : (v : Vault) (t : ℕ) (who : List ℕ) (c : MoveBucket) → IsGoing v (records.move_bucket v t who c)
move_bucket-goes v t who c =
    passed (records.bucket_to_move v t who c) _ _ (λ b. passed (other_department v b c.dept) _ _
    (λ u. passed (within_quota v c.dept (bucket_bytes v c.bucket)) _ _ (λ w. passed (free_move v) _ _ (λ x. goes v t (change.MoveBucket c.bucket c.dept) tt))))

set_default-goes : (v : Vault) (t : ℕ) (who : List ℕ) (c : SetDefault) → IsGoing v (records.set_default v t who c)
set_default-goes v t who c =
    passed (access v t who c.bucket right.Config) _ _ (λ a. passed (allowed_default c.default) _ _ (λ u. goes v t (change.SetDefault c.bucket c.default) tt))

get_default-goes : (v : Vault) (t : ℕ) (who : List ℕ) (c : GetDefault) → IsGoing v (records.get_default v t who c)
get_default-goes v t who c = passed (access v t who c.bucket right.Config) _ _ (λ a. stays v)

set_rules-goes : (v : Vault) (t : ℕ) (who : List ℕ) (c : SetRules) → IsGoing v (records.set_rules v t who c)
set_rules-goes v t who c = passed (access v t who c.bucket right.Config) _ _ (λ a. goes v t (change.SetRules c.bucket (Some c.rules)) tt)

get_rules-goes : (v : Vault) (t : ℕ) (who : List ℕ) (c : GetRules) → IsGoing v (records.get_rules v t who c)
get_rules-goes v t who c =
    passed (access v t who c.bucket right.Config) _ _ (λ a. passed (found (rules_of v c.bucket) NoSuchLifecycleConfiguration) _ _ (λ rules. stays v))

drop_rules-goes : (v : Vault) (t : ℕ) (who : List ℕ) (c : DropRules) → IsGoing v (records.drop_rules v t who c)
drop_rules-goes v t who c = passed (access v t who c.bucket right.Config) _ _ (λ a. goes v t (change.SetRules c.bucket None) tt)

report-goes : (v : Vault) (t : ℕ) (who : List ℕ) (c : Report) → IsGoing v (records.report v t who c)
report-goes v t who c =
    passed (asking v t who) _ _ (λ a. passed (may_report a c.dept) _ _ (λ u. passed (known_department v c.dept) _ _ (λ w. stays v)))

get-goes : (v : Vault) (t : ℕ) (who : List ℕ) (c : Get) → IsGoing v (entries.get v t who c)
get-goes v t who c = passed (access v t who c.bucket right.Get) _ _ (λ a. passed (version_meant v c.bucket c.key c.id) _ _ (λ e. stays v))

head-goes : (v : Vault) (t : ℕ) (who : List ℕ) (c : Head) → IsGoing v (entries.head v t who c)
head-goes v t who c = passed (access v t who c.bucket right.Get) _ _ (λ a. passed (version_meant v c.bucket c.key c.id) _ _ (λ e. stays v))

list_versions-goes : (v : Vault) (t : ℕ) (who : List ℕ) (c : ListVersions) → IsGoing v (listings.list_versions v t who c)
list_versions-goes v t who c =
    passed (access v t who c.bucket right.List) _ _ (λ a. passed (check (listings.is_page_size c.most) InvalidArgument) _ _ (λ u. stays v))

certificate-goes : (v : Vault) (t : ℕ) (who : List ℕ) (c : Certificate) → IsGoing v (listings.certificate v t who c)
certificate-goes v t who c =
    passed (access v t who c.bucket right.Report) _ _ (λ a. passed (listings.entry_in c.bucket (entry_of v c.id)) _ _
    (λ e. passed (check (listings.is_certifiable e) MethodNotAllowed) _ _ (λ u. stays v)))

delete_version-goes : (v : Vault) (t : ℕ) (who : List ℕ) (c : DeleteVersion) → IsGoing v (entries.delete_version v t who c)
delete_version-goes v t who c =
    passed (access v t who c.bucket right.DeleteVersion) _ _ (λ a. passed (entries.removal_permitted v t c a) _ _
    (λ r. goes v t (change.Remove c.id (entries.removal_by t who r.permit)) tt))

set_retention-goes : (v : Vault) (t : ℕ) (who : List ℕ) (c : SetRetention) → IsGoing v (locks.set_retention v t who c)
set_retention-goes v t who c =
    passed (access v t who c.bucket right.Retain) _ _ (λ a. passed (locks.next_retention v t who c a) _ _ (λ n. goes v t (change.AddSetting n.id n.setting) tt))

get_retention-goes : (v : Vault) (t : ℕ) (who : List ℕ) (c : GetRetention) → IsGoing v (locks.get_retention v t who c)
get_retention-goes v t who c = passed (access v t who c.bucket right.Get) _ _ (λ a. passed (version_meant v c.bucket c.key c.id) _ _ (λ e. stays v))

set_hold-goes : (v : Vault) (t : ℕ) (who : List ℕ) (c : SetHold) → IsGoing v (locks.set_hold v t who c)
set_hold-goes v t who c =
    passed (access v t who c.bucket right.Hold) _ _ (λ a. passed (locks.next_hold v t who c) _ _ (λ n. goes v t (change.AddSetting n.id n.setting) tt))

get_hold-goes : (v : Vault) (t : ℕ) (who : List ℕ) (c : GetHold) → IsGoing v (locks.get_hold v t who c)
get_hold-goes v t who c = passed (access v t who c.bucket right.Get) _ _ (λ a. passed (version_meant v c.bucket c.key c.id) _ _ (λ e. stays v))

-- ---- a step

answers-go : (judged : Result (Answer × Vault) Refusal) (v w : Vault) (r : Reply) → IsGoing v judged → Answers judged v r w → KeepsCallers v w → AreAdmittedSo v → AreAdmittedSo w
answers-go judged v w (Done a) going answers keep all =
    let P : Result (Answer × Vault) Refusal → Type 0 = λ j. IsGoing v j in subst P answers going keep all
answers-go judged v w (Refused r) going answers keep all = unchanged v w answers.0 all
answers-go judged v w (Stopped n s) going answers keep all = absurd answers

step-goes : (v w : Vault) (t : ℕ) (who : List ℕ) (c : Command) (r : Reply) → Sound v → IsStep v t who c r w → KeepsCallers v w → AreAdmittedSo v → AreAdmittedSo w
step-goes v w t who (command.AddDept c) r sound step = answers-go _ v w r (add_dept-goes v t who c) step
step-goes v w t who (command.AddCaller c) r sound step = answers-go _ v w r (add_caller-goes v t who c) step
step-goes v w t who (command.CloseCaller c) r sound step = answers-go _ v w r (close_caller-goes v t who c) step
step-goes v w t who (command.AddBucket c) r sound step = answers-go _ v w r (add_bucket-goes v t who c) step
step-goes v w t who (command.MoveBucket c) r sound step = answers-go _ v w r (move_bucket-goes v t who c) step
step-goes v w t who (command.SetDefault c) r sound step = answers-go _ v w r (set_default-goes v t who c) step
step-goes v w t who (command.GetDefault c) r sound step = answers-go _ v w r (get_default-goes v t who c) step
step-goes v w t who (command.SetRules c) r sound step = answers-go _ v w r (set_rules-goes v t who c) step.1
step-goes v w t who (command.GetRules c) r sound step = answers-go _ v w r (get_rules-goes v t who c) step
step-goes v w t who (command.DropRules c) r sound step = answers-go _ v w r (drop_rules-goes v t who c) step
step-goes v w t who (command.Put c) r sound step = answers-go _ v w r (put-goes v t who c sound) step
step-goes v w t who (command.Get c) r sound step = answers-go _ v w r (get-goes v t who c) step
step-goes v w t who (command.Head c) r sound step = answers-go _ v w r (head-goes v t who c) step
step-goes v w t who (command.ListVersions c) r sound step = answers-go _ v w r (list_versions-goes v t who c) step
step-goes v w t who (command.Delete c) r sound step = answers-go _ v w r (delete-goes v t who c) step
step-goes v w t who (command.DeleteVersion c) r sound step = answers-go _ v w r (delete_version-goes v t who c) step
step-goes v w t who (command.SetRetention c) r sound step = answers-go _ v w r (set_retention-goes v t who c) step
step-goes v w t who (command.GetRetention c) r sound step = answers-go _ v w r (get_retention-goes v t who c) step
step-goes v w t who (command.SetHold c) r sound step = answers-go _ v w r (set_hold-goes v t who c) step
step-goes v w t who (command.GetHold c) r sound step = answers-go _ v w r (get_hold-goes v t who c) step
step-goes v w t who (command.Run c) r sound step = λ keep all. run-goes (planned_run v t who c) v w c.bucket t r step all
step-goes v w t who (command.Report c) r sound step = answers-go _ v w r (report-goes v t who c) step
step-goes v w t who (command.Certificate c) r sound step = answers-go _ v w r (certificate-goes v t who c) step
step-goes v w t who (command.Intake c) r sound step = answers-go _ v w r (intake-goes v t who c sound) step

-- ---- a run of steps

steps-go : (v w : Vault) (cs : List Timed) (rs : List Reply) → IsRun v cs rs w → Sound v → AreAdmittedSo v → AreAdmittedSo w
steps-go v w [] [] run sound all = unchanged v w run all
steps-go v w [] (r ∷ rs) run sound all = absurd run
steps-go v w (c ∷ cs) [] run sound all = absurd run
steps-go v w (c ∷ cs) (r ∷ rs) run sound all =
    let one : IsRun v (c ∷ []) (r ∷ []) run.0 = (run.0, run.1, refl) in
    steps-go run.0 w cs rs run.2 (run-Sound v run.0 (c ∷ []) (r ∷ []) sound one)
    (step-goes v run.0 c.at c.who c.command r sound run.1 (run-callers v run.0 (c ∷ []) (r ∷ []) sound one) all)

pub reached-admitted : (v : Vault) → Reached v → AllByRecursion (IsAdmittedSo v) v.histories
reached-admitted v reached = steps-go (opening_of v.external) v reached.0 reached.1 reached.2 (Sound-opening v.external) tt
