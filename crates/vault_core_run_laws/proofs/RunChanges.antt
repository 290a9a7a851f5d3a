-- Each step of a run of the lifecycle rules is a permitted change.
use Rattle.std.proofs.Common.{◌≡◌, ℕ, zero, suc, ◌+◌, ◌≤◌, Bool, true, false, List, [], ◌∷◌, length, take, Some, Result, Ok, refl, sym, ap, subst, ◌∙◌, inl, inr, arith, IsTrue, take_all}
use Rattle.std.specs.Prelude.{IfOk, nat_lt, if◌then◌else◌}
use Rattle.std.proofs.lemmas.Bool.{ltb-true}
use Rattle.std.proofs.lemmas.List.{length-map, length-append}
use Rattle.vault_base.specs.declared.refusal.Refusal.{Refusal}
use Rattle.vault_base.specs.declared.right.Right.TheVariants as right
use Rattle.vault_base.specs.Limits.{most_ids}
use Rattle.vault_lock.specs.declared.lock.Denial.{Denial}
use Rattle.vault_lock.specs.Lock.{guards}
use Rattle.vault_rules.specs.declared.plan.Step.{Step}
use Rattle.vault_rules.specs.declared.plan.Step.TheVariants.{Mark, Remove, RemoveLone}
use Rattle.vault_rules.specs.Rules.{are_rules}
use Rattle.vault_rules.specs.KeyPlan.{Planned}
use Rattle.vault_core_model.specs.declared.change.Change.{Change}
use Rattle.vault_core_model.specs.declared.change.Change.TheVariants as change
use Rattle.vault_core_model.specs.declared.command.Run.{Run}
use Rattle.vault_core_model.specs.declared.records.Cause.TheVariants as cause
use Rattle.vault_core_model.specs.declared.records.BucketConfig.{BucketConfig}
use Rattle.vault_core_model.specs.declared.reply.Reply.{Reply}
use Rattle.vault_core_model.specs.declared.reply.Reply.TheVariants.{Done, Refused, Stopped}
use Rattle.vault_core_model.specs.declared.reply.Stop.TheVariants as stop
use Rattle.vault_core_model.specs.Vault.{Vault, config_of, next_id, last_lock}
use Rattle.vault_core_model.specs.Change.{changed}
use Rattle.vault_core_model.specs.Allowed.{Allows}
use Rattle.vault_core_model.specs.Checks.{access}
use Rattle.vault_core_model.specs.Sound.{Sound}
use Rattle.vault_core_model.specs.Places.{keys_of}
use Rattle.vault_core_model.specs.Plan.{rules_in, change_at, change_of, after_steps, plan, is_mark, with_ids}
use Rattle.vault_core_model.specs.RunOutcome.{planned_run, AnswersRun, StopsByFault}
use Rattle.vault_core_run_laws.specs.KeyOrder.{IsRising}
use Rattle.vault_core_run_laws.specs.KeyRuns.{MayRun, plans_at}
use Rattle.vault_core_run_laws.specs.RunLaws.{IsFree, RemovesFree}
use Rattle.vault_core_run_laws.proofs.FirstStep.{first_free}
use Rattle.vault_core_run_laws.proofs.Keys.{keys_rise}
use Rattle.vault_core_run_laws.proofs.RunLaws.{plans_are_key_by_key}
use Rattle.vault_core_run_laws.proofs.Steps.{stepped}
use Rattle.vault_core_run_laws.specs.Chains.{MayMake, MayMakeAll}
use Rattle.vault_core_run_laws.proofs.Checked.{some_is, bind_if, HasAccess, access-only}
use Rattle.vault_core_run_laws.proofs.Kept.{lock_of-found}

-- ---- what may be removed

no_guard : (gs : List Denial) → nat_lt 0 (length gs) ≡ false → gs ≡ []
no_guard [] e = refl
no_guard (g ∷ gs) e = absurd (grind (arith, e))

may_remove : (v : Vault) (bucket key : List ℕ) (t id : ℕ) (who rule : List ℕ) → v.last ≤ t → Allows v t (change.Remove id (record { at = t; cause = cause.Rule rule })) → IsFree v bucket key t id → MayMake v t who (change.Remove id (record { at = t; cause = cause.Rule rule }))
may_remove v bucket key t id who rule le allowed free = record {
  in_time = le;
  allowed = allowed;
  permitted = (tt, ap (λ l. guards l t) (lock_of-found v id free.history free.there) ∙ no_guard (guards (last_lock free.history.settings) t) free.unlocked);
  entitled = tt;
}

-- ---- a step

may_step : (v : Vault) (bucket : List ℕ) (t : ℕ) (who key : List ℕ) (s : Step) → v.last ≤ t → Allows v t (change_at v bucket t key s) → RemovesFree v bucket key t s → MayMake v t who (change_at v bucket t key s)
may_step v bucket t who key (Mark r) le allowed free = record { in_time = le; allowed = allowed; permitted = refl; entitled = (tt, tt) }
may_step v bucket t who key (Remove id r) le allowed free = may_remove v bucket key t id who _ le allowed free
may_step v bucket t who key (RemoveLone id r) le allowed free = may_remove v bucket key t id who _ le allowed free

-- ---- the steps

-- the histories after a step
taken_after : ℕ → Step → ℕ
taken_after taken (Mark r) = taken + 1
taken_after taken (Remove id r) = taken
taken_after taken (RemoveLone id r) = taken

length_after : (v : Vault) (bucket : List ℕ) (t : ℕ) (key : List ℕ) (s : Step) → length (changed v t (change_at v bucket t key s)).histories ≡ taken_after (length v.histories) s
unfolding taken_after
length_after v bucket t key (Mark r) = length-append v.histories _
length_after v bucket t key (Remove id r) = length-map v.histories _
length_after v bucket t key (RemoveLone id r) = length-map v.histories _

-- a mark finds an id
abbrev FindsId : Vault → Step → Type 0
FindsId v s = is_mark s ≡ true → next_id v ≤ most_ids

-- the first of n steps with ids finds its own, and so do the others
first_id : (v : Vault) (n : ℕ) (p : Planned) (ps : List Planned) (s : Step) → p.step ≡ s → suc n ≤ length (with_ids (length v.histories) (p ∷ ps)) → FindsId v s × (n ≤ length (with_ids (taken_after (length v.histories) s) ps))
unfolding taken_after
first_id v n p ps (Mark r) e le =
    let P : Step → Type 0 = λ s. suc n ≤ length (if is_mark s then (if nat_lt (length v.histories) most_ids then p ∷ with_ids (length v.histories + 1) ps else []) else p ∷ with_ids (length v.histories) ps) in
    marked (nat_lt (length v.histories) most_ids) refl (subst P e le)
  where
    marked : (b : Bool) → nat_lt (length v.histories) most_ids ≡ b → suc n ≤ length (if b then p ∷ with_ids (length v.histories + 1) ps else []) → FindsId v (Mark r) × (n ≤ length (with_ids (length v.histories + 1) ps))
    marked true f few = (λ _. omega (arith, ltb-true (length v.histories) most_ids f), omega (arith, few))
    marked false f few = absurd (omega (arith, few))
first_id v n p ps (Remove id r) e le =
    let P : Step → Type 0 = λ s. suc n ≤ length (if is_mark s then (if nat_lt (length v.histories) most_ids then p ∷ with_ids (length v.histories + 1) ps else []) else p ∷ with_ids (length v.histories) ps) in
    (λ f. absurd (cc f), omega (arith, subst P e le))
first_id v n p ps (RemoveLone id r) e le =
    let P : Step → Type 0 = λ s. suc n ≤ length (if is_mark s then (if nat_lt (length v.histories) most_ids then p ∷ with_ids (length v.histories + 1) ps else []) else p ∷ with_ids (length v.histories) ps) in
    (λ f. absurd (cc f), omega (arith, subst P e le))

pub makes_first : (bucket : List ℕ) (t : ℕ) (who : List ℕ) (keys : List (List ℕ)) → IsRising keys → (n : ℕ) (v : Vault) (ps : List Planned) → MayRun v bucket t → plans_at v bucket t keys ≡ ps → n ≤ length (with_ids (length v.histories) ps) → (cs : List Change) × MayMakeAll v t who cs (after_steps v bucket t (take n ps))
makes_first bucket t who keys rising zero v ps may plan few = ([], refl)
makes_first bucket t who keys rising (suc n) v [] may plan few = absurd (omega (arith, few))
makes_first bucket t who keys rising (suc n) v (p ∷ ps) may plan few =
    let ids = first_id v n p ps p.step refl few in
    let step = stepped v bucket t keys may rising p ps plan ids.0 in
    let later = makes_first bucket t who keys rising n (changed v t (change_of v bucket t p)) ps step.may step.rest
    (subst (λ m. n ≤ length (with_ids m ps)) (sym (length_after v bucket t p.key p.step)) ids.1) in
    let made = may_step v bucket t who p.key p.step may.in_time step.allowed (first_free v bucket t keys p ps may plan) in
    (change_of v bucket t p ∷ later.0, (made, later.1))

-- ---- a run

-- a run that is asked for in time, at a bucket
pub record IsRunOf (v : Vault) (t : ℕ) (c : Run) (ps : List Planned) : Type 0 where
  pub in_time : v.last ≤ t
  pub config : BucketConfig
  pub placed : config_of v c.bucket ≡ Some config
  pub whole : ps ≡ plan v c.bucket t

planned_run-is : (v : Vault) (t : ℕ) (who : List ℕ) (c : Run) → IfOk (planned_run v t who c) (IsRunOf v t c)
planned_run-is v t who c =
    bind_if (access v t who c.bucket right.Run) (HasAccess v t who c.bucket) _ _ (access-only v t who c.bucket right.Run)
    (λ a at. record { in_time = at.in_time; config = a.bucket; placed = at.bucket; whole = refl })

is_run : (v : Vault) (t : ℕ) (who : List ℕ) (c : Run) (ps : List Planned) → planned_run v t who c ≡ Ok ps → IsRunOf v t c ps
is_run v t who c ps e =
    let P : Result (List Planned) Refusal → Type 0 = λ judged. IfOk judged (IsRunOf v t c) in subst P e (planned_run-is v t who c)

-- any number of permitted changes lead from v to v'
abbrev pub LeadsOn : Vault → ℕ → List ℕ → Vault → Type 0
LeadsOn v t who v' = (cs : List Change) × MayMakeAll v t who cs v'

nothing : (v v' : Vault) (t : ℕ) (who : List ℕ) → v' ≡ v → LeadsOn v t who v'
nothing v v' t who e = ([], e)

first_of_run : (v v' : Vault) (t : ℕ) (who : List ℕ) (c : Run) (n : ℕ) (ps : List Planned) → Sound v → IsTrue (are_rules (rules_in v c.bucket)) → planned_run v t who c ≡ Ok ps → n ≤ length (with_ids (length v.histories) ps) → v' ≡ after_steps v c.bucket t (take n ps) → LeadsOn v t who v'
first_of_run v v' t who c n ps sound ok judged few left =
    let run = is_run v t who c ps judged in
    let P : Vault → Type 0 = λ w. LeadsOn v t who w in
    let may : MayRun v c.bucket t = record { sound = sound; in_time = run.in_time; there = some_is (config_of v c.bucket) run.config run.placed; rules = ok } in
    let plan = sym (plans_are_key_by_key v c.bucket t may) ∙ sym run.whole in
    subst P (sym left) (makes_first c.bucket t who (keys_of v c.bucket) (keys_rise v c.bucket) n v ps may plan few)

by_fault : (v v' : Vault) (t : ℕ) (who : List ℕ) (c : Run) (n : ℕ) → Sound v → IsTrue (are_rules (rules_in v c.bucket)) → StopsByFault (planned_run v t who c) n v c.bucket t v' → LeadsOn v t who v'
by_fault v v' t who c n sound ok (inl none) = nothing v v' t who none.1
by_fault v v' t who c n sound ok (inr some) = first_of_run v v' t who c n some.0 sound ok some.1 some.2.0 some.2.1

pub run-leads : (v v' : Vault) (t : ℕ) (who : List ℕ) (c : Run) (r : Reply) → Sound v → IsTrue (are_rules (rules_in v c.bucket)) → AnswersRun (planned_run v t who c) v c.bucket t r v' → LeadsOn v t who v'
run-leads v v' t who c (Done a) sound ok run =
    let all : after_steps v c.bucket t run.0 ≡ after_steps v c.bucket t (take (length run.0) run.0) = ap (after_steps v c.bucket t) (sym (take_all (length run.0) run.0 (omega arith))) in
    let few : length run.0 ≤ length (with_ids (length v.histories) run.0) = omega (arith, ap length run.3) in
    first_of_run v v' t who c (length run.0) run.0 sound ok run.1 few (run.4 ∙ all)
run-leads v v' t who c (Refused r) sound ok run = nothing v v' t who run.0
run-leads v v' t who c (Stopped n stop.Memory) sound ok run = by_fault v v' t who c n sound ok run
run-leads v v' t who c (Stopped n stop.Device) sound ok run = by_fault v v' t who c n sound ok run
run-leads v v' t who c (Stopped n stop.VaultFull) sound ok run =
    first_of_run v v' t who c n run.0 sound ok run.1 (omega (arith, run.2)) run.4
