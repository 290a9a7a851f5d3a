-- Where a run begins.
use Rattle.std.proofs.Common.{◌≡◌, ℕ, ◌≤◌, ◌++◌, ◌==◌, ◌||◌, Bool, true, false, IsTrue, List, [], ◌∷◌, length, Option, Some, None, Result, Ok, Err, refl, sym, ap, subst, ◌∙◌}
use Rattle.std.specs.Prelude.{IsSome, IfOk, unwrap_or}
use Rattle.vault_base.specs.declared.refusal.Refusal.{Refusal}
use Rattle.vault_base.specs.declared.right.Right.TheVariants as right
use Rattle.vault_rules.specs.declared.rule.Rule.{Rule}
use Rattle.vault_rules.specs.KeyPlan.{Planned, at_key, key_plan}
use Rattle.vault_rules.specs.Rules.{is_rule_set, are_rules}
use Rattle.vault_core_model.specs.declared.access.Access.{Access}
use Rattle.vault_core_model.specs.declared.command.Run.{Run}
use Rattle.vault_core_model.specs.declared.records.BucketConfig.{BucketConfig}
use Rattle.vault_core_model.specs.Vault.{Vault, config_of, rules_of}
use Rattle.vault_core_model.specs.Reads.{entries_of}
use Rattle.vault_core_model.specs.Places.{keys_of}
use Rattle.vault_core_model.specs.Sound.{Sound}
use Rattle.vault_core_model.specs.Checks.{◌>>=◌, access}
use Rattle.vault_core_model.specs.Plan.{plan, rules_in}
use Rattle.vault_core_model.specs.RunOutcome.{planned_run}
use Rattle.vault_core_run_laws.specs.KeyRuns.{MayRun, plan_at, plans_at}
use Rattle.vault_core_run_laws.proofs.RunLaws.{plans_are_key_by_key}
use Rattle.vault_core_runs.proofs.Causes.{no_rules}

-- what holds of an answer, also holds in other words
pub IfOk-weaker : {A E : Type 0} (P Q : A → Type 0) (r : Result A E) → ((x : A) → P x → Q x) → IfOk r P → IfOk r Q
IfOk-weaker P Q (Ok x) f p = f x p
IfOk-weaker P Q (Err e) f p = tt

set_or_none : (rules : List Rule) → IsTrue (is_rule_set rules) → IsTrue (are_rules rules)
set_or_none rules h = cases (length rules == 0)
  where
    cases : (b : Bool) → IsTrue (b || is_rule_set rules)
    cases true = refl
    cases false = h

there_by : (o : Option BucketConfig) (c : BucketConfig) → o ≡ Some c → IsSome o
there_by o c e = subst (λ (p : Option BucketConfig). IsSome p) (sym e) refl

module _ (v : Vault) (b : List ℕ) (t : ℕ) (c : BucketConfig) (sound : Sound v) (in_time : v.last ≤ t) (there : config_of v b ≡ Some c) where
  -- a run over a bucket with rules may begin
  pub MayRun-with : (rules : List Rule) → IsTrue (is_rule_set rules) → rules_of v b ≡ Some rules → MayRun v b t
  MayRun-with rules set e = record {
    sound = sound;
    in_time = in_time;
    there = there_by (config_of v b) c there;
    rules = subst (λ (rs : List Rule). IsTrue (are_rules rs)) (sym (ap (λ o. unwrap_or o []) e)) (set_or_none rules set);
  }

  MayRun-without : rules_of v b ≡ None → MayRun v b t
  MayRun-without e = record {
    sound = sound;
    in_time = in_time;
    there = there_by (config_of v b) c there;
    rules = subst (λ (rs : List Rule). IsTrue (are_rules rs)) (sym (ap (λ o. unwrap_or o []) e)) refl;
  }

  no_plan_at : rules_in v b ≡ [] → (key : List ℕ) → plan_at v b t key ≡ []
  no_plan_at e key = ap (at_key key) (ap (λ rs. key_plan rs key (entries_of v b key) t) e ∙ no_rules key t (entries_of v b key))

  no_plans : rules_in v b ≡ [] → (keys : List (List ℕ)) → plans_at v b t keys ≡ []
  no_plans e [] = refl
  no_plans e (k ∷ ks) = ap (λ l. l ++ plans_at v b t ks) (no_plan_at e k) ∙ no_plans e ks

  -- the plan of a bucket without rules is empty
  pub plan_without : rules_of v b ≡ None → plan v b t ≡ []
  plan_without e = plans_are_key_by_key v b t (MayRun-without e) ∙ no_plans (ap (λ o. unwrap_or o []) e) (keys_of v b)

-- a run is planned where access is given
pub planned : (v : Vault) (t : ℕ) (who : List ℕ) (c : Run) (a : Access) → access v t who c.bucket right.Run ≡ Ok a → planned_run v t who c ≡ Ok (plan v c.bucket t)
planned v t who c a e =
    let next : Access → Result (List Planned) Refusal = λ x. Ok (plan v c.bucket t) in
    ap (λ r. r >>= next) e
