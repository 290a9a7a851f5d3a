-- The plan of a vault's bucket is the plans of its keys, one after another.
use Rattle.std.proofs.Common.{◌≡◌, ℕ, ◌++◌, IsTrue, List, [], ◌∷◌, flat_map, Option, Some, None, sym, ap, subst, ◌∙◌, ⊎_elim, append_assoc}
use Rattle.std.proofs.lemmas.List.{map-append}
use Rattle.vault_rules.specs.declared.rule.Rule.{Rule}
use Rattle.vault_rules.specs.declared.plan.Held.{Held}
use Rattle.vault_rules.specs.declared.plan.Step.{Step}
use Rattle.vault_rules.specs.Rules.{are_rules}
use Rattle.vault_rules.specs.KeyPlan.{at_key, mark_steps, removal_steps, lone_steps, kept, key_plan}
use Rattle.vault_rules.specs.Walk.{dues, last_mark, mark_step, marked_by, later_phases}
use Rattle.vault_rules.proofs.KeyRepeat.{rises}
use Rattle.vault_rules.proofs.Sets.{key_plan-walk}
use Rattle.vault_core_model.specs.Vault.{Vault}
use Rattle.vault_core_model.specs.Places.{keys_of}
use Rattle.vault_core_model.specs.Reads.{entries_of}
use Rattle.vault_core_model.specs.Plan.{plan, rules_in, marks_at, removals_at, lone_at, after_marks, after_removals}
use Rattle.vault_core_run_laws.specs.KeyOrder.{IsIn}
use Rattle.vault_core_run_laws.specs.KeyRuns.{plan_at, plans_at}
use Rattle.vault_core_run_laws.proofs.KeyOrder.{is_in_or_out, one_list, apart, away_out, flat_map-in}
use Rattle.vault_core_run_laws.proofs.KeySteps.{marked_with, later_any, fit_any, later-walk}
use Rattle.vault_core_run_laws.proofs.Entries.{AreOrderly, order_entries}
use Rattle.vault_core_run_laws.proofs.AfterSteps.{rules_stay, orderly_after_steps}
use Rattle.vault_core_run_laws.proofs.Keys.{HasAny, keys_rise, held_key, key_held}
use Rattle.vault_core_run_laws.proofs.Phases.{mark_of, marks_are, after_first, away_from_first, after_second}

any_marked : (m t : ℕ) (o : Option ℕ) (hs : List Held) → HasAny hs → HasAny (marked_with m t o hs)
any_marked m t None hs a = a
any_marked m t (Some r) [] a = absurd a
any_marked m t (Some r) (x ∷ xs) a = tt

module _ (v : Vault) (b : List ℕ) (t : ℕ) (ok : IsTrue (are_rules (rules_in v b))) (c : AreOrderly 1 0 t v.histories) where
  abbrev rules : List Rule
  rules = rules_in v b

  abbrev v1 : Vault
  v1 = after_marks v b t

  abbrev v2 : Vault
  v2 = after_removals v1 b t

  in_first : (k : List ℕ) → IsIn k (keys_of v b) → (m : ℕ) × (entries_of v1 b k ≡ marked_with m t (mark_of v b t c k) (entries_of v b k))
  in_first k i = after_first v b t c (keys_of v b) k (apart (keys_of v b) (keys_rise v b)) i

  -- marks make no new key
  same_keys : keys_of v1 b ≡ keys_of v b
  same_keys = one_list (keys_of v1 b) (keys_of v b) (keys_rise v1 b) (keys_rise v b) back onward
    where
      back : (k : List ℕ) → IsIn k (keys_of v1 b) → IsIn k (keys_of v b)
      back k i =
          ⊎_elim (λ (h : IsIn k (keys_of v b)). h)
          (λ (n : IsIn k (keys_of v b) → ⊥). key_held v b k (subst HasAny (away_from_first v b t c (keys_of v b) k (away_out k (keys_of v b) n)) (held_key v1 b k i)))
          (is_in_or_out k (keys_of v b))

      onward : (k : List ℕ) → IsIn k (keys_of v b) → IsIn k (keys_of v1 b)
      onward k i =
          let h = in_first k i in
          key_held v1 b k (subst HasAny (sym h.1) (any_marked h.0 t (mark_of v b t c k) (entries_of v b k) (held_key v b k i)))

  -- ---- the plan

  ordered : AreOrderly 1 0 t v1.histories
  ordered = orderly_after_steps v b t (flat_map (marks_at v b t) (keys_of v b)) c

  first_rules : rules_in v1 b ≡ rules
  first_rules = rules_stay v b t (flat_map (marks_at v b t) (keys_of v b))

  second_rules : rules_in v2 b ≡ rules
  second_rules = rules_stay v1 b t (flat_map (removals_at v1 b t) (keys_of v1 b)) ∙ first_rules

  second : (k : List ℕ) → IsIn k (keys_of v b) → entries_of v2 b k ≡ kept rules k t (entries_of v1 b k)
  second k i =
      after_second v1 b t ordered (keys_of v1 b) k (apart (keys_of v1 b) (keys_rise v1 b)) (subst (IsIn k) (sym same_keys) i)
      ∙ ap (λ rs. kept rs k t (entries_of v1 b k)) first_rules

  steps_of : (k : List ℕ) → IsIn k (keys_of v b) → mark_steps rules k t (entries_of v b k) ++ (removal_steps rules k t (entries_of v1 b k) ++ lone_steps rules k t (entries_of v2 b k)) ≡ key_plan rules k (entries_of v b k) t
  steps_of k i =
      let d = dues rules k t in
      let es = entries_of v b k in
      let es1 = entries_of v1 b k in
      let first = in_first k i in
      let later : removal_steps rules k t es1 ++ lone_steps rules k t (entries_of v2 b k) ≡ later_phases d (marked_by t (last_mark d es) es) =
      ap (λ l. removal_steps rules k t es1 ++ lone_steps rules k t l) (second k i)
      ∙ (later-walk rules k t es1 (order_entries b k 1 0 t v1.histories ordered)
      ∙ (ap (later_phases d) first.1 ∙ later_any d t (fit_any rules k t ok) first.0 es)) in
      ap (λ l. l ++ (removal_steps rules k t es1 ++ lone_steps rules k t (entries_of v2 b k))) (marks_are v b t c k)
      ∙ (ap (λ l. mark_step (last_mark d es) ++ l) later
      ∙ sym (key_plan-walk rules k t es (rises es (order_entries b k 1 0 t v.histories c))))

  joined : (k : List ℕ) (ms rs ls : List Step) → at_key k ms ++ at_key k rs ++ at_key k ls ≡ at_key k (ms ++ (rs ++ ls))
  joined k ms rs ls =
      append_assoc (at_key k ms) (at_key k rs) (at_key k ls)
      ∙ (ap (λ l. at_key k ms ++ l) (sym (map-append (λ s. record { key = k; step = s }) rs ls))
      ∙ sym (map-append (λ s. record { key = k; step = s }) ms (rs ++ ls)))

  one_key : (k : List ℕ) → IsIn k (keys_of v b) → marks_at v b t k ++ removals_at v1 b t k ++ lone_at v2 b t k ≡ plan_at v b t k
  one_key k i =
      ap (λ rs. marks_at v b t k ++ at_key k (removal_steps rs k t (entries_of v1 b k)) ++ lone_at v2 b t k) first_rules
      ∙ (ap (λ rs. marks_at v b t k ++ at_key k (removal_steps rules k t (entries_of v1 b k)) ++ at_key k (lone_steps rs k t (entries_of v2 b k))) second_rules
      ∙ (joined k (mark_steps rules k t (entries_of v b k)) (removal_steps rules k t (entries_of v1 b k)) (lone_steps rules k t (entries_of v2 b k))
      ∙ ap (at_key k) (steps_of k i)))

  pub by_key : plan v b t ≡ plans_at v b t (keys_of v b)
  by_key = flat_map-in (λ k. marks_at v b t k ++ removals_at v1 b t k ++ lone_at v2 b t k) (plan_at v b t) (keys_of v b) one_key
