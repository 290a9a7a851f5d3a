-- The rules that are the causes of a key's steps.
use Rattle.std.proofs.Common.{◌≡◌, ℕ, ◌<◌, ◌++◌, Bool, true, false, List, [], ◌∷◌, length, Option, Some, None, refl, sym, ap, subst, ◌∙◌}
use Rattle.std.specs.Prelude.{filter_map, option_map, position}
use Rattle.std.specs.List.{cons_option, AllByRecursion}
use Rattle.std.proofs.lemmas.List.Quantifiers.{position-Some}
use Rattle.vault_rules.specs.declared.rule.Rule.{Rule}
use Rattle.vault_rules.specs.declared.plan.Held.{Held}
use Rattle.vault_rules.specs.declared.plan.Step.{Step}
use Rattle.vault_rules.specs.declared.plan.Step.TheVariants.{Mark, Remove, RemoveLone}
use Rattle.vault_rules.specs.KeyPlan.{only_if, mark_steps, removal_steps, lone_steps, marked, kept, key_plan}
use Rattle.vault_rules.specs.Due.{makes_current_due, makes_noncurrent_due, makes_marker_due}
use Rattle.vault_core_runs.specs.Making.{place_of, HaveCauses}

-- ---- steps that are found one by one

abbrev Each : {X : Type 0} → (X → Type 0) → Option X → Type 0
Each P None = Unit {0}
Each P (Some x) = P x

All-found : (P : Step → Type 0) (o : Option Step) (l : List Step) → Each P o → AllByRecursion P l → AllByRecursion P (cons_option o l)
All-found P None l e a = a
All-found P (Some s) l e a = (e, a)

All-filter_map : (P : Step → Type 0) (f : Held → Option Step) (xs : List Held) → ((x : Held) → Each P (f x)) → AllByRecursion P (filter_map f xs)
All-filter_map P f [] h = tt
All-filter_map P f (x ∷ xs) h = All-found P (f x) (filter_map f xs) (h x) (All-filter_map P f xs h)

All-append : (P : Step → Type 0) (xs ys : List Step) → AllByRecursion P xs → AllByRecursion P ys → AllByRecursion P (xs ++ ys)
All-append P [] ys a b = b
All-append P (x ∷ xs) ys a b = (a.0, All-append P xs ys a.1 b)

-- ---- a place that is found is one of a rule

within : (p : Rule → Bool) (rules : List Rule) (r : ℕ) → position p rules ≡ Some r → r < length rules
within p [] r e = absurd (cc)
within p (x ∷ xs) r e = (position-Some p (x ∷ xs) r x e).0

module _ (rules : List Rule) (make : ℕ → Step) (same : (r : ℕ) → place_of (make r) ≡ r) (p : Rule → Bool) where
  cause_of : (o : Option ℕ) → position p rules ≡ o → Each (λ s. place_of s < length rules) (option_map make o)
  cause_of None e = tt
  cause_of (Some r) e = subst (λ (k : ℕ). k < length rules) (sym (same r)) (within p rules r e)

  pub cause : (b : Bool) → Each (λ s. place_of s < length rules) (option_map make (only_if b (position p rules)))
  cause true = cause_of (position p rules) refl
  cause false = tt

module _ (rules : List Rule) (key : List ℕ) (t : ℕ) where
  marks_have : (hs : List Held) → HaveCauses rules (mark_steps rules key t hs)
  marks_have hs = All-filter_map _ _ hs (λ x. cause rules (λ r. Mark r) (λ r. refl) (makes_current_due key x.size x.admitted t) _)

  removals_have : (hs : List Held) → HaveCauses rules (removal_steps rules key t hs)
  removals_have hs = All-filter_map _ _ hs (λ x. cause rules (λ r. Remove x.id r) (λ r. refl) (makes_noncurrent_due key x.size _ _ t) _)

  lone_have : (hs : List Held) → HaveCauses rules (lone_steps rules key t hs)
  lone_have hs = All-filter_map _ _ hs (λ x. cause rules (λ r. RemoveLone x.id r) (λ r. refl) (makes_marker_due key x.size x.admitted t) _)

  -- the cause of each step of a plan is one of the rules
  pub plan_has_causes : (hs : List Held) → HaveCauses rules (key_plan rules key hs t)
  plan_has_causes hs =
      let hs1 = marked rules key t hs in
      let P : Step → Type 0 = λ s. place_of s < length rules in
      All-append P (mark_steps rules key t hs ++ removal_steps rules key t hs1) (lone_steps rules key t (kept rules key t hs1))
      (All-append P (mark_steps rules key t hs) (removal_steps rules key t hs1) (marks_have hs) (removals_have hs1))
      (lone_have (kept rules key t hs1))

-- ---- without rules there is no step

nothing : (f : Held → Option Step) (xs : List Held) → ((x : Held) → f x ≡ None) → filter_map f xs ≡ []
nothing f [] h = refl
nothing f (x ∷ xs) h = ap (λ o. cons_option o (filter_map f xs)) (h x) ∙ nothing f xs h

no_cause : (make : ℕ → Step) (b : Bool) → option_map make (only_if b None) ≡ None
no_cause make true = refl
no_cause make false = refl

pub no_rules : (key : List ℕ) (t : ℕ) (hs : List Held) → key_plan [] key hs t ≡ []
no_rules key t hs =
    let hs1 = marked [] key t hs in
    let hs2 = kept [] key t hs1 in
    let m : mark_steps [] key t hs ≡ [] = nothing _ hs (λ x. no_cause (λ r. Mark r) _) in
    let r : removal_steps [] key t hs1 ≡ [] = nothing _ hs1 (λ x. no_cause (λ r. Remove x.id r) _) in
    let l : lone_steps [] key t hs2 ≡ [] = nothing _ hs2 (λ x. no_cause (λ r. RemoveLone x.id r) _) in
    ap (λ z. (z ++ removal_steps [] key t hs1) ++ lone_steps [] key t hs2) m
    ∙ ap (λ z. z ++ lone_steps [] key t hs2) r ∙ l
