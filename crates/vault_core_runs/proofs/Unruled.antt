-- A run makes nothing of a key that no enabled rule's prefix begins, nor of one that has no entry.
use Rattle.std.proofs.Common.{◌≡◌, ℕ, ◌+◌, ◌++◌, ◌&&◌, ◌||◌, ◌==◌, Bool, true, false, List, [], ◌∷◌, length, Option, Some, None, cond, refl, sym, ap, subst, ◌∙◌}
use Rattle.std.specs.Prelude.{filter_map, not, option_map, position}
use Rattle.std.specs.List.{cons_option, position_from}
use Rattle.std.proofs.lemmas.Bool.{or_parts}
use Rattle.std.proofs.lemmas.Iterator.Adapters.{position_from-zero}
use Rattle.vault_rules.specs.declared.plan.Held.{Held}
use Rattle.vault_rules.specs.declared.plan.Step.{Step}
use Rattle.vault_rules.specs.declared.plan.Step.TheVariants.{Mark, Remove, RemoveLone}
use Rattle.vault_rules.specs.declared.rule.Rule.{Rule}
use Rattle.vault_rules.specs.Due.{days_have_passed, due_current, due_marker, due_noncurrent, is_larger, is_smaller, makes_current_due, makes_marker_due, makes_noncurrent_due, noncurrent_has_passed}
use Rattle.vault_rules.specs.KeyPlan.{at_key, is_current_among, kept, key_plan, lone_rule, lone_steps, mark_rule, mark_steps, marked, only_if, rank, removal_rule, removal_steps, since}
use Rattle.vault_core_model.specs.Vault.{Vault}
use Rattle.vault_core_model.specs.Places.{keys_of}
use Rattle.vault_core_model.specs.Reads.{entries_of}
use Rattle.vault_core_model.specs.Plan.{rules_in}
use Rattle.vault_core_run_laws.specs.KeyOrder.{IsIn}
use Rattle.vault_core_run_laws.specs.KeyRuns.{plan_at}
use Rattle.vault_core_run_laws.proofs.Keys.{HasAny, key_held}
use Rattle.vault_core_runs.specs.Ranges.{begins, is_ruled}

-- ---- no rule makes anything due

off : (b l s d : Bool) → b ≡ false → (b && l && s && d) ≡ false
off true l s d e = absurd (cc e)
off false l s d e = refl

nowhere_from : (p : Rule → Bool) (key : List ℕ) (i : ℕ) (rs : List Rule) → ((r : Rule) → begins key r ≡ false → p r ≡ false) → is_ruled rs key ≡ false → position_from p i rs ≡ None
nowhere_from p key i [] never none = refl
nowhere_from p key i (r ∷ rs) never none =
    let parts = or_parts (begins key r) (is_ruled rs key) none in
    ap (λ c. cond c (Some i) (position_from p (i + 1) rs)) (never r parts.0) ∙ nowhere_from p key (i + 1) rs never parts.1

nowhere : (p : Rule → Bool) (key : List ℕ) (rs : List Rule) → ((r : Rule) → begins key r ≡ false → p r ≡ false) → is_ruled rs key ≡ false → position p rs ≡ None
nowhere p key rs never none = position_from-zero p rs ∙ nowhere_from p key 0 rs never none

only_none : (b : Bool) (o : Option ℕ) → o ≡ None → only_if b o ≡ None
only_none true o e = e
only_none false o e = refl

no_step : (f : Held → Option Step) (hs : List Held) → ((x : Held) → f x ≡ None) → filter_map f hs ≡ []
no_step f [] none = refl
no_step f (x ∷ xs) none = ap (λ o. cons_option o (filter_map f xs)) (none x) ∙ no_step f xs none

module _ (rules : List Rule) (key : List ℕ) (t : ℕ) (none : is_ruled rules key ≡ false) where
  no_mark : (hs : List Held) → mark_steps rules key t hs ≡ []
  no_mark hs =
      no_step (λ (x : Held). option_map (λ r. Mark r) (mark_rule rules key t hs x)) hs
      (λ x. ap (option_map (λ r. Mark r))
      (only_none (is_current_among hs x && not x.marker) (due_current rules key x.size x.admitted t)
      (nowhere (makes_current_due key x.size x.admitted t) key rules
      (λ r e. off (begins key r) (is_larger r.larger x.size) (is_smaller r.smaller x.size) (days_have_passed r.days x.admitted t) e) none)))

  no_removal : (hs : List Held) → removal_steps rules key t hs ≡ []
  no_removal hs =
      no_step (λ (x : Held). option_map (λ r. Remove x.id r) (removal_rule rules key t hs x)) hs
      (λ x. ap (option_map (λ r. Remove x.id r))
      (only_none _ (due_noncurrent rules key x.size (since hs x) (rank hs x) t)
      (nowhere (makes_noncurrent_due key x.size (since hs x) (rank hs x) t) key rules
      (λ r e. off (begins key r) (is_larger r.larger x.size) (is_smaller r.smaller x.size) (noncurrent_has_passed r.noncurrent (since hs x) (rank hs x) t) e) none)))

  no_lone : (hs : List Held) → lone_steps rules key t hs ≡ []
  no_lone hs =
      no_step (λ (x : Held). option_map (λ r. RemoveLone x.id r) (lone_rule rules key t hs x)) hs
      (λ x. ap (option_map (λ r. RemoveLone x.id r))
      (only_none (x.marker && length hs == 1) (due_marker rules key x.size x.admitted t)
      (nowhere (makes_marker_due key x.size x.admitted t) key rules
      (λ r e. off (begins key r) (is_larger r.larger x.size) (is_smaller r.smaller x.size) (r.lone_markers || days_have_passed r.days x.admitted t) e) none)))

  no_plan : (hs : List Held) → key_plan rules key hs t ≡ []
  no_plan hs =
      let hs1 = marked rules key t hs in
      let hs2 = kept rules key t hs1 in
      ap (λ l. l ++ removal_steps rules key t hs1 ++ lone_steps rules key t hs2) (no_mark hs)
      ∙ ap (λ l. l ++ lone_steps rules key t hs2) (no_removal hs1) ∙ no_lone hs2

pub unruled_plan : (v : Vault) (b : List ℕ) (t : ℕ) (key : List ℕ) → is_ruled (rules_in v b) key ≡ false → plan_at v b t key ≡ []
unruled_plan v b t key none = ap (at_key key) (no_plan (rules_in v b) key t none (entries_of v b key))

-- ---- a key that isn't there

pub absent_plan : (v : Vault) (b : List ℕ) (t : ℕ) (key : List ℕ) → (IsIn key (keys_of v b) → ⊥) → plan_at v b t key ≡ []
absent_plan v b t key out = by_entries (entries_of v b key) refl
  where
    by_entries : (es : List Held) → entries_of v b key ≡ es → plan_at v b t key ≡ []
    by_entries [] e = ap (λ es. at_key key (key_plan (rules_in v b) key es t)) e
    by_entries (x ∷ xs) e = absurd (out (key_held v b key (subst HasAny (sym e) tt)))
