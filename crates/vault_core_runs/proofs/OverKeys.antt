-- A run over keys, one after another.
use Rattle.std.proofs.Common.{◌≡◌, ℕ, zero, suc, ◌+◌, ◌<◌, ◌≤◌, ◌++◌, true, IsTrue, List, [], ◌∷◌, length, take, drop, get_or, Result, Ok, Err, refl, sym, ap, subst, ◌∙◌, arith, inl, append-nil, append_assoc}
use Rattle.std.proofs.lemmas.List.{take_more, drop_more, take-append-drop, map-append}
use Rattle.std.proofs.lemmas.List.Concat.{flat_map-append}
use Rattle.vault_base.specs.Limits.{most_ids}
use Rattle.vault_rules.specs.declared.rule.Rule.{Rule}
use Rattle.vault_rules.specs.declared.plan.Held.{Held}
use Rattle.vault_rules.specs.declared.plan.Step.{Step}
use Rattle.vault_rules.specs.declared.plan.Step.TheVariants.{Mark, Remove, RemoveLone}
use Rattle.vault_rules.specs.KeyPlan.{Planned, at_key, ids_rise, key_plan}
use Rattle.vault_core_model.specs.declared.halt.Halt.{Halt}
use Rattle.vault_core_model.specs.declared.reply.Counts.{Counts}
use Rattle.vault_core_model.specs.Vault.{Vault, next_id}
use Rattle.vault_core_model.specs.Reads.{entries_of}
use Rattle.vault_core_model.specs.Allowed.{Allows}
use Rattle.vault_core_model.specs.Plan.{after_steps, change_at, rules_in, is_mark}
use Rattle.vault_core_run_laws.specs.KeyOrder.{IsIn, IsRising}
use Rattle.vault_core_run_laws.specs.KeyRuns.{MayRun, plan_at, plans_at}
use Rattle.vault_core_run_laws.specs.RunLaws.{Leaves}
use Rattle.vault_core_runs.specs.Making.{place_of, HaveCauses, HasId, MayBeMade, MakesAll, MakesUpTo, MakesSteps, only}
use Rattle.vault_core_run_laws.proofs.KeyOrder.{flat_map-in}
use Rattle.vault_core_run_laws.proofs.RunLaws.{entries_rise, key_runs_go_on, key_steps_are_allowed, runs_go_on, other_keys_stay, later_keys_are_others, rising_left}
use Rattle.vault_core_runs.proofs.Making.{MakesAll-then, MakesAll-first, MakesUpTo-more, MakesSteps-then}

-- ---- within one key

split_at : {X : Type 0} (xs : List X) (i : ℕ) (x : X) → i < length xs → x ≡ get_or xs i x → xs ≡ take i xs ++ x ∷ drop (i + 1) xs
split_at xs i x l e =
    sym (take-append-drop i xs) ∙ ap (λ ys. take i xs ++ ys) (drop_more xs i x l)
    ∙ ap (λ y. take i xs ++ y ∷ drop (i + 1) xs) (sym e)

pub has_cause : (rules : List Rule) (steps : List Step) (i : ℕ) (s : Step) → HaveCauses rules steps → i < length steps → s ≡ get_or steps i s → place_of s < length rules
has_cause rules [] i s h l e = absurd (omega arith)
has_cause rules (x ∷ xs) zero s h l e = subst (λ (y : Step). place_of y < length rules) (sym e) h.0
has_cause rules (x ∷ xs) (suc i) s h l e = has_cause rules xs i s h.1 (omega arith) e

has_id : (v : Vault) (s : Step) → HasId v s → is_mark s ≡ true → next_id v ≤ most_ids
has_id v (Mark r) h e = h
has_id v (Remove id r) h e = absurd (cc)
has_id v (RemoveLone id r) h e = absurd (cc)

module _ (v v1 : Vault) (b : List ℕ) (t : ℕ) (key : List ℕ) (rules : List Rule) (steps : List Step) (i : ℕ) (x y : Counts) where
  planned : rules_in v b ≡ rules → steps ≡ key_plan rules key (entries_of v b key) t → key_plan (rules_in v b) key (entries_of v b key) t ≡ steps
  planned g p = ap (λ rs. key_plan rs key (entries_of v b key) t) g ∙ sym p

  -- the next step at the key may be made
  pub next_may : (s : Step) → MayRun v b t → rules_in v b ≡ rules → steps ≡ key_plan rules key (entries_of v b key) t
      → MakesAll v b t (at_key key (take i steps)) x y v1 → i < length steps → s ≡ get_or steps i s → MayBeMade v1 b t key s
  next_may s may g p m l e = λ has.
      let ss = take i steps in
      let w = after_steps v b t (at_key key ss) in
      let has' : HasId w s = subst (λ (u : Vault). HasId u s) m.left has in
      subst (λ (u : Vault). Allows u t (change_at u b t key s)) (sym m.left)
      (key_steps_are_allowed v b t key ss (drop (i + 1) steps) s may (planned g p ∙ split_at steps i s l e) m.ids (has_id w s has'))

  -- and a run may go on
  left_over : MayRun v b t → rules_in v b ≡ rules → steps ≡ key_plan rules key (entries_of v b key) t
      → MakesAll v b t (at_key key (take i steps)) x y v1 → Leaves v b t (key ∷ []) (at_key key (take i steps)) (at_key key (drop i steps)) v1
  left_over may g p m =
      subst (λ (u : Vault). Leaves v b t (key ∷ []) (at_key key (take i steps)) (at_key key (drop i steps)) u) (sym m.left)
      (key_runs_go_on v b t key (take i steps) (drop i steps) may (planned g p ∙ sym (take-append-drop i steps)) m.ids)

  pub still_may : MayRun v b t → rules_in v b ≡ rules → steps ≡ key_plan rules key (entries_of v b key) t
      → MakesAll v b t (at_key key (take i steps)) x y v1 → MayRun v1 b t × (rules_in v1 b ≡ rules)
  still_may may g p m = let l = left_over may g p m in (l.may, l.rules ∙ g)

module _ (v w : Vault) (b : List ℕ) (t : ℕ) (key : List ℕ) (rules : List Rule) (held : List Held) (steps : List Step) where
  -- what is planned over the entries that were read is the plan of the key
  pub planned_as_read : MayRun v b t → w ≡ v → held ≡ entries_of v b key → (IsTrue (ids_rise held) → steps ≡ key_plan rules key held t) → steps ≡ key_plan rules key (entries_of w b key) t
  planned_as_read may same read p =
      let rise : IsTrue (ids_rise held) = subst (λ (l : List Held). IsTrue (ids_rise l)) (sym read) (entries_rise v b key may.sound) in
      p rise ∙ ap (λ l. key_plan rules key l t) read ∙ ap (λ u. key_plan rules key (entries_of u b key) t) (sym same)

  pub made_as_planned : {X : Type 0} (r : Result X Halt) (x y : Counts) (v2 : Vault) → w ≡ v → rules_in v b ≡ rules → steps ≡ key_plan rules key (entries_of w b key) t
      → MakesSteps r w b t (at_key key steps) x y v2 → MakesSteps r v b t (plan_at v b t key) x y v2
  made_as_planned r x y v2 same given p m =
      let q : at_key key steps ≡ plan_at v b t key =
      ap (at_key key) (p ∙ ap (λ u. key_plan rules key (entries_of u b key) t) same ∙ ap (λ rs. key_plan rs key (entries_of v b key) t) (sym given)) in
      subst (λ (u : Vault). MakesSteps r u b t (plan_at v b t key) x y v2) same (subst (λ (ps : List Planned). MakesSteps r w b t ps x y v2) q m)

at_key-more : (key : List ℕ) (steps : List Step) (i : ℕ) (s : Step) → i < length steps → s ≡ get_or steps i s → at_key key (take (i + 1) steps) ≡ at_key key (take i steps) ++ only key s
at_key-more key steps i s l e =
    ap (at_key key) (take_more steps i s l ∙ ap (λ z. take i steps ++ z ∷ []) (sym e)) ∙ map-append _ (take i steps) (s ∷ [])

at_key-split : (key : List ℕ) (steps : List Step) (i : ℕ) (s : Step) → i < length steps → s ≡ get_or steps i s → at_key key steps ≡ (at_key key (take i steps) ++ only key s) ++ at_key key (drop (i + 1) steps)
at_key-split key steps i s l e =
    ap (at_key key) (split_at steps i s l e) ∙ map-append _ (take i steps) (s ∷ drop (i + 1) steps)
    ∙ sym (append_assoc (at_key key (take i steps)) (only key s) (at_key key (drop (i + 1) steps)))

module _ (v v1 v2 : Vault) (b : List ℕ) (t : ℕ) (key : List ℕ) (steps : List Step) (i : ℕ) (s : Step) (x y z : Counts) where
  -- one step more at the key
  pub next_step : i < length steps → s ≡ get_or steps i s → MakesAll v b t (at_key key (take i steps)) x y v1
      → MakesAll v1 b t (only key s) y z v2 → MakesAll v b t (at_key key (take (i + 1) steps)) x z v2
  next_step l e m n =
      subst (λ (ps : List Planned). MakesAll v b t ps x z v2) (sym (at_key-more key steps i s l e))
      (MakesAll-then v v1 v2 b t (at_key key (take i steps)) (only key s) x y z m n)

  -- or the steps stop there
  pub stopped_step : (h : Halt) → i < length steps → s ≡ get_or steps i s → MakesAll v b t (at_key key (take i steps)) x y v1
      → MakesUpTo v1 b t (only key s) h y z v2 → MakesUpTo v b t (at_key key steps) h x z v2
  stopped_step h l e m n =
      subst (λ (ps : List Planned). MakesUpTo v b t ps h x z v2) (sym (at_key-split key steps i s l e))
      (MakesUpTo-more v b t (at_key key (take i steps) ++ only key s) (at_key key (drop (i + 1) steps)) h x z v2
      (MakesAll-first v v1 v2 b t (at_key key (take i steps)) (only key s) h x y z m n))

-- ---- over keys that rise

module _ (v v1 : Vault) (b : List ℕ) (t : ℕ) (done : List (List ℕ)) (x y : Counts) where
  -- after the plans of some keys a run may go on
  pub may_go_on : MayRun v b t → IsRising done → MakesAll v b t (plans_at v b t done) x y v1 → MayRun v1 b t × (rules_in v1 b ≡ rules_in v b)
  may_go_on may rising m =
      let l = runs_go_on v b t done (plans_at v b t done) [] may rising (sym (append-nil (plans_at v b t done))) m.ids in
      subst (λ (u : Vault). MayRun u b t × (rules_in u b ≡ rules_in v b)) (sym m.left) (l.may, l.rules)

  -- and the plan of a later key is as it was
  pub same_plan : (rest : List (List ℕ)) (k : List ℕ) → MayRun v b t → IsRising (done ++ rest) → IsIn k rest → MakesAll v b t (plans_at v b t done) x y v1 → plan_at v1 b t k ≡ plan_at v b t k
  same_plan rest k may rising i m =
      let ps = plans_at v b t done in
      let front = rising_left done rest rising in
      let e : entries_of (after_steps v b t ps) b k ≡ entries_of v b k =
      other_keys_stay v b t done ps [] k may front (sym (append-nil ps)) m.ids (later_keys_are_others done rest k rising i) in
      let f : entries_of v1 b k ≡ entries_of v b k = ap (λ u. entries_of u b k) m.left ∙ e in
      let r = (may_go_on may front m).1 in
      ap (λ es. at_key k (key_plan (rules_in v1 b) k es t)) f ∙ ap (λ rs. at_key k (key_plan rs k (entries_of v b k) t)) r

  pub same_plans : (rest : List (List ℕ)) → MayRun v b t → IsRising (done ++ rest) → MakesAll v b t (plans_at v b t done) x y v1 → plans_at v1 b t rest ≡ plans_at v b t rest
  same_plans rest may rising m =
      flat_map-in (plan_at v1 b t) (plan_at v b t) rest (λ k i. same_plan rest k may rising i m)

pub plans_at-append : (v : Vault) (b : List ℕ) (t : ℕ) (xs ys : List (List ℕ)) → plans_at v b t (xs ++ ys) ≡ plans_at v b t xs ++ plans_at v b t ys
plans_at-append v b t xs ys = flat_map-append (plan_at v b t) xs ys

take_next : (keys : List (List ℕ)) (i : ℕ) (k : List ℕ) → i < length keys → k ≡ get_or keys i k → take (i + 1) keys ≡ take i keys ++ k ∷ []
take_next keys i k l e = take_more keys i k l ∙ ap (λ z. take i keys ++ z ∷ []) (sym e)

-- the plans of some keys, and then that of the next, as far as it comes
next_key : {X : Type 0} (v v1 v2 : Vault) (b : List ℕ) (t : ℕ) (keys : List (List ℕ)) (i : ℕ) (k : List ℕ) (r : Result X Halt) (x y z : Counts)
    → MayRun v b t → IsRising keys → i < length keys → k ≡ get_or keys i k
    → MakesAll v b t (plans_at v b t (take i keys)) x y v1 → MakesSteps r v1 b t (plan_at v1 b t k) y z v2 → MakesSteps r v b t (plans_at v b t (take (i + 1) keys)) x z v2
next_key v v1 v2 b t keys i k r x y z may rising l e m n =
    let done = take i keys in
    let s : keys ≡ done ++ k ∷ drop (i + 1) keys = split_at keys i k l e in
    let rising' : IsRising (done ++ k ∷ drop (i + 1) keys) = subst IsRising s rising in
    let p : plan_at v1 b t k ≡ plan_at v b t k = same_plan v v1 b t done x y (k ∷ drop (i + 1) keys) k may rising' (inl refl) m in
    let n' : MakesSteps r v1 b t (plan_at v b t k) y z v2 = subst (λ (ps : List Planned). MakesSteps r v1 b t ps y z v2) p n in
    let q : plans_at v b t done ++ plan_at v b t k ≡ plans_at v b t (take (i + 1) keys) =
    sym (ap (plans_at v b t) (take_next keys i k l e) ∙ plans_at-append v b t done (k ∷ []) ∙ ap (λ ps. plans_at v b t done ++ ps) (append-nil (plan_at v b t k))) in
    subst (λ (ps : List Planned). MakesSteps r v b t ps x z v2) q (MakesSteps-then v v1 v2 b t (plans_at v b t done) (plan_at v b t k) r x y z m n')

pub front_rises : (keys : List (List ℕ)) (i : ℕ) → IsRising keys → IsRising (take i keys)
front_rises keys i r = rising_left (take i keys) (drop i keys) (subst IsRising (sym (take-append-drop i keys)) r)

-- or the run stops within its plan
pub stopped_key : (v v1 v2 : Vault) (b : List ℕ) (t : ℕ) (keys : List (List ℕ)) (i : ℕ) (k : List ℕ) (h : Halt) (x y z : Counts)
    → MayRun v b t → IsRising keys → i < length keys → k ≡ get_or keys i k
    → MakesAll v b t (plans_at v b t (take i keys)) x y v1 → MakesUpTo v1 b t (plan_at v1 b t k) h y z v2 → MakesUpTo v b t (plans_at v b t keys) h x z v2
stopped_key v v1 v2 b t keys i k h x y z may rising l e m n =
    let q : plans_at v b t keys ≡ plans_at v b t (take (i + 1) keys) ++ plans_at v b t (drop (i + 1) keys) =
    ap (plans_at v b t) (sym (take-append-drop (i + 1) keys)) ∙ plans_at-append v b t (take (i + 1) keys) (drop (i + 1) keys) in
    subst (λ (ps : List Planned). MakesUpTo v b t ps h x z v2) (sym q)
    (MakesUpTo-more v b t (plans_at v b t (take (i + 1) keys)) (plans_at v b t (drop (i + 1) keys)) h x z v2
    (next_key {X = Unit {0}} v v1 v2 b t keys i k (Err h) x y z may rising l e m n))

pub done_key : (v v1 v2 : Vault) (b : List ℕ) (t : ℕ) (keys : List (List ℕ)) (i : ℕ) (k : List ℕ) (x y z : Counts)
    → MayRun v b t → IsRising keys → i < length keys → k ≡ get_or keys i k
    → MakesAll v b t (plans_at v b t (take i keys)) x y v1 → MakesAll v1 b t (plan_at v1 b t k) y z v2 → MakesAll v b t (plans_at v b t (take (i + 1) keys)) x z v2
done_key v v1 v2 b t keys i k x y z may rising l e m n =
    next_key {X = Unit {0}} v v1 v2 b t keys i k (Ok tt) x y z may rising l e m n
