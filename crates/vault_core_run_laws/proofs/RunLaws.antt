-- The laws of a run, step by step and key by key.
use Rattle.std.proofs.Common.{◌≡◌, ◌⊎◌, ℕ, ◌+◌, ◌≤◌, ◌++◌, ◌||◌, ◌==◌, Bool, true, false, IsTrue, List, [], ◌∷◌, length, filter, take, count_by, cond, refl, sym, ap, subst, ◌∙◌, arith, append-nil, inl, inr, ⊎_elim, is_gt, nat_cmp, Ordering, Greater, Less, Equal}
use Rattle.std.specs.Cmp.Lexicographic.{slice_cmp, nat_list_cmp_total}
use Rattle.std.proofs.lemmas.List.{map-append}
use Rattle.vault_rules.specs.declared.plan.Step.{Step}
use Rattle.vault_rules.specs.declared.rule.Rule.{Rule}
use Rattle.vault_rules.specs.Rules.{are_rules}
use Rattle.vault_rules.specs.KeyPlan.{Planned, at_key, key_plan}
use Rattle.vault_rules.proofs.KeyRepeat.{rises}
use Rattle.vault_core_model.specs.Vault.{Vault, config_in}
use Rattle.vault_core_model.specs.Places.{keys_of, comes_after}
use Rattle.vault_core_model.specs.Reads.{entries_of}
use Rattle.vault_core_model.specs.Change.{changed}
use Rattle.vault_core_model.specs.Plan.{after_steps, change_of, rules_in, is_mark}
use Rattle.vault_core_run_laws.specs.KeyOrder.{IsIn, IsUnder, IsRising}
use Rattle.vault_core_run_laws.specs.KeyRuns.{MayRun, plan_at, plans_at, HaveIds, last_key}
use Rattle.vault_core_run_laws.specs.RunLaws.{VaultPlansAreKeyByKey, KeysRise, EntriesRise, RunsGoOn, NextStepsAreAllowed, NextStepsRemoveFree, KeyRunsGoOn, KeyStepsAreAllowed, OtherKeysStay, LaterKeysAreOthers, PagesGoOn}
use Rattle.vault_core_run_laws.proofs.KeyOrder.{IsApart, IsAway, apart, flip_eq, away_in, away_out, irreflexive, under_in, under_each, one_list, later_others, turn, turn_back}
use Rattle.vault_core_run_laws.proofs.Entries.{AreOrderly, orderly_of, order_entries}
use Rattle.vault_core_run_laws.proofs.AfterSteps.{buckets_stay, rules_stay, orderly_after_step, entries-away}
use Rattle.vault_core_run_laws.proofs.Keys.{HasAny, keys_rise, held_key, key_held}
use Rattle.vault_core_run_laws.proofs.OnePlan.{key_plans, first_of, step_of, one_step}
use Rattle.vault_core_run_laws.proofs.ByKey.{by_key}
use Rattle.vault_core_run_laws.proofs.FirstStep.{first_free}
use Rattle.vault_core_run_laws.proofs.Steps.{orderly, changes_in, changes_few, count_first, first_allowed, stepped, taken, has_id}

pub plans_are_key_by_key : VaultPlansAreKeyByKey
plans_are_key_by_key v b t may = by_key v b t may.rules (orderly v b t may)

pub bucket_keys_rise : KeysRise
bucket_keys_rise = keys_rise

pub entries_rise : EntriesRise
entries_rise v b k sound =
    rises (entries_of v b k) (order_entries b k 1 0 v.last v.histories (orderly_of 1 0 v.last v.histories sound.ids sound.order))

pub later_keys_are_others : LaterKeysAreOthers
later_keys_are_others = later_others

-- ---- a run goes on

record HasGone (v : Vault) (b : List ℕ) (t : ℕ) (ks : List (List ℕ)) (ps qs : List Planned) (v1 : Vault) : Type 0 where
  may : MayRun v1 b t
  rest : plans_at v1 b t ks ≡ qs
  ids : length v1.histories ≡ length v.histories + count_by (λ p. is_mark p.step) ps
  counted : length ps + changes_in v.histories ≤ changes_in v1.histories

go : (v : Vault) (b : List ℕ) (t : ℕ) (ks : List (List ℕ)) (ps qs : List Planned) → MayRun v b t → IsRising ks → plans_at v b t ks ≡ ps ++ qs → HaveIds v ps → HasGone v b t ks ps qs (after_steps v b t ps)
go v b t ks [] qs may rising e ids = record { may = may; rest = e; ids = omega arith; counted = omega arith }
go v b t ks (p ∷ ps) qs may rising e ids =
    let i = has_id v b t ks may rising p ps ids in
    let s = stepped v b t ks may rising p (ps ++ qs) e i.0 in
    let v' = changed v t (change_of v b t p) in
    let h = go v' b t ks ps qs s.may rising s.rest i.1 in record {
      may = h.may;
      rest = h.rest;
      ids = omega (arith, h.ids, taken v b t ks may rising p, count_first p ps);
      counted = omega (arith, h.counted, s.counted);
    }

pub runs_go_on : RunsGoOn
runs_go_on v b t ks ps qs may rising e ids =
    let h = go v b t ks ps qs may rising e ids in record {
      may = h.may;
      rest = h.rest;
      rules = rules_stay v b t ps;
      config = ap (λ bs. config_in bs b) (buckets_stay v b t ps);
      ids = h.ids;
      few = omega (arith, h.counted, changes_few (after_steps v b t ps).histories, h.may.sound.enough_ids);
    }

pub next_steps_are_allowed : NextStepsAreAllowed
next_steps_are_allowed v b t ks ps qs p may rising e ids few =
    let h = go v b t ks ps (p ∷ qs) may rising e ids in
    first_allowed (after_steps v b t ps) b t ks h.may rising p qs h.rest few

pub next_steps_remove_free : NextStepsRemoveFree
next_steps_remove_free v b t ks ps qs p may rising e ids =
    let h = go v b t ks ps (p ∷ qs) may rising e ids in
    first_free (after_steps v b t ps) b t ks p qs h.may h.rest

-- ---- within a key

one_key : (v : Vault) (b : List ℕ) (t : ℕ) (k : List ℕ) (ss rest : List Step) → key_plan (rules_in v b) k (entries_of v b k) t ≡ ss ++ rest → plans_at v b t (k ∷ []) ≡ at_key k ss ++ at_key k rest
one_key v b t k ss rest e = append-nil (plan_at v b t k) ∙ (ap (at_key k) e ∙ map-append (λ s. record { key = k; step = s }) ss rest)

pub key_runs_go_on : KeyRunsGoOn
key_runs_go_on v b t k ss rest may e ids = runs_go_on v b t (k ∷ []) (at_key k ss) (at_key k rest) may (tt, tt) (one_key v b t k ss rest e) ids

pub key_steps_are_allowed : KeyStepsAreAllowed
key_steps_are_allowed v b t k ss rest s may e ids few =
    next_steps_are_allowed v b t (k ∷ []) (at_key k ss) (at_key k rest) (record { key = k; step = s }) may (tt, tt) (one_key v b t k ss (s ∷ rest) e) ids few

-- ---- the other keys

module _ (rules : List Rule) (b : List ℕ) (t : ℕ) (ok : IsTrue (are_rules rules)) (ks : List (List ℕ)) (are_apart : IsApart ks) (k : List ℕ) (out : IsAway k ks) where
  stay : (ps qs : List Planned) (v : Vault) → AreOrderly 1 0 t v.histories → key_plans rules v b t ks ≡ ps ++ qs → entries_of (after_steps v b t ps) b k ≡ entries_of v b k
  stay [] qs v c e = refl
  stay (p ∷ ps) qs v c e =
      let f = first_of rules b t ok v ks p (ps ++ qs) e in
      stay ps qs (changed v t (change_of v b t p)) (orderly_after_step v b t p c) (one_step rules b t ok v ks p (ps ++ qs) are_apart c e)
      ∙ entries-away v b p.key k t p.step c (flip_eq p.key k (away_in k p.key ks out f.among)) (step_of rules b t ok v ks p c f)

pub other_keys_stay : OtherKeysStay
other_keys_stay v b t ks ps qs k may rising e ids out = stay (rules_in v b) b t may.rules ks (apart ks rising) k (away_out k ks out) ps qs v (orderly v b t may) e

-- ---- pages

nat_list_irreflexive : (a x : List ℕ) → slice_cmp nat_cmp a x ≡ Less → slice_cmp nat_cmp x a ≡ Less → ⊥
nat_list_irreflexive a x l m = irreflexive a (nat_list_cmp_total.trans a x a l m)

pub rising_left : (ks js : List (List ℕ)) → IsRising (ks ++ js) → IsRising ks
rising_left [] js r = tt
rising_left (k ∷ ks) js r = (under_left ks r.0, rising_left ks js r.1)
  where
    under_left : (l : List (List ℕ)) → IsUnder k (l ++ js) → IsUnder k l
    under_left [] u = tt
    under_left (x ∷ l) u = (u.0, under_left l u.1)

pub rising_right : (ks js : List (List ℕ)) → IsRising (ks ++ js) → IsRising js
rising_right [] js r = r
rising_right (k ∷ ks) js r = rising_right ks js r.1

in_append : (x : List ℕ) (ks js : List (List ℕ)) → IsIn x (ks ++ js) → IsIn x ks ⊎ IsIn x js
in_append x [] js i = inr i
in_append x (k ∷ ks) js i =
    ⊎_elim (λ (e : x ≡ k). inl (inl e))
    (λ (r : IsIn x (ks ++ js)). ⊎_elim (λ (h : IsIn x ks). inl (inr h)) (λ (h : IsIn x js). inr h) (in_append x ks js r)) i

append_in : (x : List ℕ) (ks js : List (List ℕ)) → IsIn x js → IsIn x (ks ++ js)
append_in x [] js i = i
append_in x (k ∷ ks) js i = inr (append_in x ks js i)

-- what stands in the front comes before what stands after it
before : (y x : List ℕ) (ks js : List (List ℕ)) → IsRising (ks ++ js) → IsIn y ks → IsIn x js → slice_cmp nat_cmp y x ≡ Less
before y x [] js r i h = absurd i
before y x (k ∷ ks) js r i h =
    ⊎_elim (λ (e : y ≡ k). ap (λ z. slice_cmp nat_cmp z x) e ∙ under_in k x (ks ++ js) r.0 (append_in x ks js h))
    (λ (g : IsIn y ks). before y x ks js r.1 g h) i

last_in : (k : List ℕ) (ks : List (List ℕ)) → IsIn (last_key (k ∷ ks)) (k ∷ ks)
last_in k [] = inl refl
last_in k (j ∷ js) = inr (last_in j js)

-- none of rising keys comes after the last of them
up_to_last : (k : List ℕ) (ks : List (List ℕ)) (x : List ℕ) → IsRising (k ∷ ks) → IsIn x (k ∷ ks) → (x ≡ last_key (k ∷ ks)) ⊎ (slice_cmp nat_cmp x (last_key (k ∷ ks)) ≡ Less)
up_to_last k [] x r i = ⊎_elim (λ (e : x ≡ k). inl e) (λ (h : ⊥). absurd h) i
up_to_last k (j ∷ js) x r i =
    ⊎_elim (λ (e : x ≡ k). inr (ap (λ z. slice_cmp nat_cmp z (last_key (j ∷ js))) e ∙ under_in k (last_key (j ∷ js)) (j ∷ js) r.0 (last_in j js)))
    (λ (h : IsIn x (j ∷ js)). up_to_last j js x r.1 h) i

in_filter : (p : List ℕ → Bool) (x : List ℕ) (ks : List (List ℕ)) → IsIn x (filter p ks) → IsIn x ks × (p x ≡ true)
in_filter p x [] i = absurd i
in_filter p x (k ∷ ks) i = cases (p k) refl i (in_filter p x ks)
  where
    cases : (c : Bool) → p k ≡ c → IsIn x (cond c (k ∷ filter p ks) (filter p ks)) → (IsIn x (filter p ks) → IsIn x ks × (p x ≡ true)) → IsIn x (k ∷ ks) × (p x ≡ true)
    cases true e j ih = ⊎_elim (λ (s : x ≡ k). (inl s, ap p s ∙ e)) (λ (h : IsIn x (filter p ks)). let g = ih h in (inr g.0, g.1)) j
    cases false e j ih = let g = ih j in (inr g.0, g.1)

filter_in : (p : List ℕ → Bool) (x : List ℕ) (ks : List (List ℕ)) → p x ≡ true → IsIn x ks → IsIn x (filter p ks)
filter_in p x [] e i = i
filter_in p x (k ∷ ks) e i = cases (p k) refl i (filter_in p x ks e)
  where
    cases : (c : Bool) → p k ≡ c → IsIn x (k ∷ ks) → (IsIn x ks → IsIn x (filter p ks)) → IsIn x (cond c (k ∷ filter p ks) (filter p ks))
    cases true f j ih = ⊎_elim (λ (s : x ≡ k). inl s) (λ (h : IsIn x ks). inr (ih h)) j
    cases false f j ih = ⊎_elim (λ (s : x ≡ k). absurd (clash (sym e ∙ (ap p s ∙ f)))) (λ (h : IsIn x ks). ih h) j
      where
        clash : true ≡ false → ⊥
        clash g = cc

filter_rises : (p : List ℕ → Bool) (ks : List (List ℕ)) → IsRising ks → IsRising (filter p ks)
filter_rises p [] r = tt
filter_rises p (k ∷ ks) r = cases (p k) (filter_rises p ks r.1)
  where
    cases : (c : Bool) → IsRising (filter p ks) → IsRising (cond c (k ∷ filter p ks) (filter p ks))
    cases true h = (under_each k (filter p ks) (λ x i. under_in k x ks r.0 (in_filter p x ks i).0), h)
    cases false h = h

-- a key after the last of rising keys isn't among them
is_later : (k : List ℕ) (ks : List (List ℕ)) (x : List ℕ) → 1 ≤ length (last_key (k ∷ ks)) → IsRising (k ∷ ks) → comes_after x (last_key (k ∷ ks)) ≡ true → IsIn x (k ∷ ks) → ⊥
is_later k ks x some r after i =
    ⊎_elim (λ (e : x ≡ a). irreflexive a (ap (slice_cmp nat_cmp a) (sym e) ∙ less))
    (λ (m : slice_cmp nat_cmp x a ≡ Less). nat_list_irreflexive a x less m) (up_to_last k ks x r i)
  where
    a : List ℕ
    a = last_key (k ∷ ks)

    not_empty : (n : ℕ) → 1 ≤ n → (n == 0) ≡ false
    not_empty n h = grind (arith, h)

    greater : (c : Bool) (o : Ordering) → c ≡ false → (c || is_gt o) ≡ true → o ≡ Greater
    greater true o e f = absurd (cc e)
    greater false Greater e f = refl
    greater false Less e f = absurd (cc f)
    greater false Equal e f = absurd (cc f)

    less : slice_cmp nat_cmp a x ≡ Less
    less = turn a x (greater (length a == 0) (slice_cmp nat_cmp x a) (not_empty (length a) some) after)

module _ (v : Vault) (b : List ℕ) (t : ℕ) (done rest : List (List ℕ)) (may : MayRun v b t) (e : keys_of v b ≡ done ++ rest) (ids : HaveIds v (plans_at v b t done)) where
  all_rise : IsRising (done ++ rest)
  all_rise = subst IsRising e (keys_rise v b)

  as_before : (x : List ℕ) → (IsIn x done → ⊥) → entries_of (after_steps v b t (plans_at v b t done)) b x ≡ entries_of v b x
  as_before x n = other_keys_stay v b t done (plans_at v b t done) [] x may (rising_left done rest all_rise) (sym (append-nil (plans_at v b t done))) ids n

  -- the keys after the last that is done are the rest, by what is among them
  page_by : (a : List ℕ) → ((x : List ℕ) → comes_after x a ≡ true → IsIn x done → ⊥) → ((x : List ℕ) → IsIn x rest → comes_after x a ≡ true)
      → filter (λ k. comes_after k a) (keys_of (after_steps v b t (plans_at v b t done)) b) ≡ rest
  page_by a later after =
      one_list (filter (λ k. comes_after k a) (keys_of v1 b)) rest (filter_rises (λ k. comes_after k a) (keys_of v1 b) (keys_rise v1 b)) (rising_right done rest all_rise) into out
    where
      v1 : Vault
      v1 = after_steps v b t (plans_at v b t done)

      into : (x : List ℕ) → IsIn x (filter (λ k. comes_after k a) (keys_of v1 b)) → IsIn x rest
      into x i =
          let h = in_filter (λ k. comes_after k a) x (keys_of v1 b) i in
          let held = key_held v b x (subst HasAny (as_before x (later x h.1)) (held_key v1 b x h.0)) in
          ⊎_elim (λ (j : IsIn x done). absurd (later x h.1 j)) (λ (j : IsIn x rest). j) (in_append x done rest (subst (IsIn x) e held))

      out : (x : List ℕ) → IsIn x rest → IsIn x (filter (λ k. comes_after k a) (keys_of v1 b))
      out x i =
          let held = held_key v b x (subst (IsIn x) (sym e) (append_in x done rest i)) in
          filter_in (λ k. comes_after k a) x (keys_of v1 b) (after x i)
          (key_held v1 b x (subst HasAny (sym (as_before x (later_others done rest x all_rise i))) held))

pub pages_go_on : PagesGoOn
pages_go_on v b t most [] rest may e ids some = ap (take most) (page_by v b t [] rest may e ids [] (λ x h i. i) (λ x i. refl))
pages_go_on v b t most (k ∷ ks) rest may e ids some =
    ap (take most)
    (page_by v b t (k ∷ ks) rest may e ids (last_key (k ∷ ks)) (λ x h i. is_later k ks x (some (omega arith)) (rising_left (k ∷ ks) rest rising) h i)
    (λ x i. or_true (length (last_key (k ∷ ks)) == 0) (slice_cmp nat_cmp x (last_key (k ∷ ks))) (turn_back x (last_key (k ∷ ks)) (before (last_key (k ∷ ks)) x (k ∷ ks) rest rising (last_in k ks) i))))
  where
    rising : IsRising ((k ∷ ks) ++ rest)
    rising = subst IsRising e (keys_rise v b)

    or_true : (c : Bool) (o : Ordering) → o ≡ Greater → (c || is_gt o) ≡ true
    or_true true o h = refl
    or_true false o h = ap is_gt h
