-- A bucket has one plan, and after some of its steps the rest is the plan.
use Rattle.std.proofs.Common.{◌≡◌, ◌⊎◌, ℕ, zero, suc, ◌+◌, ◌≤◌, ◌++◌, Bool, true, false, IsTrue, List, [], ◌∷◌, length, take, drop, flat_map, refl, sym, ap, subst, ◌∙◌, arith, ⊎_elim, inl, inr}
use Rattle.std.specs.Ordering.{nat_cmp, ordering_reverse}
use Rattle.std.specs.declared.cmp.Ordering.{Ordering}
use Rattle.std.specs.declared.cmp.Ordering.TheVariants.{Less, Equal, Greater}
use Rattle.std.specs.Cmp.Lexicographic.{slice_cmp, nat_list_cmp_total}
use Rattle.std.specs.FinMap.{slice_cmp-IsAntisymmetric, nat_cmp-IsAntisymmetric}
use Rattle.std.specs.Str.{bytes_eq}
use Rattle.std.proofs.lemmas.Slice.Eq.{bytes_eq-Decides}
use Rattle.vault_rules.specs.declared.rule.Rule.{Rule}
use Rattle.vault_rules.specs.declared.plan.Held.{Held}
use Rattle.vault_rules.specs.declared.plan.Step.{Step}
use Rattle.vault_rules.specs.Rules.{are_rules}
use Rattle.vault_rules.specs.KeyPlan.{Planned, at_key, key_plan}
use Rattle.vault_core_model.specs.Vault.{Vault}
use Rattle.vault_core_model.specs.Reads.{entries_of}
use Rattle.vault_core_model.specs.Change.{changed}
use Rattle.vault_core_model.specs.Plan.{change_at, change_of, after_steps}
use Rattle.vault_core_run_laws.specs.KeyOrder.{IsIn, IsRising}
use Rattle.vault_core_run_laws.proofs.KeyOrder.{IsApart, irreflexive, under_in, below_out, is_in_or_out, apart, flip_eq, away_in, flat_map-in}
use Rattle.vault_core_run_laws.proofs.KeySteps.{fit_any, step_with, IsStepOf, plan_of}
use Rattle.vault_core_run_laws.proofs.Entries.{AreOrderly, order_entries, under_entries}
use Rattle.vault_core_run_laws.proofs.AfterSteps.{entries-own, entries-away, orderly_after_step}
use Rattle.vault_core_run_laws.proofs.Keys.{HasAny}

-- the plans of these keys by these rules, one after another
abbrev pub key_plans : List Rule → Vault → List ℕ → ℕ → List (List ℕ) → List Planned
key_plans rules v b t keys = flat_map (λ k. at_key k (key_plan rules k (entries_of v b k) t)) keys

-- each key of the bucket that has a held entry is among these
abbrev pub Covers : Vault → List ℕ → List (List ℕ) → Type 0
Covers v b keys = (k : List ℕ) → HasAny (entries_of v b k) → IsIn k keys

-- these are the steps at the bucket's keys by these rules
pub record IsPlan (rules : List Rule) (v : Vault) (b : List ℕ) (t : ℕ) (ps : List Planned) : Type 0 where
  pub keys : List (List ℕ)
  pub rising : IsRising keys
  pub covers : Covers v b keys
  pub steps : ps ≡ key_plans rules v b t keys

-- ---- the keys still cover what is held

covers_made : (v : Vault) (b : List ℕ) (t : ℕ) (ks : List (List ℕ)) (p : Planned) → AreOrderly 1 0 t v.histories → IsIn p.key ks → IsStepOf (entries_of v b p.key) p.step → Covers v b ks → Covers (changed v t (change_of v b t p)) b ks
covers_made v b t ks p c i s covers k any = cases (bytes_eq p.key k) refl
  where
    cases : (e : Bool) → bytes_eq p.key k ≡ e → IsIn k ks
    cases true e = subst (λ x. IsIn x ks) ((bytes_eq-Decides p.key k).0 e) i
    cases false e = covers k (subst HasAny (entries-away v b p.key k t p.step c e s) any)

-- ---- after some steps

module _ (rules : List Rule) (b : List ℕ) (t : ℕ) (ok : IsTrue (are_rules rules)) where
  own : (v : Vault) (k : List ℕ) (s : Step) (ss : List Step) → AreOrderly 1 0 t v.histories → key_plan rules k (entries_of v b k) t ≡ s ∷ ss → key_plan rules k (entries_of (changed v t (change_at v b t k s)) b k) t ≡ ss
  own v k s ss c e =
      ap (λ l. key_plan rules k l t) (entries-own v b k t s)
      ∙ step_with rules k t (fit_any rules k t ok) (length v.histories + 1) (entries_of v b k) s ss (order_entries b k 1 0 t v.histories c) (under_entries b k 1 0 t (length v.histories + 1) v.histories (omega arith) c) e

  other : (v : Vault) (k j : List ℕ) (s : Step) → AreOrderly 1 0 t v.histories → bytes_eq k j ≡ false → IsStepOf (entries_of v b k) s → key_plan rules j (entries_of (changed v t (change_at v b t k s)) b j) t ≡ key_plan rules j (entries_of v b j) t
  other v k j s c a h = ap (λ l. key_plan rules j l t) (entries-away v b k j t s c a h)

  -- the first step of a plan is the first of one of its keys
  pub record IsFirst (v : Vault) (ks : List (List ℕ)) (p : Planned) : Type 0 where
    pub among : IsIn p.key ks
    pub others : List Step
    pub first : key_plan rules p.key (entries_of v b p.key) t ≡ p.step ∷ others

  pub first_of : (v : Vault) (ks : List (List ℕ)) (p : Planned) (ps : List Planned) → key_plans rules v b t ks ≡ p ∷ ps → IsFirst v ks p
  first_of v [] p ps e = absurd (cc)
  first_of v (j ∷ js) p ps e = cases (key_plan rules j (entries_of v b j) t) refl e (first_of v js p ps)
    where
      cases : (l : List Step) → key_plan rules j (entries_of v b j) t ≡ l → at_key j l ++ key_plans rules v b t js ≡ p ∷ ps → (key_plans rules v b t js ≡ p ∷ ps → IsFirst v js p) → IsFirst v (j ∷ js) p
      cases [] n h ih = let f = ih h in record { among = inr f.among; others = f.others; first = f.first }
      cases (s ∷ ss) n h ih =
          let q : Planned = record { key = j; step = s } in
          let same : q ≡ p = cc in
          subst (IsFirst v (j ∷ js)) same (record { among = inl refl; others = ss; first = n })

  pub step_of : (v : Vault) (ks : List (List ℕ)) (p : Planned) → AreOrderly 1 0 t v.histories → IsFirst v ks p → IsStepOf (entries_of v b p.key) p.step
  step_of v ks p c f = plan_of rules p.key t (entries_of v b p.key) p.step f.others (order_entries b p.key 1 0 t v.histories c) f.first

  -- after the first step, the rest
  pub one_step : (v : Vault) (ks : List (List ℕ)) (p : Planned) (ps : List Planned) → IsApart ks → AreOrderly 1 0 t v.histories → key_plans rules v b t ks ≡ p ∷ ps → key_plans rules (changed v t (change_of v b t p)) b t ks ≡ ps
  one_step v [] p ps a c e = absurd (cc)
  one_step v (k ∷ ks) p ps a c e = cases (key_plan rules k (entries_of v b k) t) refl e (one_step v ks p ps a.1 c)
    where
      cases : (l : List Step) → key_plan rules k (entries_of v b k) t ≡ l → at_key k l ++ key_plans rules v b t ks ≡ p ∷ ps
          → (key_plans rules v b t ks ≡ p ∷ ps → key_plans rules (changed v t (change_of v b t p)) b t ks ≡ ps)
          → key_plans rules (changed v t (change_of v b t p)) b t (k ∷ ks) ≡ ps
      cases [] n h ih =
          let f = first_of v ks p ps h in
          ap (λ l. at_key k l ++ key_plans rules (changed v t (change_of v b t p)) b t ks) (other v p.key k p.step c (flip_eq p.key k (away_in k p.key ks a.0 f.among)) (step_of v ks p c f) ∙ n)
          ∙ ih h
      cases (s ∷ ss) n h ih =
          let q : Planned = record { key = k; step = s } in
          let same : p ≡ q = cc in
          let rest : at_key k ss ++ key_plans rules v b t ks ≡ ps = cc in
          let mine : IsStepOf (entries_of v b k) s = plan_of rules k t (entries_of v b k) s ss (order_entries b k 1 0 t v.histories c) n in
          let w = changed v t (change_at v b t k s) in
          ap (λ x. key_plans rules (changed v t (change_of v b t x)) b t (k ∷ ks)) same
          ∙ (ap (λ l. at_key k l ++ key_plans rules w b t ks) (own v k s ss c n)
          ∙ (ap (λ l. at_key k ss ++ l)
          (flat_map-in (λ j. at_key j (key_plan rules j (entries_of w b j) t)) (λ j. at_key j (key_plan rules j (entries_of v b j) t)) ks
          (λ j i. ap (at_key j) (other v k j s c (away_in k j ks a.0 i) mine)))
          ∙ rest))

  -- the plan, after each of its steps
  pub repeats : (n : ℕ) (v : Vault) (ps : List Planned) → AreOrderly 1 0 t v.histories → IsPlan rules v b t ps → IsPlan rules (after_steps v b t (take n ps)) b t (drop n ps)
  repeats zero v ps c p = p
  repeats (suc n) v [] c p = p
  repeats (suc n) v (x ∷ ps) c p =
      let whole : key_plans rules v b t p.keys ≡ x ∷ ps = sym p.steps in
      let f = first_of v p.keys x ps whole in
      repeats n (changed v t (change_of v b t x)) ps (orderly_after_step v b t x c) (record {
        keys = p.keys;
        rising = p.rising;
        covers = covers_made v b t p.keys x c f.among (step_of v p.keys x c f) p.covers;
        steps = sym (one_step v p.keys x ps (apart p.keys p.rising) c whole);
      })

-- ---- a bucket has one plan

nothing_held : (hs : List Held) → (HasAny hs → ⊥) → hs ≡ []
nothing_held [] n = refl
nothing_held (x ∷ xs) n = absurd (n tt)

-- a key that isn't covered has no held entry
no_entries : (v : Vault) (b k : List ℕ) (ks : List (List ℕ)) → Covers v b ks → (IsIn k ks → ⊥) → entries_of v b k ≡ []
no_entries v b k ks c n = nothing_held (entries_of v b k) (λ any. n (c k any))

module _ (rules : List Rule) (b : List ℕ) (t : ℕ) where
  abbrev Quiet : Vault → List ℕ → Type 0
  Quiet v k = key_plan rules k (entries_of v b k) t ≡ []

  drop_quiet : (v : Vault) (k : List ℕ) (ks : List (List ℕ)) → Quiet v k → key_plans rules v b t (k ∷ ks) ≡ key_plans rules v b t ks
  drop_quiet v k ks q = ap (λ l. at_key k l ++ key_plans rules v b t ks) q

  outside_quiet : (v : Vault) (ks : List (List ℕ)) (k : List ℕ) → Covers v b ks → IsIn k ks ⊎ Quiet v k
  outside_quiet v ks k c = ⊎_elim (λ (i : IsIn k ks). inl i) (λ (n : IsIn k ks → ⊥). inr (ap (λ l. key_plan rules k l t) (no_entries v b k ks c n))) (is_in_or_out k ks)

  merge : (n : ℕ) (v : Vault) (ks js : List (List ℕ)) → length ks + length js ≤ n → IsRising ks → IsRising js → ((k : List ℕ) → IsIn k ks → IsIn k js ⊎ Quiet v k) → ((k : List ℕ) → IsIn k js → IsIn k ks ⊎ Quiet v k) → key_plans rules v b t ks ≡ key_plans rules v b t js
  merge n v [] [] h rk rj f g = refl
  merge zero v [] (j ∷ js) h rk rj f g = absurd (omega arith)
  merge zero v (k ∷ ks) js h rk rj f g = absurd (omega arith)
  merge (suc n) v [] (j ∷ js) h rk rj f g =
      let q : Quiet v j = ⊎_elim (λ (i : ⊥). absurd i) (λ (q : Quiet v j). q) (g j (inl refl)) in
      merge n v [] js (omega arith) rk rj.1 (λ x i. absurd i) (λ x i. g x (inr i)) ∙ sym (drop_quiet v j js q)
  merge (suc n) v (k ∷ ks) [] h rk rj f g =
      let q : Quiet v k = ⊎_elim (λ (i : ⊥). absurd i) (λ (q : Quiet v k). q) (f k (inl refl)) in
      drop_quiet v k ks q ∙ merge n v ks [] (omega arith) rk.1 rj (λ x i. f x (inr i)) (λ x i. absurd i)
  merge (suc n) v (k ∷ ks) (j ∷ js) h rk rj f g =
      cases (slice_cmp nat_cmp k j) refl
      (merge n v ks js (omega arith) rk.1 rj.1)
      (merge n v ks (j ∷ js) (omega arith) rk.1 rj)
      (merge n v (k ∷ ks) js (omega arith) rk rj.1)
    where
      cases : (o : Ordering) → slice_cmp nat_cmp k j ≡ o
          → (((x : List ℕ) → IsIn x ks → IsIn x js ⊎ Quiet v x) → ((x : List ℕ) → IsIn x js → IsIn x ks ⊎ Quiet v x) → key_plans rules v b t ks ≡ key_plans rules v b t js)
          → (((x : List ℕ) → IsIn x ks → IsIn x (j ∷ js) ⊎ Quiet v x) → ((x : List ℕ) → IsIn x (j ∷ js) → IsIn x ks ⊎ Quiet v x) → key_plans rules v b t ks ≡ key_plans rules v b t (j ∷ js))
          → (((x : List ℕ) → IsIn x (k ∷ ks) → IsIn x js ⊎ Quiet v x) → ((x : List ℕ) → IsIn x js → IsIn x (k ∷ ks) ⊎ Quiet v x) → key_plans rules v b t (k ∷ ks) ≡ key_plans rules v b t js)
          → key_plans rules v b t (k ∷ ks) ≡ key_plans rules v b t (j ∷ js)
      cases Equal e both left right =
          let same : k ≡ j = slice_cmp-IsAntisymmetric nat_cmp-IsAntisymmetric k j e in
          ap (λ y. at_key y (key_plan rules y (entries_of v b y) t) ++ key_plans rules v b t ks) same
          ∙ ap (λ l. at_key j (key_plan rules j (entries_of v b j) t) ++ l) (both
          (λ x i. ⊎_elim (λ (r : IsIn x (j ∷ js)). ⊎_elim (λ (s : x ≡ j). absurd (irreflexive k (under_in k k ks rk.0 (subst (λ y. IsIn y ks) (s ∙ sym same) i)))) (λ (r : IsIn x js). inl r) r) (λ (q : Quiet v x). inr q) (f x (inr i)))
          (λ x i. ⊎_elim (λ (r : IsIn x (k ∷ ks)). ⊎_elim (λ (s : x ≡ k). absurd (irreflexive j (under_in j j js rj.0 (subst (λ y. IsIn y js) (s ∙ same) i)))) (λ (r : IsIn x ks). inl r) r) (λ (q : Quiet v x). inr q) (g x (inr i))))
      cases Less e both left right =
          let q : Quiet v k = ⊎_elim (λ (i : IsIn k (j ∷ js)). absurd (below_out k j js e rj.0 i)) (λ (q : Quiet v k). q) (f k (inl refl)) in
          drop_quiet v k ks q ∙ left
          (λ x i. f x (inr i))
          (λ x i. ⊎_elim (λ (r : IsIn x (k ∷ ks)). ⊎_elim (λ (s : x ≡ k). inr (subst (Quiet v) (sym s) q)) (λ (r : IsIn x ks). inl r) r) (λ (q : Quiet v x). inr q) (g x i))
      cases Greater e both left right =
          let less : slice_cmp nat_cmp j k ≡ Less = nat_list_cmp_total.antisymm j k ∙ ap ordering_reverse e in
          let q : Quiet v j = ⊎_elim (λ (i : IsIn j (k ∷ ks)). absurd (below_out j k ks less rk.0 i)) (λ (q : Quiet v j). q) (g j (inl refl)) in
          right
          (λ x i. ⊎_elim (λ (r : IsIn x (j ∷ js)). ⊎_elim (λ (s : x ≡ j). inr (subst (Quiet v) (sym s) q)) (λ (r : IsIn x js). inl r) r) (λ (q : Quiet v x). inr q) (f x i))
          (λ x i. g x (inr i))
          ∙ sym (drop_quiet v j js q)

  pub unique : (v : Vault) (ps qs : List Planned) → IsPlan rules v b t ps → IsPlan rules v b t qs → ps ≡ qs
  unique v ps qs p q =
      p.steps
      ∙ (merge (length p.keys + length q.keys) v p.keys q.keys (omega arith) p.rising q.rising (λ k i. outside_quiet v q.keys k q.covers) (λ k i. outside_quiet v p.keys k p.covers)
      ∙ sym q.steps)
