-- The entries of a key after the first and after the second phase of a plan.
use Rattle.std.proofs.Common.{◌≡◌, ℕ, ◌+◌, ◌++◌, ◌==◌, Bool, true, false, List, [], ◌∷◌, length, Option, Some, None, refl, sym, ap, subst, ◌∙◌, cond, not, flat_map, ⊎_elim}
use Rattle.std.specs.Str.{bytes_eq}
use Rattle.vault_rules.specs.declared.rule.Rule.{Rule}
use Rattle.vault_rules.specs.declared.plan.Held.{Held}
use Rattle.vault_rules.specs.declared.plan.Step.{Step}
use Rattle.vault_rules.specs.declared.plan.Step.TheVariants.{Mark, Remove, RemoveLone}
use Rattle.vault_rules.specs.KeyPlan.{at_key, mark_steps, removal_steps, kept}
use Rattle.vault_rules.specs.KeyRepeats.{without}
use Rattle.vault_rules.specs.Walk.{Dues, dues, last_mark, mark_step, removals, removal, remove_step}
use Rattle.vault_rules.proofs.KeyRepeat.{IsInOrder, rises}
use Rattle.vault_rules.proofs.Sets.{marks_from, removals_from}
use Rattle.vault_core_model.specs.Vault.{Vault}
use Rattle.vault_core_model.specs.Reads.{entries_of}
use Rattle.vault_core_model.specs.Change.{changed}
use Rattle.vault_core_model.specs.Plan.{change_at, after_steps, rules_in, marks_at, removals_at}
use Rattle.vault_core_run_laws.specs.KeyOrder.{IsIn}
use Rattle.vault_core_run_laws.proofs.KeyOrder.{IsAway, IsApart, away_in, flat_map-each, bytes_same}
use Rattle.vault_core_run_laws.proofs.KeySteps.{marked_with, AreStepsOf, removal_steps_of, AllNot, AreElsewhere, withouts, withouts_elsewhere, withouts-kept}
use Rattle.vault_core_run_laws.proofs.Entries.{AreOrderly, entries-removed, entries-marked, order_entries, id_of_one}
use Rattle.vault_core_run_laws.proofs.AfterSteps.{after_steps-append, marked_away}

-- ---- after marks

module _ (b : List ℕ) (t : ℕ) (o : List ℕ → Option ℕ) where
  pub marks_away : (k : List ℕ) (v : Vault) (ks : List (List ℕ)) → IsAway k ks → entries_of (after_steps v b t (flat_map (λ j. at_key j (mark_step (o j))) ks)) b k ≡ entries_of v b k
  marks_away k v [] a = refl
  marks_away k v (j ∷ js) a = cases (o j) (λ w. marks_away k w js a.2)
    where
      cases : (q : Option ℕ)
          → ((w : Vault) → entries_of (after_steps w b t (flat_map (λ j. at_key j (mark_step (o j))) js)) b k ≡ entries_of w b k)
          → entries_of (after_steps v b t (at_key j (mark_step q) ++ flat_map (λ j. at_key j (mark_step (o j))) js)) b k ≡ entries_of v b k
      cases None ih = ih v
      cases (Some r) ih = ih (changed v t (change_at v b t j (Mark r))) ∙ marked_away v b j k t r a.0

  -- a key has its marker, where it is marked
  pub marks_in : (k : List ℕ) (v : Vault) (ks : List (List ℕ)) → IsApart ks → IsIn k ks → (m : ℕ) × (entries_of (after_steps v b t (flat_map (λ j. at_key j (mark_step (o j))) ks)) b k ≡ marked_with m t (o k) (entries_of v b k))
  marks_in k v [] a i = absurd i
  marks_in k v (j ∷ js) a i =
      ⊎_elim (λ (e : k ≡ j). subst (λ x. (m : ℕ) × (entries_of (after_steps v b t (flat_map (λ j. at_key j (mark_step (o j))) (j ∷ js))) b x ≡ marked_with m t (o x) (entries_of v b x))) (sym e) (own (o j)))
      (λ (r : IsIn k js). other (o j) (away_in j k js a.0 r) (λ w. marks_in k w js a.1 r)) i
    where
      own : (q : Option ℕ) → (m : ℕ) × (entries_of (after_steps v b t (at_key j (mark_step q) ++ flat_map (λ j. at_key j (mark_step (o j))) js)) b j ≡ marked_with m t q (entries_of v b j))
      own None = (0, marks_away j v js a.0)
      own (Some r) =
          let w = changed v t (change_at v b t j (Mark r)) in
          (length v.histories + 1, marks_away j w js a.0 ∙ entries-marked b j j (length v.histories + 1) t _ true v.histories (bytes_same j))

      other : (q : Option ℕ) → bytes_eq j k ≡ false
          → ((w : Vault) → (m : ℕ) × (entries_of (after_steps w b t (flat_map (λ j. at_key j (mark_step (o j))) js)) b k ≡ marked_with m t (o k) (entries_of w b k)))
          → (m : ℕ) × (entries_of (after_steps v b t (at_key j (mark_step q) ++ flat_map (λ j. at_key j (mark_step (o j))) js)) b k ≡ marked_with m t (o k) (entries_of v b k))
      other None n ih = ih v
      other (Some r) n ih =
          let h = ih (changed v t (change_at v b t j (Mark r))) in
          (h.0, h.1 ∙ ap (marked_with h.0 t (o k)) (marked_away v b j k t r n))

-- ---- after removals

abbrev AreRemovals : List Step → Type 0
AreRemovals [] = Unit {0}
AreRemovals (Mark r ∷ ss) = ⊥
AreRemovals (Remove i r ∷ ss) = AreRemovals ss
AreRemovals (RemoveLone i r ∷ ss) = ⊥

walk_removals : (d : Dues) (hs : List Held) → AreRemovals (removals d hs)
walk_removals d [] = tt
walk_removals d (x ∷ xs) = cases (removal d x xs) (walk_removals d xs)
  where
    cases : (o : Option ℕ) → AreRemovals (removals d xs) → AreRemovals (remove_step x.id o ++ removals d xs)
    cases None h = h
    cases (Some r) h = h

are_removals : (rules : List Rule) (key : List ℕ) (t : ℕ) (hs : List Held) → IsInOrder hs → AreRemovals (removal_steps rules key t hs)
are_removals rules key t hs o = subst AreRemovals (sym (removals_from rules key t hs [] hs refl (rises hs o))) (walk_removals (dues rules key t) hs)

made_removals : (v : Vault) (b k j : List ℕ) (t : ℕ) (ss : List Step) → AreRemovals ss → entries_of (after_steps v b t (at_key j ss)) b k ≡ withouts (entries_of v b k) ss
made_removals v b k j t [] h = refl
made_removals v b k j t (Mark r ∷ ss) h = absurd h
made_removals v b k j t (RemoveLone i r ∷ ss) h = absurd h
made_removals v b k j t (Remove i r ∷ ss) h =
    made_removals (changed v t (change_at v b t j (Remove i r))) b k j t ss h ∙ ap (λ l. withouts l ss) (entries-removed b k i _ v.histories)

not_without : (i m : ℕ) (hs : List Held) → AllNot i hs → AllNot i (without m hs)
not_without i m [] a = tt
not_without i m (x ∷ xs) a = cases (not (x.id == m)) (not_without i m xs a.1)
  where
    cases : (c : Bool) → AllNot i (without m xs) → AllNot i (cond c (x ∷ without m xs) (without m xs))
    cases true h = (a.0, h)
    cases false h = h

elsewhere_without : (m : ℕ) (ss : List Step) (hs : List Held) → AreElsewhere ss hs → AreElsewhere ss (without m hs)
elsewhere_without m [] hs a = tt
elsewhere_without m (Mark r ∷ ss) hs a = elsewhere_without m ss hs a
elsewhere_without m (Remove i r ∷ ss) hs a = (not_without i m hs a.0, elsewhere_without m ss hs a.1)
elsewhere_without m (RemoveLone i r ∷ ss) hs a = elsewhere_without m ss hs a

elsewhere_withouts : (rs ss : List Step) (hs : List Held) → AreElsewhere ss hs → AreElsewhere ss (withouts hs rs)
elsewhere_withouts [] ss hs a = a
elsewhere_withouts (Mark r ∷ rs) ss hs a = elsewhere_withouts rs ss hs a
elsewhere_withouts (Remove i r ∷ rs) ss hs a = elsewhere_withouts rs ss (without i hs) (elsewhere_without i ss hs a)
elsewhere_withouts (RemoveLone i r ∷ rs) ss hs a = elsewhere_withouts rs ss hs a

steps_elsewhere : (b j k : List ℕ) (t : ℕ) (v : Vault) (ss : List Step) → AreOrderly 1 0 t v.histories → bytes_eq j k ≡ false → AreStepsOf (entries_of v b j) ss → AreElsewhere ss (entries_of v b k)
steps_elsewhere b j k t v [] c a h = tt
steps_elsewhere b j k t v (Mark r ∷ ss) c a h = steps_elsewhere b j k t v ss c a h.1
steps_elsewhere b j k t v (Remove i r ∷ ss) c a h = (id_of_one b j k i 1 0 t v.histories c a h.0, steps_elsewhere b j k t v ss c a h.1)
steps_elsewhere b j k t v (RemoveLone i r ∷ ss) c a h = steps_elsewhere b j k t v ss c a h.1

module _ (b k : List ℕ) (t : ℕ) (r : List ℕ → List Step) (are : (j : List ℕ) → AreRemovals (r j)) where
  removals_away : (hs : List Held) (v : Vault) (ks : List (List ℕ)) → ((j : List ℕ) → bytes_eq j k ≡ false → AreElsewhere (r j) hs) → IsAway k ks → entries_of v b k ≡ hs → entries_of (after_steps v b t (flat_map (λ j. at_key j (r j)) ks)) b k ≡ hs
  removals_away hs v [] f a e = e
  removals_away hs v (j ∷ js) f a e =
      ap (λ w. entries_of w b k) (after_steps-append v b t (at_key j (r j)) (flat_map (λ j. at_key j (r j)) js))
      ∙ removals_away hs (after_steps v b t (at_key j (r j))) js f a.2
      (made_removals v b k j t (r j) (are j) ∙ (ap (λ l. withouts l (r j)) e ∙ withouts_elsewhere (r j) hs (f j a.0)))

  removals_in : (hs : List Held) (v : Vault) (ks : List (List ℕ)) → ((j : List ℕ) → bytes_eq j k ≡ false → AreElsewhere (r j) hs) → IsApart ks → IsIn k ks → entries_of v b k ≡ hs → entries_of (after_steps v b t (flat_map (λ j. at_key j (r j)) ks)) b k ≡ withouts hs (r k)
  removals_in hs v [] f a i e = absurd i
  removals_in hs v (j ∷ js) f a i e =
      ap (λ w. entries_of w b k) (after_steps-append v b t (at_key j (r j)) (flat_map (λ j. at_key j (r j)) js))
      ∙ ⊎_elim
      (λ (s : k ≡ j). removals_away (withouts hs (r k)) (after_steps v b t (at_key j (r j))) js
      (λ x n. elsewhere_withouts (r k) (r x) hs (f x n))
      (subst (λ x. IsAway x js) (sym s) a.0)
      (made_removals v b k j t (r j) (are j) ∙ (ap (λ l. withouts l (r j)) e ∙ ap (λ x. withouts hs (r x)) (sym s))))
      (λ (q : IsIn k js). removals_in hs (after_steps v b t (at_key j (r j))) js f a.1 q
      (made_removals v b k j t (r j) (are j) ∙ (ap (λ l. withouts l (r j)) e ∙ withouts_elsewhere (r j) hs (f j (away_in j k js a.0 q)))))
      i

-- ---- the phases

module _ (v : Vault) (b : List ℕ) (t : ℕ) (c : AreOrderly 1 0 t v.histories) where
  abbrev pub mark_of : List ℕ → Option ℕ
  mark_of k = last_mark (dues (rules_in v b) k t) (entries_of v b k)

  order : (k : List ℕ) → IsInOrder (entries_of v b k)
  order k = order_entries b k 1 0 t v.histories c

  pub marks_are : (k : List ℕ) → mark_steps (rules_in v b) k t (entries_of v b k) ≡ mark_step (mark_of k)
  marks_are k = marks_from (rules_in v b) k t (entries_of v b k) [] (entries_of v b k) refl (rises (entries_of v b k) (order k))

  first_is : (ks : List (List ℕ)) → flat_map (marks_at v b t) ks ≡ flat_map (λ j. at_key j (mark_step (mark_of j))) ks
  first_is ks = flat_map-each (marks_at v b t) (λ j. at_key j (mark_step (mark_of j))) ks (λ j. ap (at_key j) (marks_are j))

  pub after_first : (ks : List (List ℕ)) (k : List ℕ) → IsApart ks → IsIn k ks → (m : ℕ) × (entries_of (after_steps v b t (flat_map (marks_at v b t) ks)) b k ≡ marked_with m t (mark_of k) (entries_of v b k))
  after_first ks k a i =
      let h = marks_in b t mark_of k v ks a i in
      (h.0, ap (λ ps. entries_of (after_steps v b t ps) b k) (first_is ks) ∙ h.1)

  pub away_from_first : (ks : List (List ℕ)) (k : List ℕ) → IsAway k ks → entries_of (after_steps v b t (flat_map (marks_at v b t) ks)) b k ≡ entries_of v b k
  away_from_first ks k a = ap (λ ps. entries_of (after_steps v b t ps) b k) (first_is ks) ∙ marks_away b t mark_of k v ks a

  pub after_second : (ks : List (List ℕ)) (k : List ℕ) → IsApart ks → IsIn k ks → entries_of (after_steps v b t (flat_map (removals_at v b t) ks)) b k ≡ kept (rules_in v b) k t (entries_of v b k)
  after_second ks k a i =
      let rules = rules_in v b in
      removals_in b k t (λ j. removal_steps rules j t (entries_of v b j)) (λ j. are_removals rules j t (entries_of v b j) (order j)) (entries_of v b k) v ks
      (λ j n. steps_elsewhere b j k t v (removal_steps rules j t (entries_of v b j)) c n (removal_steps_of rules j t (entries_of v b j) (order j)))
      a i refl
      ∙ withouts-kept rules k t (entries_of v b k) (order k)
