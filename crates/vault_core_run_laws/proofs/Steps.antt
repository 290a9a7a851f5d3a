-- The first step that is left of a run may be made, and then the rest is left.
use Rattle.std.proofs.Common.{◌≡◌, ℕ, ◌+◌, ◌*◌, ◌≤◌, ◌++◌, nat_lt, Bool, true, false, IsTrue, IsSome, List, [], ◌∷◌, length, map, cond, find, Option, Some, None, option_map, count_by, refl, sym, ap, subst, ◌∙◌, arith, ⊎_elim, if◌then◌else◌}
use Rattle.std.specs.Prelude.{◌==◌}
use Rattle.std.specs.List.{AllByRecursion}
use Rattle.std.specs.Str.{bytes_eq}
use Rattle.std.proofs.lemmas.List.{length-map, length-append}
use Rattle.std.proofs.lemmas.List.Sums.{sum_by-cons}
use Rattle.vault_base.specs.Limits.{most_ids}
use Rattle.vault_rules.specs.declared.plan.Step.{Step}
use Rattle.vault_rules.specs.declared.plan.Step.TheVariants.{Mark, Remove, RemoveLone}
use Rattle.vault_rules.specs.Rules.{are_rules}
use Rattle.vault_rules.specs.KeyPlan.{Planned}
use Rattle.vault_rules.proofs.Truth.{less_of_test}
use Rattle.vault_core_model.specs.declared.records.Author.{Author}
use Rattle.vault_core_model.specs.declared.records.History.{History}
use Rattle.vault_core_model.specs.declared.records.Removal.{Removal}
use Rattle.vault_core_model.specs.Vault.{Vault, config_in, config_of, next_id}
use Rattle.vault_core_model.specs.Places.{is_held, is_held_at}
use Rattle.vault_core_model.specs.Reads.{held_of, entries_of}
use Rattle.vault_core_model.specs.Change.{changed, removed_if, removed_by}
use Rattle.vault_core_model.specs.EntryOutcomes.{new_marker}
use Rattle.vault_core_model.specs.Sound.{Sound}
use Rattle.vault_core_model.specs.Allowed.{Allows, IsAdmission, IsHeldId}
use Rattle.vault_core_model.specs.Plan.{change_at, change_of, rules_in, is_mark, with_ids}
use Rattle.vault_core_laws.proofs.Soundness.{AreInOrder-later, Sound-changed}
use Rattle.vault_core_laws.proofs.Newest.{finds_itself}
use Rattle.vault_core_run_laws.specs.KeyOrder.{IsRising}
use Rattle.vault_core_run_laws.specs.KeyRuns.{MayRun, plans_at, HaveIds}
use Rattle.vault_core_run_laws.proofs.KeyOrder.{apart}
use Rattle.vault_core_run_laws.proofs.KeySteps.{HasId, IsStepOf}
use Rattle.vault_core_run_laws.proofs.Entries.{AreOrderly, orderly_of, put_if, entries_in, entries_in-cons, all_three, held_at_is}
use Rattle.vault_core_run_laws.proofs.AfterSteps.{buckets_stay, last_is, rules_stay}
use Rattle.vault_core_run_laws.proofs.OnePlan.{key_plans, first_of, step_of, one_step}

pub orderly : (v : Vault) (b : List ℕ) (t : ℕ) → MayRun v b t → AreOrderly 1 0 t v.histories
orderly v b t may = orderly_of 1 0 t v.histories may.sound.ids (AreInOrder-later 0 v.last t v.histories may.in_time may.sound.order)

-- ---- what a step removes is held

held_id : (b k : List ℕ) (i : ℕ) (all hs : List History) → AllByRecursion (λ y. find (λ g. g.entry.id == y.entry.id) all ≡ Some y) hs → HasId i (entries_in b k hs)
    → (h : History) × (find (λ g. g.entry.id == i) all ≡ Some h) × (h.entry.removal ≡ None)
held_id b k i all [] finds has = absurd has
held_id b k i all (x ∷ xs) finds has = cases (is_held_at b k x.entry) refl (subst (HasId i) (entries_in-cons b k x xs) has) (held_id b k i all xs finds.1)
  where
    cases : (c : Bool) → is_held_at b k x.entry ≡ c → HasId i (put_if c (held_of x) (entries_in b k xs))
        → (HasId i (entries_in b k xs) → (h : History) × (find (λ g. g.entry.id == i) all ≡ Some h) × (h.entry.removal ≡ None))
        → (h : History) × (find (λ g. g.entry.id == i) all ≡ Some h) × (h.entry.removal ≡ None)
    cases true e g ih =
        ⊎_elim (λ (s : x.entry.id ≡ i). (
          x,
          subst (λ n. find (λ g. g.entry.id == n) all ≡ Some x) s finds.0,
          held_at_is b k x.entry e,
        )) ih g
    cases false e g ih = ih g

is_held_id : (v : Vault) (b k : List ℕ) (i : ℕ) → Sound v → HasId i (entries_of v b k) → IsHeldId v i
is_held_id v b k i sound has =
    let h = held_id b k i v.histories v.histories (finds_itself 1 v.histories sound.ids) has in
    (h.0.entry, ap (λ (o : Option History). option_map (λ g. g.entry) o) h.1, h.2)

-- ---- a marker may be admitted while an id is left

some_of : {X : Type 0} (o : Option X) → IsSome o → (x : X) × (o ≡ Some x)
some_of None there = absurd (cc there)
some_of (Some x) there = (x, refl)

marker_allowed : (v : Vault) (t : ℕ) (bucket key : List ℕ) (by : Author) → Sound v → IsSome (config_of v bucket) → next_id v ≤ most_ids → IsAdmission v t (record { history = new_marker (next_id v) bucket key t by; note = None })
marker_allowed v t bucket key by sound there few =
    let config = some_of (config_of v bucket) there in record {
      id = refl;
      enough_ids = few;
      now = refl;
      held = refl;
      whole = (refl, refl, refl, refl);
      first = refl;
      bucket = config.0;
      placed = config.1;
      tenured = refl;
      fits = omega (arith, sound.within config.0.dept);
      noted = tt;
    }

step_allowed : (v : Vault) (b : List ℕ) (t : ℕ) (k : List ℕ) (s : Step) → MayRun v b t → IsStepOf (entries_of v b k) s → (is_mark s ≡ true → next_id v ≤ most_ids) → Allows v t (change_at v b t k s)
step_allowed v b t k (Mark r) may of few = marker_allowed v t b k _ may.sound may.there (few refl)
step_allowed v b t k (Remove i r) may of few = record { now = refl; held = is_held_id v b k i may.sound of }
step_allowed v b t k (RemoveLone i r) may of few = record { now = refl; held = is_held_id v b k i may.sound of }

-- ---- how many changes the histories took: one to admit an entry, and one more to remove it

abbrev taken_by : Bool → ℕ
taken_by true = 1
taken_by false = 2

abbrev pub changes_in : List History → ℕ
changes_in [] = 0
changes_in (h ∷ hs) = taken_by (is_held h.entry) + changes_in hs

pub changes_few : (hs : List History) → changes_in hs ≤ 2 * length hs
changes_few [] = omega arith
changes_few (h ∷ hs) = cases (is_held h.entry) (changes_few hs)
  where
    cases : (c : Bool) → changes_in hs ≤ 2 * length hs → taken_by c + changes_in hs ≤ 2 * length (h ∷ hs)
    cases true few = omega (arith, few)
    cases false few = omega (arith, few)

changes_admitted : (hs : List History) (h : History) → changes_in hs + 1 ≤ changes_in (hs ++ h ∷ [])
changes_admitted [] h = cases (is_held h.entry)
  where
    cases : (c : Bool) → 0 + 1 ≤ taken_by c + 0
    cases true = omega arith
    cases false = omega arith
changes_admitted (g ∷ hs) h = let ih = changes_admitted hs h in omega (arith, ih)

removed_no_less : (i : ℕ) (r : Removal) (h : History) → taken_by (is_held h.entry) ≤ taken_by (is_held (removed_if i r h).entry)
removed_no_less i r h = cases (h.entry.id == i) (is_held h.entry) refl
  where
    cases : (c x : Bool) → is_held h.entry ≡ x → taken_by x ≤ taken_by (is_held (if c then removed_by r h else h).entry)
    cases true true e = omega arith
    cases true false e = omega arith
    cases false x e = subst (λ y. taken_by x ≤ taken_by y) (sym e) (omega arith)

removals_no_less : (i : ℕ) (r : Removal) (hs : List History) → changes_in hs ≤ changes_in (map (removed_if i r) hs)
removals_no_less i r [] = omega arith
removals_no_less i r (h ∷ hs) = let ih = removals_no_less i r hs in let one = removed_no_less i r h in omega (arith, ih, one)

same_id : (n i : ℕ) → n ≡ i → (n == i) ≡ true
same_id n i e = grind (arith, e)

removed_more : (b k : List ℕ) (i : ℕ) (r : Removal) (hs : List History) → HasId i (entries_in b k hs) → changes_in hs + 1 ≤ changes_in (map (removed_if i r) hs)
removed_more b k i r [] has = absurd has
removed_more b k i r (h ∷ hs) has = cases (is_held_at b k h.entry) refl (subst (HasId i) (entries_in-cons b k h hs) has) (removed_more b k i r hs)
  where
    here : is_held h.entry ≡ true → h.entry.id ≡ i → taken_by (is_held h.entry) + 1 ≤ taken_by (is_held (removed_if i r h).entry)
    here held s =
        subst (λ c. taken_by (is_held h.entry) + 1 ≤ taken_by (is_held (if c then removed_by r h else h).entry)) (sym (same_id h.entry.id i s))
        (subst (λ x. taken_by x + 1 ≤ 2) (sym held) (omega arith))

    cases : (c : Bool) → is_held_at b k h.entry ≡ c → HasId i (put_if c (held_of h) (entries_in b k hs))
        → (HasId i (entries_in b k hs) → changes_in hs + 1 ≤ changes_in (map (removed_if i r) hs))
        → changes_in (h ∷ hs) + 1 ≤ changes_in (map (removed_if i r) (h ∷ hs))
    cases true e g ih =
        ⊎_elim (λ (s : h.entry.id ≡ i).
        let held = (all_three (bytes_eq h.entry.bucket b) (bytes_eq h.entry.key k) (is_held h.entry) e).2 in
        omega (arith, here held s, removals_no_less i r hs))
        (λ (q : HasId i (entries_in b k hs)). omega (arith, ih q, removed_no_less i r h)) g
    cases false e g ih = omega (arith, ih g, removed_no_less i r h)

step_counts : (v : Vault) (b : List ℕ) (t : ℕ) (k : List ℕ) (s : Step) → IsStepOf (entries_of v b k) s → changes_in v.histories + 1 ≤ changes_in (changed v t (change_at v b t k s)).histories
step_counts v b t k (Mark r) of = changes_admitted v.histories _
step_counts v b t k (Remove i r) of = removed_more b k i _ v.histories of
step_counts v b t k (RemoveLone i r) of = removed_more b k i _ v.histories of

-- ---- the ids that a step takes

abbrev pub ids_of : Bool → ℕ
ids_of true = 1
ids_of false = 0

length_removed : (i : ℕ) (r : Removal) (hs : List History) → length (map (removed_if i r) hs) ≡ length hs + 0
length_removed i r hs = omega (arith, length-map hs (removed_if i r))

step_takes : (v : Vault) (b : List ℕ) (t : ℕ) (k : List ℕ) (s : Step) → length (changed v t (change_at v b t k s)).histories ≡ length v.histories + ids_of (is_mark s)
step_takes v b t k (Mark r) = length-append v.histories _
step_takes v b t k (Remove i r) = length_removed i _ v.histories
step_takes v b t k (RemoveLone i r) = length_removed i _ v.histories

pub count_first : (p : Planned) (ps : List Planned) → count_by (λ q. is_mark q.step) (p ∷ ps) ≡ ids_of (is_mark p.step) + count_by (λ q. is_mark q.step) ps
count_first p ps = sum_by-cons (λ q. cond (is_mark q.step) 1 0) p ps ∙ ap (λ n. n + count_by (λ q. is_mark q.step) ps) (cases (is_mark p.step))
  where
    cases : (c : Bool) → cond c 1 0 ≡ ids_of c
    cases true = refl
    cases false = refl

-- the first of the steps finds its id, and so do the others
first_id : (m : Bool) (n : ℕ) (p : Planned) (ps : List Planned)
    → (if m then (if nat_lt n most_ids then p ∷ with_ids (n + 1) ps else []) else p ∷ with_ids n ps) ≡ p ∷ ps
    → (m ≡ true → n + 1 ≤ most_ids) × (with_ids (n + ids_of m) ps ≡ ps)
first_id true n p ps e = cases (nat_lt n most_ids) refl e
  where
    cases : (c : Bool) → nat_lt n most_ids ≡ c → (if c then p ∷ with_ids (n + 1) ps else []) ≡ p ∷ ps → (true ≡ true → n + 1 ≤ most_ids) × (with_ids (n + 1) ps ≡ ps)
    cases true f g = (λ _. omega (arith, less_of_test n most_ids f), cc g)
    cases false f g = absurd (cc g)
first_id false n p ps e =
    let rest : with_ids n ps ≡ ps = cc e in
    (λ f. absurd (cc f), subst (λ i. with_ids i ps ≡ ps) (omega arith) rest)

-- ---- one step

pub record IsStepped (v : Vault) (b : List ℕ) (t : ℕ) (ks : List (List ℕ)) (p : Planned) (ps : List Planned) : Type 0 where
  pub allowed : Allows v t (change_of v b t p)
  pub may : MayRun (changed v t (change_of v b t p)) b t
  pub rest : plans_at (changed v t (change_of v b t p)) b t ks ≡ ps
  pub counted : changes_in v.histories + 1 ≤ changes_in (changed v t (change_of v b t p)).histories

module _ (v : Vault) (b : List ℕ) (t : ℕ) (ks : List (List ℕ)) (may : MayRun v b t) (rising : IsRising ks) where
  is_step : (p : Planned) (ps : List Planned) → plans_at v b t ks ≡ p ∷ ps → IsStepOf (entries_of v b p.key) p.step
  is_step p ps e = step_of (rules_in v b) b t may.rules v ks p (orderly v b t may) (first_of (rules_in v b) b t may.rules v ks p ps e)

  pub first_allowed : (p : Planned) (ps : List Planned) → plans_at v b t ks ≡ p ∷ ps → (is_mark p.step ≡ true → next_id v ≤ most_ids) → Allows v t (change_of v b t p)
  first_allowed p ps e few = step_allowed v b t p.key p.step may (is_step p ps e) few

  pub stepped : (p : Planned) (ps : List Planned) → plans_at v b t ks ≡ p ∷ ps → (is_mark p.step ≡ true → next_id v ≤ most_ids) → IsStepped v b t ks p ps
  stepped p ps e few =
      let v' = changed v t (change_of v b t p) in
      let allowed = first_allowed p ps e few in record {
        allowed = allowed;
        may = record {
          sound = Sound-changed v t (change_of v b t p) may.sound may.in_time allowed;
          in_time = omega (arith, last_is v b t p);
          there = subst (λ bs. IsSome (config_in bs b)) (sym (buckets_stay v b t (p ∷ []))) may.there;
          rules = subst (λ rs. IsTrue (are_rules rs)) (sym (rules_stay v b t (p ∷ []))) may.rules;
        };
        rest =
            ap (λ rs. key_plans rs v' b t ks) (rules_stay v b t (p ∷ []))
            ∙ one_step (rules_in v b) b t may.rules v ks p ps (apart ks rising) (orderly v b t may) e;
        counted = step_counts v b t p.key p.step (is_step p ps e);
      }

  pub taken : (p : Planned) → length (changed v t (change_of v b t p)).histories ≡ length v.histories + ids_of (is_mark p.step)
  taken p = step_takes v b t p.key p.step

  pub has_id : (p : Planned) (ps : List Planned) → HaveIds v (p ∷ ps) → (is_mark p.step ≡ true → next_id v ≤ most_ids) × HaveIds (changed v t (change_of v b t p)) ps
  has_id p ps e =
      let h = first_id (is_mark p.step) (length v.histories) p ps e in
      (h.0, subst (λ n. with_ids n ps ≡ ps) (sym (taken p)) h.1)
