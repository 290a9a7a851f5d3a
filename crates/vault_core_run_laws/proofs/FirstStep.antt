-- The first step of a plan removes nothing that is locked.
use Rattle.std.proofs.Common.{◌≡◌, ◌⊎◌, ℕ, ◌++◌, Bool, true, false, List, [], ◌∷◌, Option, Some, None, refl, sym, ap, subst, ◌∙◌, inl, inr}
use Rattle.std.specs.Prelude.{◌==◌, find, not}
use Rattle.std.specs.List.{AllByRecursion}
use Rattle.vault_lock.specs.Lock.{is_locked}
use Rattle.vault_rules.specs.declared.plan.Held.{Held}
use Rattle.vault_rules.specs.declared.plan.Step.{Step}
use Rattle.vault_rules.specs.declared.plan.Step.TheVariants.{Mark, Remove, RemoveLone}
use Rattle.vault_rules.specs.KeyPlan.{Planned, id_above}
use Rattle.vault_rules.specs.Walk.{Dues, dues, unless, last_mark, marker_at, marked_by, removal, mark_step, remove_step, lone_step, removals, left_over, lone_removal, later_phases, walk}
use Rattle.vault_rules.proofs.KeyRepeat.{rises, left_all}
use Rattle.vault_rules.proofs.Lasts.{walk_unmarked}
use Rattle.vault_rules.proofs.Sets.{key_plan-walk}
use Rattle.vault_core_model.specs.declared.records.History.{History}
use Rattle.vault_core_model.specs.declared.records.Setting.{Setting}
use Rattle.vault_core_model.specs.Vault.{Vault, last_lock}
use Rattle.vault_core_model.specs.Places.{is_held_at}
use Rattle.vault_core_model.specs.Reads.{held_of, entries_of}
use Rattle.vault_core_model.specs.Sound.{IsWhole, IsWholeAs, Sound}
use Rattle.vault_core_model.specs.Plan.{rules_in}
use Rattle.vault_core_laws.proofs.Newest.{finds_itself}
use Rattle.vault_core_run_laws.specs.KeyRuns.{MayRun, plans_at}
use Rattle.vault_core_run_laws.specs.RunLaws.{IsFree, RemovesFree}
use Rattle.vault_core_run_laws.proofs.Entries.{put_if, entries_in, entries_in-cons, order_entries}
use Rattle.vault_core_run_laws.proofs.OnePlan.{first_of}
use Rattle.vault_core_run_laws.proofs.Steps.{orderly}

-- ---- at a key

-- an entry of that id isn't locked, or is a marker
abbrev FreeIn : Dues → ℕ → List Held → Type 0
FreeIn d i [] = ⊥
FreeIn d i (x ∷ xs) = ((x.id ≡ i) × ((d.locked x.lock ≡ false) ⊎ (x.marker ≡ true))) ⊎ FreeIn d i xs

abbrev Frees : Dues → List Held → Step → Type 0
Frees d hs (Mark r) = Unit {0}
Frees d hs (Remove i r) = FreeIn d i hs
Frees d hs (RemoveLone i r) = FreeIn d i hs

frees_more : (d : Dues) (x : Held) (xs : List Held) (s : Step) → Frees d xs s → Frees d (x ∷ xs) s
frees_more d x xs (Mark r) h = tt
frees_more d x xs (Remove i r) h = inr h
frees_more d x xs (RemoveLone i r) h = inr h

not_locked : (b : Bool) (o : Option ℕ) (q : ℕ) → unless b o ≡ Some q → b ≡ false
not_locked true o q e = absurd (cc e)
not_locked false o q e = refl

removal_free : (d : Dues) (x : Held) (xs : List Held) (q : ℕ) → removal d x xs ≡ Some q → d.locked x.lock ≡ false
removal_free d x [] q e = absurd (cc e)
removal_free d x (y ∷ ys) q e = not_locked (d.locked x.lock) (d.noncurrent x.size y.admitted _) q e

removals_free : (d : Dues) (hs : List Held) (s : Step) (ss : List Step) → removals d hs ≡ s ∷ ss → Frees d hs s
removals_free d [] s ss e = absurd (cc e)
removals_free d (x ∷ xs) s ss e = cases (removal d x xs) refl (removals_free d xs s ss)
  where
    cases : (o : Option ℕ) → removal d x xs ≡ o → (removals d xs ≡ s ∷ ss → Frees d xs s) → Frees d (x ∷ xs) s
    cases None n ih = frees_more d x xs s (ih (ap (λ t. remove_step x.id t ++ removals d xs) (sym n) ∙ e))
    cases (Some q) n ih =
        let h : Remove x.id q ∷ removals d xs ≡ s ∷ ss = ap (λ t. remove_step x.id t ++ removals d xs) (sym n) ∙ e in
        let same : Remove x.id q ≡ s = cc in
        subst (Frees d (x ∷ xs)) same (inl (refl, inl (removal_free d x xs q n)))

is_marker : (b : Bool) (o : Option ℕ) (q : ℕ) → unless (not b) o ≡ Some q → b ≡ true
is_marker true o q e = refl
is_marker false o q e = absurd (cc e)

lone_free : (d : Dues) (hs : List Held) (s : Step) (ss : List Step) → lone_removal d hs ≡ s ∷ ss → Frees d hs s
lone_free d [] s ss e = absurd (cc e)
lone_free d (x ∷ y ∷ ys) s ss e = absurd (cc e)
lone_free d (x ∷ []) s ss e = cases (unless (not x.marker) (d.lone x.size x.admitted)) refl e
  where
    cases : (o : Option ℕ) → unless (not x.marker) (d.lone x.size x.admitted) ≡ o → lone_step x.id o ≡ s ∷ ss → Frees d (x ∷ []) s
    cases None n h = absurd (cc h)
    cases (Some r) n h = let same : RemoveLone x.id r ≡ s = cc in subst (Frees d (x ∷ [])) same (inl (refl, inr (is_marker x.marker (d.lone x.size x.admitted) r n)))

later_free : (d : Dues) (hs : List Held) (s : Step) (ss : List Step) → later_phases d hs ≡ s ∷ ss → Frees d hs s
later_free d hs s ss e = cases (removals d hs) refl
  where
    cases : (rs : List Step) → removals d hs ≡ rs → Frees d hs s
    cases [] n = lone_free d hs s ss (ap (lone_removal d) (sym (left_all d hs n)) ∙ (ap (λ l. l ++ lone_removal d (left_over d hs)) (sym n) ∙ e))
    cases (u ∷ us) n =
        let h : u ∷ (us ++ lone_removal d (left_over d hs)) ≡ s ∷ ss = ap (λ l. l ++ lone_removal d (left_over d hs)) (sym n) ∙ e in
        let same : u ≡ s = cc in
        removals_free d hs s us (n ∙ ap (λ v. v ∷ us) same)

walk_free : (d : Dues) (t : ℕ) (hs : List Held) (s : Step) (ss : List Step) → walk d t hs ≡ s ∷ ss → Frees d hs s
walk_free d t hs s ss e = cases (last_mark d hs) refl
  where
    cases : (o : Option ℕ) → last_mark d hs ≡ o → Frees d hs s
    cases None m = later_free d hs s ss (sym (walk_unmarked d t hs m) ∙ e)
    cases (Some r) m =
        let h : Mark r ∷ later_phases d (hs ++ marker_at (id_above hs) t ∷ []) ≡ s ∷ ss = ap (λ o. mark_step o ++ later_phases d (marked_by t o hs)) (sym m) ∙ e in
        let same : Mark r ≡ s = cc in
        subst (Frees d hs) same tt

-- ---- in the vault

bare : (external : Bool) (h : History) (marker : Bool) → marker ≡ true → IsWholeAs marker external h.entry h.content h.settings → h.settings ≡ []
bare external h true e whole = whole.3
bare external h false e whole = absurd (cc e)

-- a marker has no lock
unlocked : (external : Bool) (h : History) (t : ℕ) → IsWhole external h → (is_locked (last_lock h.settings) t ≡ false) ⊎ (h.entry.marker ≡ true) → is_locked (last_lock h.settings) t ≡ false
unlocked external h t whole (inl free) = free
unlocked external h t whole (inr marker) =
    let P : List Setting → Type 0 = λ ss. is_locked (last_lock ss) t ≡ false in subst P (sym (bare external h h.entry.marker marker whole)) refl

module _ (v : Vault) (b k : List ℕ) (t : ℕ) (sound : Sound v) where
  abbrev d : Dues
  d = dues (rules_in v b) k t

  free_in : (i : ℕ) (hs : List History) → AllByRecursion (λ y. find (λ h. h.entry.id == y.entry.id) v.histories ≡ Some y) hs → AllByRecursion (IsWhole v.external) hs → FreeIn d i (entries_in b k hs) → IsFree v b k t i
  free_in i [] own whole free = absurd free
  free_in i (h ∷ hs) own whole free = cases (is_held_at b k h.entry) refl (subst (FreeIn d i) (entries_in-cons b k h hs) free) (free_in i hs own.1 whole.1)
    where
      cases : (c : Bool) → is_held_at b k h.entry ≡ c → FreeIn d i (put_if c (held_of h) (entries_in b k hs)) → (FreeIn d i (entries_in b k hs) → IsFree v b k t i) → IsFree v b k t i
      cases true held (inl here) later = record {
        history = h;
        there = subst (λ n. find (λ g. g.entry.id == n) v.histories ≡ Some h) here.0 own.0;
        held = held;
        unlocked = unlocked v.external h t whole.0 here.1;
      }
      cases true held (inr rest) later = later rest
      cases false held rest later = later rest

  is_free : (i : ℕ) → FreeIn d i (entries_of v b k) → IsFree v b k t i
  is_free i free = free_in i v.histories (finds_itself 1 v.histories sound.ids) sound.whole free

  free_step : (s : Step) → Frees d (entries_of v b k) s → RemovesFree v b k t s
  free_step (Mark r) free = tt
  free_step (Remove i r) free = is_free i free
  free_step (RemoveLone i r) free = is_free i free

pub first_free : (v : Vault) (b : List ℕ) (t : ℕ) (ks : List (List ℕ)) (p : Planned) (ps : List Planned) → MayRun v b t → plans_at v b t ks ≡ p ∷ ps → RemovesFree v b p.key t p.step
first_free v b t ks p ps may e =
    let f = first_of (rules_in v b) b t may.rules v ks p ps e in
    let es = entries_of v b p.key in
    let rise = rises es (order_entries b p.key 1 0 t v.histories (orderly v b t may)) in
    free_step v b p.key t may.sound p.step
    (walk_free (dues (rules_in v b) p.key t) t es p.step f.others (sym (key_plan-walk (rules_in v b) p.key t es rise) ∙ f.first))
