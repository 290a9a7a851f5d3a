-- The steps of a key's plan, whatever id the new marker gets.
use Rattle.std.proofs.Common.{◌≡◌, ◌⊎◌, ℕ, suc, ◌<◌, ◌++◌, ◌==◌, false, nat_lt, IsTrue, List, [], ◌∷◌, length, Option, Some, None, refl, sym, ap, subst, ◌∙◌, arith, cond, inl, inr, append_assoc, length-append}
use Rattle.std.specs.Prelude.{not, ◌||◌}
use Rattle.std.specs.List.{list_all}
use Rattle.std.proofs.lemmas.Bool.Decides.{nat_tests}
use Rattle.vault_rules.specs.declared.rule.Rule.{Rule}
use Rattle.vault_rules.specs.declared.plan.Held.{Held}
use Rattle.vault_rules.specs.declared.plan.Step.{Step}
use Rattle.vault_rules.specs.declared.plan.Step.TheVariants.{Mark, Remove, RemoveLone}
use Rattle.vault_rules.specs.Rules.{is_rule_set, are_rules}
use Rattle.vault_rules.specs.KeyPlan.{id_above, key_plan, removal_steps, lone_steps, kept}
use Rattle.vault_rules.specs.Walk.{Dues, dues, unless, last_mark, marker_at, marked_by, removal, mark_step, remove_step, lone_step, removals, keep_if, left_over, lone_removal, later_phases, walk}
use Rattle.vault_rules.proofs.Fit.{IsFit, fit}
use Rattle.vault_rules.proofs.Lasts.{IsLong, left_long, walk_unmarked}
use Rattle.vault_rules.proofs.Sets.{removals_from, kept_from, lone_is, rise_push, key_plan-walk}
use Rattle.vault_rules.specs.KeyRepeats.{without, held_after}
use Rattle.vault_rules.proofs.KeyRepeat.{IsBelow, IsInOrder, rises, one_step, mark_none, left_all, without_first, without_other, order_without}

-- no rules make nothing due
none_fit : (key : List ℕ) (t : ℕ) → IsFit (dues [] key t) t
none_fit key t = record {
  falling = λ size since later rank lower a b e. refl;
  fresh = λ size rank. refl;
}

pub fit_any : (rules : List Rule) (key : List ℕ) (t : ℕ) → IsTrue (are_rules rules) → IsFit (dues rules key t) t
fit_any [] key t h = none_fit key t
fit_any (r ∷ rs) key t h = fit (r ∷ rs) key t (some_rules (length rs) h)
  where
    some_rules : (n : ℕ) → IsTrue ((suc n == 0) || is_rule_set (r ∷ rs)) → IsTrue (is_rule_set (r ∷ rs))
    some_rules n e = grind (arith, nat_tests)

-- ---- the marker's id doesn't matter

removal_push : (d : Dues) (x : Held) (xs : List Held) (m n t : ℕ) → removal d x (xs ++ marker_at m t ∷ []) ≡ removal d x (xs ++ marker_at n t ∷ [])
removal_push d x [] m n t = refl
removal_push d x (y ∷ ys) m n t = ap (λ l. unless (d.locked x.lock) (d.noncurrent x.size y.admitted l)) (length-append ys (marker_at m t ∷ []) ∙ sym (length-append ys (marker_at n t ∷ [])))

removals_push : (d : Dues) (xs : List Held) (m n t : ℕ) → removals d (xs ++ marker_at m t ∷ []) ≡ removals d (xs ++ marker_at n t ∷ [])
removals_push d [] m n t = refl
removals_push d (x ∷ xs) m n t = ap (λ o. remove_step x.id o ++ removals d (xs ++ marker_at m t ∷ [])) (removal_push d x xs m n t) ∙ ap (λ l. remove_step x.id (removal d x (xs ++ marker_at n t ∷ [])) ++ l) (removals_push d xs m n t)

long_none : (d : Dues) (l : List Held) → IsLong l → lone_removal d l ≡ []
long_none d l h = ap (lone_removal d) h.3

later_push : (d : Dues) (t : ℕ) → IsFit d t → (x : Held) (xs : List Held) (m n : ℕ) → later_phases d (x ∷ xs ++ marker_at m t ∷ []) ≡ later_phases d (x ∷ xs ++ marker_at n t ∷ [])
later_push d t f x xs m n =
    ap (λ l. l ++ lone_removal d (left_over d (x ∷ xs ++ marker_at m t ∷ []))) (removals_push d (x ∷ xs) m n t)
    ∙ ap (λ l. removals d (x ∷ xs ++ marker_at n t ∷ []) ++ l) (long_none d _ (left_long d t f x xs m) ∙ sym (long_none d _ (left_long d t f x xs n)))

-- the entries after the first phase, where the marker has that id
abbrev pub marked_with : ℕ → ℕ → Option ℕ → List Held → List Held
marked_with id t None hs = hs
marked_with id t (Some r) hs = hs ++ marker_at id t ∷ []

pub later_any : (d : Dues) (t : ℕ) → IsFit d t → (id : ℕ) (hs : List Held) → later_phases d (marked_with id t (last_mark d hs) hs) ≡ later_phases d (marked_by t (last_mark d hs) hs)
later_any d t f id [] = refl
later_any d t f id (x ∷ xs) = cases (last_mark d (x ∷ xs))
  where
    cases : (o : Option ℕ) → later_phases d (marked_with id t o (x ∷ xs)) ≡ later_phases d (marked_by t o (x ∷ xs))
    cases None = refl
    cases (Some r) = later_push d t f x xs id (id_above (x ∷ xs))

-- ---- a step

-- the entries after a step, where a new marker has that id
abbrev pub made_with : ℕ → ℕ → List Held → Step → List Held
made_with id t hs (Mark r) = hs ++ marker_at id t ∷ []
made_with id t hs (Remove i r) = without i hs
made_with id t hs (RemoveLone i r) = without i hs

push_same : (d : Dues) (t : ℕ) → IsFit d t → (id r : ℕ) (hs : List Held) (ss : List Step) → walk d t hs ≡ Mark r ∷ ss → walk d t (hs ++ marker_at id t ∷ []) ≡ walk d t (hs ++ marker_at (id_above hs) t ∷ [])
push_same d t f id r [] ss e = absurd (cc)
push_same d t f id r (x ∷ xs) ss e =
    let n = id_above (x ∷ xs) in
    walk_unmarked d t (x ∷ xs ++ marker_at id t ∷ []) (mark_none d (x ∷ xs) id t)
    ∙ (later_push d t f x xs id n
    ∙ sym (walk_unmarked d t (x ∷ xs ++ marker_at n t ∷ []) (mark_none d (x ∷ xs) n t)))

module _ (rules : List Rule) (key : List ℕ) (t : ℕ) (f : IsFit (dues rules key t) t) where
  pub step_with : (id : ℕ) (hs : List Held) (s : Step) (ss : List Step) → IsInOrder hs → IsTrue (list_all (λ x. nat_lt x.id id) hs) → key_plan rules key hs t ≡ s ∷ ss → key_plan rules key (made_with id t hs s) t ≡ ss
  step_with id hs s ss o b e = cases s refl
    where
      walked : walk (dues rules key t) t hs ≡ s ∷ ss
      walked = sym (key_plan-walk rules key t hs (rises hs o)) ∙ e

      stepped : walk (dues rules key t) t (held_after t hs s) ≡ ss
      stepped = one_step (dues rules key t) f.falling t hs s ss o walked

      cases : (u : Step) → s ≡ u → key_plan rules key (made_with id t hs u) t ≡ ss
      cases (Mark r) n =
          key_plan-walk rules key t (hs ++ marker_at id t ∷ []) (rise_push hs (marker_at id t) (rises hs o) b)
          ∙ (push_same (dues rules key t) t f id r hs ss (walked ∙ ap (λ u. u ∷ ss) n)
          ∙ (ap (λ u. walk (dues rules key t) t (held_after t hs u)) (sym n) ∙ stepped))
      cases (Remove i r) n =
          key_plan-walk rules key t (without i hs) (rises (without i hs) (order_without i hs o))
          ∙ (ap (λ u. walk (dues rules key t) t (held_after t hs u)) (sym n) ∙ stepped)
      cases (RemoveLone i r) n =
          key_plan-walk rules key t (without i hs) (rises (without i hs) (order_without i hs o))
          ∙ (ap (λ u. walk (dues rules key t) t (held_after t hs u)) (sym n) ∙ stepped)

-- ---- which entry a step removes

abbrev pub HasId : ℕ → List Held → Type 0
HasId i [] = ⊥
HasId i (x ∷ xs) = (x.id ≡ i) ⊎ HasId i xs

-- what the step removes is among these
abbrev pub IsStepOf : List Held → Step → Type 0
IsStepOf hs (Mark r) = Unit {0}
IsStepOf hs (Remove i r) = HasId i hs
IsStepOf hs (RemoveLone i r) = HasId i hs

has_more : (x : Held) (xs : List Held) (s : Step) → IsStepOf xs s → IsStepOf (x ∷ xs) s
has_more x xs (Mark r) h = tt
has_more x xs (Remove i r) h = inr h
has_more x xs (RemoveLone i r) h = inr h

removals_of : (d : Dues) (hs : List Held) (s : Step) (ss : List Step) → removals d hs ≡ s ∷ ss → IsStepOf hs s
removals_of d [] s ss e = absurd (cc)
removals_of d (x ∷ xs) s ss e = cases (removal d x xs) refl (removals_of d xs s ss)
  where
    cases : (o : Option ℕ) → removal d x xs ≡ o → (removals d xs ≡ s ∷ ss → IsStepOf xs s) → IsStepOf (x ∷ xs) s
    cases None n ih = has_more x xs s (ih (ap (λ t. remove_step x.id t ++ removals d xs) (sym n) ∙ e))
    cases (Some q) n ih =
        let h : Remove x.id q ∷ removals d xs ≡ s ∷ ss = ap (λ t. remove_step x.id t ++ removals d xs) (sym n) ∙ e in
        let same : Remove x.id q ≡ s = cc in
        subst (IsStepOf (x ∷ xs)) same (inl refl)

lone_of : (d : Dues) (hs : List Held) (s : Step) (ss : List Step) → lone_removal d hs ≡ s ∷ ss → IsStepOf hs s
lone_of d [] s ss e = absurd (cc)
lone_of d (x ∷ y ∷ ys) s ss e = absurd (cc)
lone_of d (x ∷ []) s ss e = cases (unless (not x.marker) (d.lone x.size x.admitted)) e
  where
    cases : (o : Option ℕ) → lone_step x.id o ≡ s ∷ ss → IsStepOf (x ∷ []) s
    cases None h = absurd (cc)
    cases (Some r) h = let same : RemoveLone x.id r ≡ s = cc in subst (IsStepOf (x ∷ [])) same (inl refl)

later_of : (d : Dues) (hs : List Held) (s : Step) (ss : List Step) → later_phases d hs ≡ s ∷ ss → IsStepOf hs s
later_of d hs s ss e = cases (removals d hs) refl
  where
    cases : (rs : List Step) → removals d hs ≡ rs → IsStepOf hs s
    cases [] n = lone_of d hs s ss (ap (lone_removal d) (sym (left_all d hs n)) ∙ (ap (λ l. l ++ lone_removal d (left_over d hs)) (sym n) ∙ e))
    cases (u ∷ us) n =
        let h : u ∷ (us ++ lone_removal d (left_over d hs)) ≡ s ∷ ss = ap (λ l. l ++ lone_removal d (left_over d hs)) (sym n) ∙ e in
        let same : u ≡ s = cc in
        removals_of d hs s us (n ∙ ap (λ v. v ∷ us) same)

walk_of : (d : Dues) (t : ℕ) (hs : List Held) (s : Step) (ss : List Step) → walk d t hs ≡ s ∷ ss → IsStepOf hs s
walk_of d t hs s ss e = cases (last_mark d hs) refl
  where
    cases : (o : Option ℕ) → last_mark d hs ≡ o → IsStepOf hs s
    cases None m = later_of d hs s ss (sym (walk_unmarked d t hs m) ∙ e)
    cases (Some r) m =
        let h : Mark r ∷ later_phases d (hs ++ marker_at (id_above hs) t ∷ []) ≡ s ∷ ss = ap (λ o. mark_step o ++ later_phases d (marked_by t o hs)) (sym m) ∙ e in
        let same : Mark r ≡ s = cc in
        subst (IsStepOf hs) same tt

pub plan_of : (rules : List Rule) (key : List ℕ) (t : ℕ) (hs : List Held) (s : Step) (ss : List Step) → IsInOrder hs → key_plan rules key hs t ≡ s ∷ ss → IsStepOf hs s
plan_of rules key t hs s ss o e = walk_of (dues rules key t) t hs s ss (sym (key_plan-walk rules key t hs (rises hs o)) ∙ e)

-- ---- the removals of the second phase, one after another

-- the entries without those that these steps remove
abbrev pub withouts : List Held → List Step → List Held
withouts hs [] = hs
withouts hs (Mark r ∷ ss) = withouts hs ss
withouts hs (Remove i r ∷ ss) = withouts (without i hs) ss
withouts hs (RemoveLone i r ∷ ss) = withouts hs ss

-- no entry has that id
abbrev pub AllNot : ℕ → List Held → Type 0
AllNot i [] = Unit {0}
AllNot i (x ∷ xs) = ((x.id == i) ≡ false) × AllNot i xs

pub without_absent : (i : ℕ) (hs : List Held) → AllNot i hs → without i hs ≡ hs
without_absent i [] a = refl
without_absent i (x ∷ xs) a = ap (λ c. cond (not c) (x ∷ without i xs) (without i xs)) a.0 ∙ ap (λ l. x ∷ l) (without_absent i xs a.1)

-- each of these steps removes what isn't there
abbrev pub AreElsewhere : List Step → List Held → Type 0
AreElsewhere [] hs = Unit {0}
AreElsewhere (Mark r ∷ ss) hs = AreElsewhere ss hs
AreElsewhere (Remove i r ∷ ss) hs = AllNot i hs × AreElsewhere ss hs
AreElsewhere (RemoveLone i r ∷ ss) hs = AreElsewhere ss hs

pub withouts_elsewhere : (ss : List Step) (hs : List Held) → AreElsewhere ss hs → withouts hs ss ≡ hs
withouts_elsewhere [] hs a = refl
withouts_elsewhere (Mark r ∷ ss) hs a = withouts_elsewhere ss hs a
withouts_elsewhere (Remove i r ∷ ss) hs a = ap (λ l. withouts l ss) (without_absent i hs a.0) ∙ withouts_elsewhere ss hs a.1
withouts_elsewhere (RemoveLone i r ∷ ss) hs a = withouts_elsewhere ss hs a

-- x leaves its place after those before it
without_middle : (before : List Held) (x : Held) (after : List Held) → IsInOrder (before ++ x ∷ after) → without x.id (before ++ x ∷ after) ≡ before ++ after
without_middle [] x after o = without_first x after o.0
without_middle (b ∷ bs) x after o = without_other x.id b (bs ++ x ∷ after) (below b bs o.0) ∙ ap (λ l. b ∷ l) (without_middle bs x after o.1)
  where
    below : (w : Held) (l : List Held) → IsBelow w (l ++ x ∷ after) → w.id < x.id
    below w [] h = h.0
    below w (y ∷ ys) h = below w ys h.2

order_middle : (before : List Held) (x : Held) (after : List Held) → IsInOrder (before ++ x ∷ after) → IsInOrder (before ++ after)
order_middle [] x after o = o.1
order_middle (b ∷ bs) x after o = (below b bs o.0, order_middle bs x after o.1)
  where
    below : (w : Held) (l : List Held) → IsBelow w (l ++ x ∷ after) → IsBelow w (l ++ after)
    below w [] h = h.2
    below w (y ∷ ys) h = (h.0, h.1, below w ys h.2)

removed_in_turn : (d : Dues) (before l : List Held) → IsInOrder (before ++ l) → withouts (before ++ l) (removals d l) ≡ before ++ left_over d l
removed_in_turn d before [] o = refl
removed_in_turn d before (x ∷ xs) o = cases (removal d x xs) (removed_in_turn d (before ++ x ∷ []) xs) (removed_in_turn d before xs)
  where
    cases : (r : Option ℕ)
        → (IsInOrder ((before ++ x ∷ []) ++ xs) → withouts ((before ++ x ∷ []) ++ xs) (removals d xs) ≡ (before ++ x ∷ []) ++ left_over d xs)
        → (IsInOrder (before ++ xs) → withouts (before ++ xs) (removals d xs) ≡ before ++ left_over d xs)
        → withouts (before ++ x ∷ xs) (remove_step x.id r ++ removals d xs) ≡ before ++ keep_if x r (left_over d xs)
    cases None kept gone =
        let e = append_assoc before (x ∷ []) xs in
        ap (λ l. withouts l (removals d xs)) (sym e) ∙ (kept (subst IsInOrder (sym e) o) ∙ append_assoc before (x ∷ []) (left_over d xs))
    cases (Some q) kept gone =
        ap (λ l. withouts l (removals d xs)) (without_middle before x xs o) ∙ gone (order_middle before x xs o)

module _ (rules : List Rule) (key : List ℕ) (t : ℕ) where
  -- they leave what the second phase keeps
  pub withouts-kept : (hs : List Held) → IsInOrder hs → withouts hs (removal_steps rules key t hs) ≡ kept rules key t hs
  withouts-kept hs o =
      ap (withouts hs) (removals_from rules key t hs [] hs refl (rises hs o))
      ∙ (removed_in_turn (dues rules key t) [] hs o ∙ sym (kept_from rules key t hs [] hs refl (rises hs o)))

  -- the later phases by sets
  pub later-walk : (hs : List Held) → IsInOrder hs → removal_steps rules key t hs ++ lone_steps rules key t (kept rules key t hs) ≡ later_phases (dues rules key t) hs
  later-walk hs o =
      ap (λ l. l ++ lone_steps rules key t (kept rules key t hs)) (removals_from rules key t hs [] hs refl (rises hs o))
      ∙ ap (λ l. removals (dues rules key t) hs ++ l) (ap (lone_steps rules key t) (kept_from rules key t hs [] hs refl (rises hs o)) ∙ lone_is rules key t (left_over (dues rules key t) hs))

-- all removals of a list are of its entries
abbrev pub AreStepsOf : List Held → List Step → Type 0
AreStepsOf hs [] = Unit {0}
AreStepsOf hs (s ∷ ss) = IsStepOf hs s × AreStepsOf hs ss

steps_more : (x : Held) (xs : List Held) (ss : List Step) → AreStepsOf xs ss → AreStepsOf (x ∷ xs) ss
steps_more x xs [] h = tt
steps_more x xs (s ∷ ss) h = (has_more x xs s h.0, steps_more x xs ss h.1)

all_removals_of : (d : Dues) (hs : List Held) → AreStepsOf hs (removals d hs)
all_removals_of d [] = tt
all_removals_of d (x ∷ xs) = cases (removal d x xs) (steps_more x xs (removals d xs) (all_removals_of d xs))
  where
    cases : (o : Option ℕ) → AreStepsOf (x ∷ xs) (removals d xs) → AreStepsOf (x ∷ xs) (remove_step x.id o ++ removals d xs)
    cases None h = h
    cases (Some r) h = (inl refl, h)

pub removal_steps_of : (rules : List Rule) (key : List ℕ) (t : ℕ) (hs : List Held) → IsInOrder hs → AreStepsOf hs (removal_steps rules key t hs)
removal_steps_of rules key t hs o = subst (AreStepsOf hs) (sym (removals_from rules key t hs [] hs refl (rises hs o))) (all_removals_of (dues rules key t) hs)
