-- After some steps of a key's plan, the plan is the rest.
use Rattle.std.proofs.Common.{◌≡◌, ℕ, zero, suc, ◌<◌, ◌≤◌, ◌++◌, ◌&&◌, ◌==◌, Bool, true, false, nat_lt, nat_le, IsTrue, List, [], ◌∷◌, length, Option, Some, None, take, drop, refl, sym, ap, ◌∙◌, arith, cond}
use Rattle.std.specs.Prelude.{not}
use Rattle.std.specs.List.{list_all}
use Rattle.std.proofs.lemmas.Bool.Decides.{nat_tests}
use Rattle.vault_rules.specs.declared.rule.Rule.{Rule}
use Rattle.vault_rules.specs.declared.plan.Held.{Held}
use Rattle.vault_rules.specs.declared.plan.Step.{Step}
use Rattle.vault_rules.specs.declared.plan.Step.TheVariants.{Mark, Remove, RemoveLone}
use Rattle.vault_rules.specs.Rules.{is_rule_set}
use Rattle.vault_rules.specs.KeyPlan.{ids_rise, id_above, key_plan}
use Rattle.vault_rules.specs.KeyRepeats.{without, held_after, held_after_all, is_in_order, Repeats}
use Rattle.vault_rules.specs.Walk.{Dues, dues, unless, last_mark, marker_at, marked_by, removal, mark_step, remove_step, lone_step, removals, keep_if, left_over, lone_removal, later_phases, walk}
use Rattle.vault_rules.proofs.Fit.{IsFalling, fit}
use Rattle.vault_rules.proofs.Lasts.{walk_unmarked}
use Rattle.vault_rules.proofs.Sets.{below_above, key_plan-walk}
use Rattle.vault_rules.proofs.Truth.{both, and_true, less_of_test, le_of_test, test_of_less}

-- x is older than each of these, and was admitted no later
abbrev pub IsBelow : Held → List Held → Type 0
IsBelow x [] = Unit {0}
IsBelow x (y ∷ ys) = (x.id < y.id) × (x.admitted ≤ y.admitted) × IsBelow x ys

-- ids rise and admissions don't go back
abbrev pub IsInOrder : List Held → Type 0
IsInOrder [] = Unit {0}
IsInOrder (x ∷ xs) = IsBelow x xs × IsInOrder xs

-- none was admitted after t
abbrev pub IsUpTo : ℕ → List Held → Type 0
IsUpTo t [] = Unit {0}
IsUpTo t (x ∷ xs) = (x.admitted ≤ t) × IsUpTo t xs

eq_same : (n : ℕ) → not (n == n) ≡ false
eq_same n = grind (arith, nat_tests)

eq_less : (m n : ℕ) → m < n → not (m == n) ≡ true
eq_less m n h = grind (arith, nat_tests)

eq_more : (m n : ℕ) → n < m → not (m == n) ≡ true
eq_more m n h = grind (arith, nat_tests)

-- nothing with a greater id goes
without_below : (x : Held) (l : List Held) → IsBelow x l → without x.id l ≡ l
without_below x [] b = refl
without_below x (y ∷ ys) b = ap (λ c. cond c (y ∷ without x.id ys) (without x.id ys)) (eq_more y.id x.id b.0) ∙ ap (λ l. y ∷ l) (without_below x ys b.2)

pub without_first : (x : Held) (l : List Held) → IsBelow x l → without x.id (x ∷ l) ≡ l
without_first x l b = ap (λ c. cond c (x ∷ without x.id l) (without x.id l)) (eq_same x.id) ∙ without_below x l b

pub without_other : (i : ℕ) (x : Held) (l : List Held) → x.id < i → without i (x ∷ l) ≡ x ∷ without i l
without_other i x l h = ap (λ c. cond c (x ∷ without i l) (without i l)) (eq_less x.id i h)

-- a marker on top is no content
pub mark_none : (d : Dues) (hs : List Held) (id t : ℕ) → last_mark d (hs ++ marker_at id t ∷ []) ≡ None
mark_none d [] id t = refl
mark_none d (x ∷ []) id t = refl
mark_none d (x ∷ y ∷ ys) id t = mark_none d (y ∷ ys) id t

unless_still : (b : Bool) (o p : Option ℕ) → (o ≡ None → p ≡ None) → unless b o ≡ None → unless b p ≡ None
unless_still true o p h e = refl
unless_still false o p h e = h e

still : (d : Dues) → IsFalling d → (x y z : Held) (ys zs : List Held) → removal d x (y ∷ ys) ≡ None → y.admitted ≤ z.admitted → length zs ≤ length ys → removal d x (z ∷ zs) ≡ None
still d f x y z ys zs h a b = unless_still (d.locked x.lock) (d.noncurrent x.size y.admitted (length ys)) (d.noncurrent x.size z.admitted (length zs)) (f x.size y.admitted z.admitted (length ys) (length zs) a b) h

-- the first removal leaves the rest of them, the same survivors and the same current entry
record Stepped (d : Dues) (i : ℕ) (rs : List Step) (x : Held) (xs : List Held) : Type 0 where
  top : Held
  others : List Held
  is : without i (x ∷ xs) ≡ top ∷ others
  admitted : x.admitted ≤ top.admitted
  shorter : length others < length (x ∷ xs)
  rest : removals d (without i (x ∷ xs)) ≡ rs
  same_left : left_over d (without i (x ∷ xs)) ≡ left_over d (x ∷ xs)
  same_mark : last_mark d (without i (x ∷ xs)) ≡ last_mark d (x ∷ xs)
  above : (w : Held) → IsBelow w (x ∷ xs) → w.id < i

-- x goes
first_goes : (d : Dues) (x y : Held) (ys : List Held) (i r q : ℕ) (rs : List Step) → IsInOrder (x ∷ y ∷ ys) → removal d x (y ∷ ys) ≡ Some q → Remove x.id q ∷ removals d (y ∷ ys) ≡ Remove i r ∷ rs → Stepped d i rs x (y ∷ ys)
first_goes d x y ys i r q rs o n e =
    let p : x.id ≡ i = cc in
    let tail : removals d (y ∷ ys) ≡ rs = cc in
    let w : without i (x ∷ y ∷ ys) ≡ y ∷ ys = ap (λ k. without k (x ∷ y ∷ ys)) (sym p) ∙ without_first x (y ∷ ys) o.0 in record {
      top = y;
      others = ys;
      is = w;
      admitted = o.0.1;
      shorter = omega arith;
      rest = ap (removals d) w ∙ tail;
      same_left = ap (left_over d) w ∙ sym (ap (λ t. keep_if x t (left_over d (y ∷ ys))) n);
      same_mark = ap (last_mark d) w;
      above = λ v b. omega (arith, b.0, p);
    }

-- x stays
later_goes : (d : Dues) → IsFalling d → (x y : Held) (ys : List Held) (i : ℕ) (rs : List Step) → IsInOrder (x ∷ y ∷ ys) → removal d x (y ∷ ys) ≡ None → Stepped d i rs y ys → Stepped d i rs x (y ∷ ys)
later_goes d f x y ys i rs o n s =
    let w : without i (x ∷ y ∷ ys) ≡ x ∷ without i (y ∷ ys) = without_other i x (y ∷ ys) (s.above x o.0) in
    let m : removal d x (without i (y ∷ ys)) ≡ None = ap (removal d x) s.is ∙ still d f x y s.top ys s.others n s.admitted (omega (arith, s.shorter)) in record {
      top = x;
      others = without i (y ∷ ys);
      is = w;
      admitted = omega arith;
      shorter = omega (arith, ap length s.is, s.shorter);
      rest = ap (removals d) w ∙ (ap (λ t. remove_step x.id t ++ removals d (without i (y ∷ ys))) m ∙ s.rest);
      same_left = ap (left_over d) w ∙ (ap (λ t. keep_if x t (left_over d (without i (y ∷ ys)))) m ∙ (ap (λ l. x ∷ l) s.same_left ∙ sym (ap (λ t. keep_if x t (left_over d (y ∷ ys))) n)));
      same_mark = ap (last_mark d) w ∙ (ap (λ l. last_mark d (x ∷ l)) s.is ∙ (sym (ap (last_mark d) s.is) ∙ s.same_mark));
      above = λ v b. s.above v b.2;
    }

stepped : (d : Dues) → IsFalling d → (x : Held) (xs : List Held) (i r : ℕ) (rs : List Step) → IsInOrder (x ∷ xs) → removals d (x ∷ xs) ≡ Remove i r ∷ rs → Stepped d i rs x xs
stepped d f x [] i r rs o e = absurd (cc)
stepped d f x (y ∷ ys) i r rs o e =
    let ih : removals d (y ∷ ys) ≡ Remove i r ∷ rs → Stepped d i rs y ys = stepped d f y ys i r rs o.1 in
    cases (removal d x (y ∷ ys)) refl ih
  where
    cases : (t : Option ℕ) → removal d x (y ∷ ys) ≡ t → (removals d (y ∷ ys) ≡ Remove i r ∷ rs → Stepped d i rs y ys) → Stepped d i rs x (y ∷ ys)
    cases None n ih = later_goes d f x y ys i rs o n (ih (ap (λ t. remove_step x.id t ++ removals d (y ∷ ys)) (sym n) ∙ e))
    cases (Some q) n ih = first_goes d x y ys i r q rs o n (ap (λ t. remove_step x.id t ++ removals d (y ∷ ys)) (sym n) ∙ e)

-- where nothing is removed, all are left
pub left_all : (d : Dues) (hs : List Held) → removals d hs ≡ [] → left_over d hs ≡ hs
left_all d [] e = refl
left_all d (x ∷ xs) e = cases (removal d x xs) refl (left_all d xs)
  where
    cases : (t : Option ℕ) → removal d x xs ≡ t → (removals d xs ≡ [] → left_over d xs ≡ xs) → left_over d (x ∷ xs) ≡ x ∷ xs
    cases None n ih = ap (λ t. keep_if x t (left_over d xs)) n ∙ ap (λ l. x ∷ l) (ih (ap (λ t. remove_step x.id t ++ removals d xs) (sym n) ∙ e))
    cases (Some q) n ih = absurd (impossible (ap (λ t. remove_step x.id t ++ removals d xs) (sym n) ∙ e))
      where
        impossible : Remove x.id q ∷ removals d xs ≡ [] → ⊥
        impossible h = cc

-- each step of the second phase is a removal
pub removals_are : (d : Dues) (hs : List Held) (s : Step) (ss : List Step) → removals d hs ≡ s ∷ ss → (i : ℕ) × (r : ℕ) × (s ≡ Remove i r)
removals_are d [] s ss e = absurd (cc)
removals_are d (x ∷ xs) s ss e = cases (removal d x xs) refl (removals_are d xs s ss)
  where
    cases : (t : Option ℕ) → removal d x xs ≡ t → (removals d xs ≡ s ∷ ss → (i : ℕ) × (r : ℕ) × (s ≡ Remove i r)) → (i : ℕ) × (r : ℕ) × (s ≡ Remove i r)
    cases None n ih = ih (ap (λ t. remove_step x.id t ++ removals d xs) (sym n) ∙ e)
    cases (Some q) n ih = let h : Remove x.id q ∷ removals d xs ≡ s ∷ ss = ap (λ t. remove_step x.id t ++ removals d xs) (sym n) ∙ e in (x.id, q, cc)

-- a lone marker goes, and then there is nothing
lone_goes : (d : Dues) (t : ℕ) (hs : List Held) (s : Step) (ss : List Step) → lone_removal d hs ≡ s ∷ ss → walk d t (held_after t hs s) ≡ ss
lone_goes d t [] s ss e = absurd (cc)
lone_goes d t (x ∷ y ∷ ys) s ss e = absurd (cc)
lone_goes d t (x ∷ []) s ss e = cases (unless (not x.marker) (d.lone x.size x.admitted)) e
  where
    cases : (o : Option ℕ) → lone_step x.id o ≡ s ∷ ss → walk d t (held_after t (x ∷ []) s) ≡ ss
    cases None h = absurd (cc)
    cases (Some r) h =
        let a : s ≡ RemoveLone x.id r = cc in
        let b : ss ≡ [] = cc in
        ap (λ u. walk d t (held_after t (x ∷ []) u)) a ∙ (ap (walk d t) (without_first x [] tt) ∙ sym b)

removal_goes : (d : Dues) → IsFalling d → (t : ℕ) (hs : List Held) (i r : ℕ) (rs : List Step) → IsInOrder hs → last_mark d hs ≡ None → removals d hs ≡ Remove i r ∷ rs → walk d t (without i hs) ≡ rs ++ lone_removal d (left_over d hs)
removal_goes d f t [] i r rs o m e = absurd (cc)
removal_goes d f t (x ∷ xs) i r rs o m e =
    let s = stepped d f x xs i r rs o e in
    walk_unmarked d t (without i (x ∷ xs)) (s.same_mark ∙ m) ∙ (ap (λ l. l ++ lone_removal d (left_over d (without i (x ∷ xs)))) s.rest ∙ ap (λ l. rs ++ lone_removal d l) s.same_left)

-- after the first step, the walk is the rest
pub one_step : (d : Dues) → IsFalling d → (t : ℕ) (hs : List Held) (s : Step) (ss : List Step) → IsInOrder hs → walk d t hs ≡ s ∷ ss → walk d t (held_after t hs s) ≡ ss
one_step d f t hs s ss o e = marks (last_mark d hs) refl
  where
    later : (rs : List Step) → last_mark d hs ≡ None → removals d hs ≡ rs → rs ++ lone_removal d (left_over d hs) ≡ s ∷ ss → walk d t (held_after t hs s) ≡ ss
    later [] m r h = lone_goes d t hs s ss (ap (lone_removal d) (sym (left_all d hs r)) ∙ h)
    later (u ∷ rs) m r h =
        let a = removals_are d hs u rs r in
        let same : s ≡ Remove a.0 a.1 = let k : u ≡ Remove a.0 a.1 = a.2 in cc in
        let rest : rs ++ lone_removal d (left_over d hs) ≡ ss = cc in
        ap (λ v. walk d t (held_after t hs v)) same ∙ (removal_goes d f t hs a.0 a.1 rs o m (r ∙ ap (λ v. v ∷ rs) a.2) ∙ rest)

    marks : (m : Option ℕ) → last_mark d hs ≡ m → walk d t (held_after t hs s) ≡ ss
    marks None m = later (removals d hs) m refl (sym (walk_unmarked d t hs m) ∙ e)
    marks (Some r) m =
        let h : Mark r ∷ later_phases d (hs ++ marker_at (id_above hs) t ∷ []) ≡ s ∷ ss = ap (λ o. mark_step o ++ later_phases d (marked_by t o hs)) (sym m) ∙ e in
        let same : s ≡ Mark r = cc in
        let rest : later_phases d (hs ++ marker_at (id_above hs) t ∷ []) ≡ ss = cc in
        ap (λ u. walk d t (held_after t hs u)) same ∙ (walk_unmarked d t (hs ++ marker_at (id_above hs) t ∷ []) (mark_none d hs (id_above hs) t) ∙ rest)

-- ---- order is kept

below_without : (i : ℕ) (x : Held) (l : List Held) → IsBelow x l → IsBelow x (without i l)
below_without i x [] b = tt
below_without i x (y ∷ ys) b = cases (not (y.id == i)) (below_without i x ys b.2)
  where
    cases : (c : Bool) → IsBelow x (without i ys) → IsBelow x (cond c (y ∷ without i ys) (without i ys))
    cases true h = (b.0, b.1, h)
    cases false h = h

pub order_without : (i : ℕ) (l : List Held) → IsInOrder l → IsInOrder (without i l)
order_without i [] o = tt
order_without i (y ∷ ys) o = cases (not (y.id == i)) (order_without i ys o.1)
  where
    cases : (c : Bool) → IsInOrder (without i ys) → IsInOrder (cond c (y ∷ without i ys) (without i ys))
    cases true h = (below_without i y ys o.0, h)
    cases false h = h

up_to_without : (i t : ℕ) (l : List Held) → IsUpTo t l → IsUpTo t (without i l)
up_to_without i t [] b = tt
up_to_without i t (y ∷ ys) b = cases (not (y.id == i)) (up_to_without i t ys b.1)
  where
    cases : (c : Bool) → IsUpTo t (without i ys) → IsUpTo t (cond c (y ∷ without i ys) (without i ys))
    cases true h = (b.0, h)
    cases false h = h

below_push : (x : Held) (l : List Held) (id t : ℕ) → x.id < id → x.admitted ≤ t → IsBelow x l → IsBelow x (l ++ marker_at id t ∷ [])
below_push x [] id t h a b = (h, a, tt)
below_push x (y ∷ ys) id t h a b = (b.0, b.1, below_push x ys id t h a b.2)

order_push : (l : List Held) (id t : ℕ) → IsTrue (list_all (λ x. nat_lt x.id id) l) → IsUpTo t l → IsInOrder l → IsInOrder (l ++ marker_at id t ∷ [])
order_push [] id t a b o = (tt, tt)
order_push (y ∷ ys) id t a b o =
    let e = both (nat_lt y.id id) (list_all (λ x. nat_lt x.id id) ys) a in
    (below_push y ys id t (less_of_test y.id id e.0) b.0 o.0, order_push ys id t e.1 b.1 o.1)

up_to_push : (l : List Held) (id t : ℕ) → IsUpTo t l → IsUpTo t (l ++ marker_at id t ∷ [])
up_to_push [] id t b = (omega arith, tt)
up_to_push (y ∷ ys) id t b = (b.0, up_to_push ys id t b.1)

pub order_made : (t : ℕ) (s : Step) (hs : List Held) → IsUpTo t hs → IsInOrder hs → IsInOrder (held_after t hs s)
order_made t (Mark r) hs b o = order_push hs (id_above hs) t (below_above hs) b o
order_made t (Remove i r) hs b o = order_without i hs o
order_made t (RemoveLone i r) hs b o = order_without i hs o

up_to_made : (t : ℕ) (s : Step) (hs : List Held) → IsUpTo t hs → IsUpTo t (held_after t hs s)
up_to_made t (Mark r) hs b = up_to_push hs (id_above hs) t b
up_to_made t (Remove i r) hs b = up_to_without i t hs b
up_to_made t (RemoveLone i r) hs b = up_to_without i t hs b

all_above : (x : Held) (l : List Held) → IsBelow x l → IsTrue (list_all (λ y. nat_lt x.id y.id) l)
all_above x [] b = refl
all_above x (y ∷ ys) b = and_true (nat_lt x.id y.id) (list_all (λ y. nat_lt x.id y.id) ys) (test_of_less x.id y.id b.0) (all_above x ys b.2)

pub rises : (l : List Held) → IsInOrder l → IsTrue (ids_rise l)
rises [] o = refl
rises (x ∷ xs) o = and_true (list_all (λ y. nat_lt x.id y.id) xs) (ids_rise xs) (all_above x xs o.0) (rises xs o.1)

-- ---- the law

module _ (rules : List Rule) (key : List ℕ) (t : ℕ) (f : IsFalling (dues rules key t)) where
  pub repeats : (hs : List Held) (ss : List Step) (n : ℕ) → IsInOrder hs → IsUpTo t hs → key_plan rules key hs t ≡ ss → key_plan rules key (held_after_all t hs (take n ss)) t ≡ drop n ss
  repeats hs ss zero o b e = e
  repeats hs [] (suc n) o b e = e
  repeats hs (s ∷ ss) (suc n) o b e =
      let o' = order_made t s hs b o in
      let rest = one_step (dues rules key t) f t hs s ss o (sym (key_plan-walk rules key t hs (rises hs o)) ∙ e) in
      repeats (held_after t hs s) ss n o' (up_to_made t s hs b) (key_plan-walk rules key t (held_after t hs s) (rises (held_after t hs s) o') ∙ rest)

-- what the test of order says
record IsTested (id from t : ℕ) (x : Held) (xs : List Held) : Type 0 where
  later : id < x.id
  admitted : from ≤ x.admitted
  rest : IsTrue (is_in_order x.id x.admitted t xs)

tested : (id from t : ℕ) (x : Held) (xs : List Held) → IsTrue (is_in_order id from t (x ∷ xs)) → IsTested id from t x xs
tested id from t x xs h =
    let e = both (nat_lt id x.id && nat_le from x.admitted) (is_in_order x.id x.admitted t xs) h in
    let g = both (nat_lt id x.id) (nat_le from x.admitted) e.0 in
    record { later = less_of_test id x.id g.0; admitted = le_of_test from x.admitted g.1; rest = e.1 }

from_up_to : (id from t : ℕ) (xs : List Held) → IsTrue (is_in_order id from t xs) → from ≤ t
from_up_to id from t [] h = le_of_test from t h
from_up_to id from t (x ∷ xs) h = let e = tested id from t x xs h in let g = from_up_to x.id x.admitted t xs e.rest in omega (arith, e.admitted)

below_tested : (w : Held) (id from t : ℕ) (xs : List Held) → w.id ≤ id → w.admitted ≤ from → IsTrue (is_in_order id from t xs) → IsBelow w xs
below_tested w id from t [] a b h = tt
below_tested w id from t (x ∷ xs) a b h =
    let e = tested id from t x xs h in
    let c : w.id < x.id = omega (arith, e.later) in
    let g : w.admitted ≤ x.admitted = omega (arith, e.admitted) in
    (c, g, below_tested w x.id x.admitted t xs (omega arith) g e.rest)

order_tested : (id from t : ℕ) (xs : List Held) → IsTrue (is_in_order id from t xs) → IsInOrder xs
order_tested id from t [] h = tt
order_tested id from t (x ∷ xs) h =
    let e = tested id from t x xs h in
    (below_tested x x.id x.admitted t xs (omega arith) (omega arith) e.rest, order_tested x.id x.admitted t xs e.rest)

up_to_tested : (id from t : ℕ) (xs : List Held) → IsTrue (is_in_order id from t xs) → IsUpTo t xs
up_to_tested id from t [] h = tt
up_to_tested id from t (x ∷ xs) h =
    let e = tested id from t x xs h in
    (from_up_to x.id x.admitted t xs e.rest, up_to_tested x.id x.admitted t xs e.rest)

pub key_plan_repeats : (rules : List Rule) (key : List ℕ) (hs : List Held) (t : ℕ) (steps : List Step) → IsTrue (is_rule_set rules) → IsTrue (is_in_order 0 0 t hs) → steps ≡ key_plan rules key hs t → Repeats rules key hs t steps
key_plan_repeats rules key hs t steps set h e n = repeats rules key t (fit rules key t set).falling hs steps n (order_tested 0 0 t hs h) (up_to_tested 0 0 t hs h) (sym e)
