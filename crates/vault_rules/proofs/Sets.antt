-- The plan by sets is the plan by a walk, where ids rise.
use Rattle.std.proofs.Common.{◌≡◌, ℕ, suc, ◌-◌, ◌<◌, ◌≤◌, ◌++◌, ◌&&◌, ◌==◌, Bool, true, false, nat_lt, IsTrue, List, [], ◌∷◌, length, Option, Some, None, refl, sym, ap, subst, ◌∙◌, arith, cond, append_assoc}
use Rattle.std.specs.Prelude.{not, is_none, max, filter, filter_map, fold, option_map, if◌then◌else◌}
use Rattle.std.specs.List.{list_all, cons_option}
use Rattle.std.proofs.lemmas.Bool.Decides.{nat_tests}
use Rattle.vault_lock.specs.Lock.{is_locked}
use Rattle.vault_rules.specs.declared.rule.Rule.{Rule}
use Rattle.vault_rules.specs.declared.plan.Held.{Held}
use Rattle.vault_rules.specs.declared.plan.Step.{Step}
use Rattle.vault_rules.specs.declared.plan.Step.TheVariants.{Mark, Remove, RemoveLone}
use Rattle.vault_rules.specs.Due.{due_current, due_noncurrent, due_marker}
use Rattle.vault_rules.specs.KeyPlan.{ids_rise, newer_among, first_admission, only_if, mark_rule, removal_rule, lone_rule, mark_steps, removal_steps, lone_steps, id_above, marker_on, marked, kept, key_plan}
use Rattle.vault_rules.proofs.Truth.{both, and_true, test_of_less}
use Rattle.vault_rules.specs.Walk.{dues, unless, last_mark, mark_step, remove_step, lone_step, walk, marked_by, marker_at, removal, removals, keep_if, left_over, lone_removal}

filter_all : (p : Held → Bool) (xs : List Held) → IsTrue (list_all p xs) → filter p xs ≡ xs
filter_all p [] h = refl
filter_all p (x ∷ xs) h =
    let e = both (p x) (list_all p xs) h in
    ap (λ b. cond b (x ∷ filter p xs) (filter p xs)) e.0 ∙ ap (λ l. x ∷ l) (filter_all p xs e.1)

in_middle : (p : Held → Bool) (before : List Held) (x : Held) (after : List Held) → IsTrue (list_all p (before ++ x ∷ after)) → IsTrue (p x)
in_middle p [] x after h = (both (p x) (list_all p after) h).0
in_middle p (b ∷ bs) x after h = in_middle p bs x after (both (p b) (list_all p (bs ++ x ∷ after)) h).1

not_less_itself : (n : ℕ) → nat_lt n n ≡ false
not_less_itself n = grind (arith, nat_tests)

not_less_back : (m n : ℕ) → IsTrue (nat_lt m n) → nat_lt n m ≡ false
not_less_back m n h = grind (arith, nat_tests)

-- what is newer than x stands after it
newer_after : (before : List Held) (x : Held) (after : List Held) → IsTrue (ids_rise (before ++ x ∷ after)) → newer_among (before ++ x ∷ after) x ≡ after
newer_after [] x after h =
    ap (λ b. cond b (x ∷ newer_among after x) (newer_among after x)) (not_less_itself x.id)
    ∙ filter_all (λ y. nat_lt x.id y.id) after (both (list_all (λ y. nat_lt x.id y.id) after) (ids_rise after) h).0
newer_after (b ∷ bs) x after h =
    let e = both (list_all (λ y. nat_lt b.id y.id) (bs ++ x ∷ after)) (ids_rise (bs ++ x ∷ after)) h in
    ap (λ c. cond c (b ∷ newer_among (bs ++ x ∷ after) x) (newer_among (bs ++ x ∷ after) x)) (not_less_back b.id x.id (in_middle (λ y. nat_lt b.id y.id) bs x after e.0))
    ∙ newer_after bs x after e.1

some_stand : (n : ℕ) → nat_lt 0 (suc n) ≡ true
some_stand n = grind (arith, nat_tests)

only_unless : (b : Bool) (o : Option ℕ) → only_if (true && not b) o ≡ unless b o
only_unless true o = refl
only_unless false o = refl

push_remove : (id : ℕ) (o : Option ℕ) (l : List Step) → cons_option (option_map (λ r. Remove id r) o) l ≡ remove_step id o ++ l
push_remove id None l = refl
push_remove id (Some r) l = refl

keep_if_none : (x : Held) (o : Option ℕ) (l : List Held) → cond (is_none o) (x ∷ l) l ≡ keep_if x o l
keep_if_none x None l = refl
keep_if_none x (Some r) l = refl

-- no new entry: the last one is the current one
none_stand : (n : ℕ) → (suc n == 0) ≡ false
none_stand n = grind (arith, nat_tests)

not_one : (n : ℕ) → (suc (suc n) == 1) ≡ false
not_one n = grind (arith, nat_tests)

module _ (rules : List Rule) (key : List ℕ) (t : ℕ) where
  -- the rule that removes x below these
  removal_is : (x : Held) (ys : List Held) → only_if (nat_lt 0 (length ys) && not (is_locked x.lock t)) (due_noncurrent rules key x.size (first_admission ys) (length ys - 1) t) ≡ removal (dues rules key t) x ys
  removal_is x [] = refl
  removal_is x (y ∷ ys) =
      let n : length (y ∷ ys) - 1 ≡ length ys = omega arith in
      ap (λ b. only_if (b && not (is_locked x.lock t)) (due_noncurrent rules key x.size y.admitted (length (y ∷ ys) - 1) t)) (some_stand (length ys))
      ∙ (ap (λ k. only_if (true && not (is_locked x.lock t)) (due_noncurrent rules key x.size y.admitted k t)) n
      ∙ only_unless (is_locked x.lock t) (due_noncurrent rules key x.size y.admitted (length ys) t))

  removal_at : (hs before : List Held) (x : Held) (after : List Held) → hs ≡ before ++ x ∷ after → IsTrue (ids_rise hs) → removal_rule rules key t hs x ≡ removal (dues rules key t) x after
  removal_at hs before x after e h =
      let n : newer_among hs x ≡ after = ap (λ l. newer_among l x) e ∙ newer_after before x after (subst (λ l. IsTrue (ids_rise l)) e h) in
      ap (λ l. only_if (nat_lt 0 (length l) && not (is_locked x.lock t)) (due_noncurrent rules key x.size (first_admission l) (length l - 1) t)) n ∙ removal_is x after

  pub removals_from : (hs before l : List Held) → hs ≡ before ++ l → IsTrue (ids_rise hs) → filter_map (λ x. option_map (λ r. Remove x.id r) (removal_rule rules key t hs x)) l ≡ removals (dues rules key t) l
  removals_from hs before [] e h = refl
  removals_from hs before (x ∷ xs) e h =
      ap (λ o. cons_option (option_map (λ r. Remove x.id r) o) (filter_map (λ x. option_map (λ r. Remove x.id r) (removal_rule rules key t hs x)) xs)) (removal_at hs before x xs e h)
      ∙ (ap (cons_option (option_map (λ r. Remove x.id r) (removal (dues rules key t) x xs))) (removals_from hs (before ++ x ∷ []) xs (e ∙ sym (append_assoc before (x ∷ []) xs)) h)
      ∙ push_remove x.id (removal (dues rules key t) x xs) (removals (dues rules key t) xs))

  pub kept_from : (hs before l : List Held) → hs ≡ before ++ l → IsTrue (ids_rise hs) → filter (λ x. is_none (removal_rule rules key t hs x)) l ≡ left_over (dues rules key t) l
  kept_from hs before [] e h = refl
  kept_from hs before (x ∷ xs) e h =
      ap (λ o. cond (is_none o) (x ∷ filter (λ x. is_none (removal_rule rules key t hs x)) xs) (filter (λ x. is_none (removal_rule rules key t hs x)) xs)) (removal_at hs before x xs e h)
      ∙ (ap (λ l. cond (is_none (removal (dues rules key t) x xs)) (x ∷ l) l) (kept_from hs (before ++ x ∷ []) xs (e ∙ sym (append_assoc before (x ∷ []) xs)) h)
      ∙ keep_if_none x (removal (dues rules key t) x xs) (left_over (dues rules key t) xs))

  -- the rule that marks the key for x, above which these stand
  mark_at : (hs before : List Held) (x : Held) (after : List Held) → hs ≡ before ++ x ∷ after → IsTrue (ids_rise hs) → mark_rule rules key t hs x ≡ only_if ((length after == 0) && not x.marker) (due_current rules key x.size x.admitted t)
  mark_at hs before x after e h =
      let n : newer_among hs x ≡ after = ap (λ l. newer_among l x) e ∙ newer_after before x after (subst (λ l. IsTrue (ids_rise l)) e h) in
      ap (λ l. only_if ((length l == 0) && not x.marker) (due_current rules key x.size x.admitted t)) n

  push_mark : (o : Option ℕ) → cons_option (option_map (λ r. Mark r) o) [] ≡ mark_step o
  push_mark None = refl
  push_mark (Some r) = refl

  pub marks_from : (hs before l : List Held) → hs ≡ before ++ l → IsTrue (ids_rise hs) → filter_map (λ x. option_map (λ r. Mark r) (mark_rule rules key t hs x)) l ≡ mark_step (last_mark (dues rules key t) l)
  marks_from hs before [] e h = refl
  marks_from hs before (x ∷ []) e h =
      ap (λ o. cons_option (option_map (λ r. Mark r) o) []) (mark_at hs before x [] e h ∙ only_unless x.marker (due_current rules key x.size x.admitted t))
      ∙ push_mark (unless x.marker (due_current rules key x.size x.admitted t))
  marks_from hs before (x ∷ y ∷ ys) e h =
      ap (λ o. cons_option (option_map (λ r. Mark r) o) (filter_map (λ x. option_map (λ r. Mark r) (mark_rule rules key t hs x)) (y ∷ ys)))
      (mark_at hs before x (y ∷ ys) e h ∙ ap (λ b. only_if (b && not x.marker) (due_current rules key x.size x.admitted t)) (none_stand (length ys)))
      ∙ marks_from hs (before ++ x ∷ []) (y ∷ ys) (e ∙ sym (append_assoc before (x ∷ []) (y ∷ ys))) h

  lone_of_one : (x : Held) → lone_steps rules key t (x ∷ []) ≡ lone_removal (dues rules key t) (x ∷ [])
  lone_of_one x = cases x.marker (due_marker rules key x.size x.admitted t)
    where
      cases : (b : Bool) (o : Option ℕ) → cons_option (option_map (λ r. RemoveLone x.id r) (only_if (b && true) o)) [] ≡ lone_step x.id (unless (not b) o)
      cases true None = refl
      cases true (Some r) = refl
      cases false o = refl

  only_never : (b : Bool) (o : Option ℕ) → only_if (b && false) o ≡ None
  only_never true o = refl
  only_never false o = refl

  lone_of_more : (hs l : List Held) → (length hs == 1) ≡ false → filter_map (λ x. option_map (λ r. RemoveLone x.id r) (lone_rule rules key t hs x)) l ≡ []
  lone_of_more hs [] h = refl
  lone_of_more hs (x ∷ xs) h =
      ap (λ o. cons_option (option_map (λ r. RemoveLone x.id r) o) (filter_map (λ x. option_map (λ r. RemoveLone x.id r) (lone_rule rules key t hs x)) xs))
      (ap (λ b. only_if (x.marker && b) (due_marker rules key x.size x.admitted t)) h ∙ only_never x.marker (due_marker rules key x.size x.admitted t))
      ∙ lone_of_more hs xs h

  pub lone_is : (hs : List Held) → lone_steps rules key t hs ≡ lone_removal (dues rules key t) hs
  lone_is [] = refl
  lone_is (x ∷ []) = lone_of_one x
  lone_is (x ∷ y ∷ ys) = lone_of_more (x ∷ y ∷ ys) (x ∷ y ∷ ys) (not_one (length ys))

-- ---- the new marker's id is above all

not_lower : (a : ℕ) (hs : List Held) → a ≤ fold (λ m x. max m x.id) a hs
not_lower a [] = omega arith
not_lower a (x ∷ xs) = let h = not_lower (max a x.id) xs in omega (arith, h)

all_below : (n a : ℕ) (hs : List Held) → fold (λ m x. max m x.id) a hs < n → IsTrue (list_all (λ x. nat_lt x.id n) hs)
all_below n a [] h = refl
all_below n a (x ∷ xs) h =
    let k = not_lower (max a x.id) xs in
    and_true (nat_lt x.id n) (list_all (λ x. nat_lt x.id n) xs) (test_of_less x.id n (omega (arith, k))) (all_below n (max a x.id) xs h)

pub below_above : (hs : List Held) → IsTrue (list_all (λ x. nat_lt x.id (id_above hs)) hs)
below_above hs = all_below (id_above hs) 0 hs (omega arith)

all_push : (p : Held → Bool) (xs : List Held) (y : Held) → IsTrue (list_all p xs) → IsTrue (p y) → IsTrue (list_all p (xs ++ y ∷ []))
all_push p [] y h k = and_true (p y) true k refl
all_push p (x ∷ xs) y h k = let e = both (p x) (list_all p xs) h in and_true (p x) (list_all p (xs ++ y ∷ [])) e.0 (all_push p xs y e.1 k)

pub rise_push : (hs : List Held) (y : Held) → IsTrue (ids_rise hs) → IsTrue (list_all (λ x. nat_lt x.id y.id) hs) → IsTrue (ids_rise (hs ++ y ∷ []))
rise_push [] y h k = refl
rise_push (x ∷ xs) y h k =
    let e = both (list_all (λ z. nat_lt x.id z.id) xs) (ids_rise xs) h in
    let f = both (nat_lt x.id y.id) (list_all (λ x. nat_lt x.id y.id) xs) k in
    and_true (list_all (λ z. nat_lt x.id z.id) (xs ++ y ∷ [])) (ids_rise (xs ++ y ∷ [])) (all_push (λ z. nat_lt x.id z.id) xs y e.0 f.0) (rise_push xs y e.1 f.1)

marked_rise : (t : ℕ) (o : Option ℕ) (hs : List Held) → IsTrue (ids_rise hs) → IsTrue (ids_rise (marked_by t o hs))
marked_rise t None hs h = h
marked_rise t (Some r) hs h = rise_push hs (marker_at (id_above hs) t) h (below_above hs)

marked_is : (t : ℕ) (o : Option ℕ) (hs : List Held) → (if length (mark_step o) == 0 then hs else (hs ++ marker_on t hs ∷ [])) ≡ marked_by t o hs
marked_is t None hs = refl
marked_is t (Some r) hs = refl

-- the plan by sets is the walk
pub key_plan-walk : (rules : List Rule) (key : List ℕ) (t : ℕ) (hs : List Held) → IsTrue (ids_rise hs) → key_plan rules key hs t ≡ walk (dues rules key t) t hs
key_plan-walk rules key t hs h =
    let d = dues rules key t in
    let ms : mark_steps rules key t hs ≡ mark_step (last_mark d hs) = marks_from rules key t hs [] hs refl h in
    let after : marked rules key t hs ≡ marked_by t (last_mark d hs) hs = ap (λ l. if length l == 0 then hs else (hs ++ marker_on t hs ∷ [])) ms ∙ marked_is t (last_mark d hs) hs in
    let hs' = marked_by t (last_mark d hs) hs in
    let h' : IsTrue (ids_rise hs') = marked_rise t (last_mark d hs) hs h in
    let rs : removal_steps rules key t (marked rules key t hs) ≡ removals d hs' = ap (removal_steps rules key t) after ∙ removals_from rules key t hs' [] hs' refl h' in
    let ks : kept rules key t (marked rules key t hs) ≡ left_over d hs' = ap (kept rules key t) after ∙ kept_from rules key t hs' [] hs' refl h' in
    let ls : lone_steps rules key t (kept rules key t (marked rules key t hs)) ≡ lone_removal d (left_over d hs') = ap (lone_steps rules key t) ks ∙ lone_is rules key t (left_over d hs') in
    ap (λ l. l ++ removal_steps rules key t (marked rules key t hs) ++ lone_steps rules key t (kept rules key t (marked rules key t hs))) ms
    ∙ (ap (λ l. mark_step (last_mark d hs) ++ l ++ lone_steps rules key t (kept rules key t (marked rules key t hs))) rs
    ∙ (ap (λ l. mark_step (last_mark d hs) ++ removals d hs' ++ l) ls
    ∙ append_assoc (mark_step (last_mark d hs)) (removals d hs') (lone_removal d (left_over d hs'))))
