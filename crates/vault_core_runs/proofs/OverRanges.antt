-- A run goes on from place to place.
use Rattle.std.proofs.Common.{◌≡◌, ℕ, suc, ◌+◌, ◌-◌, ◌<◌, ◌≤◌, ◌++◌, ◌||◌, ◌==◌, Bool, true, false, IsTrue, nat_le, List, [], ◌∷◌, length, drop, get_or, Option, Some, None, Result, Ok, Err, refl, sym, ap, subst, ◌∙◌, arith, append-nil, length-take}
use Rattle.std.specs.Prelude.{min, not, filter, IsErrAnd, MatchOption}
use Rattle.std.specs.Ordering.{is_gt}
use Rattle.std.proofs.lemmas.List.{take-append-drop, take_all}
use Rattle.vault_base.specs.Limits.{most_keys}
use Rattle.vault_base.specs.Name.{is_key_prefix, is_object_key}
use Rattle.vault_rules.proofs.Truth.{both, le_of_test}
use Rattle.vault_rules.specs.declared.rule.Rule.{Rule}
use Rattle.vault_rules.specs.KeyPlan.{Planned}
use Rattle.vault_core_model.specs.declared.halt.Fault.{Fault}
use Rattle.vault_core_model.specs.declared.halt.Halt.{Halt}
use Rattle.vault_core_model.specs.declared.halt.Halt.TheVariants as halt
use Rattle.vault_core_model.specs.declared.reply.Counts.{Counts}
use Rattle.vault_core_model.specs.Vault.{Vault}
use Rattle.vault_core_model.specs.Places.{comes_after, keys_of}
use Rattle.vault_core_model.specs.Reads.{entries_of, keys_after, later_keys}
use Rattle.vault_core_model.specs.Plan.{counts, plan, rules_in}
use Rattle.vault_core_run_laws.specs.KeyOrder.{IsIn, IsRising}
use Rattle.vault_core_run_laws.specs.KeyRuns.{MayRun, plan_at, plans_at, last_key}
use Rattle.vault_core_run_laws.proofs.KeyOrder.{one_list}
use Rattle.vault_core_run_laws.proofs.Keys.{HasAny, held_key, key_held}
use Rattle.vault_core_run_laws.proofs.RunLaws.{plans_are_key_by_key, bucket_keys_rise, other_keys_stay, rising_left}
use Rattle.vault_core_runs.specs.Making.{IsLastKey, MakesAll, MakesUpTo, plus}
use Rattle.vault_core_runs.specs.Ranges.{GoesOn, IsOnward, is_ruled, keys_between, nearest}
use Rattle.vault_core_runs.proofs.Making.{MakesAll-then, MakesAll-first, MakesUpTo-fault, MakesUpTo-more, same_counts}
use Rattle.vault_core_runs.proofs.Nearest.{found_after, found_named, unruled_all, unruled_before}
use Rattle.vault_core_runs.proofs.OverKeys.{may_go_on, same_plans, plans_at-append}
use Rattle.vault_core_runs.proofs.Prefixes.{cmp}
use Rattle.vault_core_runs.proofs.Cuts.{beyond_nothing, filter_in, filter_rises, in_filter, joined, none_between, nothing_of, onward, page_of, rest_joined, up_to_one}
use Rattle.vault_core_runs.proofs.Unruled.{absent_plan, unruled_plan}

and_none : (n : ℕ) → n + 0 ≡ n
and_none n = omega arith

from_none : (x : Counts) → x ≡ plus x (counts [])
from_none x = sym (same_counts (plus x (counts [])) x (and_none x.changes) (and_none x.marked) (and_none x.removed) (and_none x.lone))

pub MakesAll-none : (v : Vault) (b : List ℕ) (t : ℕ) (x : Counts) → MakesAll v b t [] x x v
MakesAll-none v b t x = record { ids = refl; left = refl; counted = from_none x }

pub makes_none : (v w : Vault) (b : List ℕ) (t : ℕ) (ps : List Planned) (x : Counts) → ps ≡ [] → w ≡ v → MakesAll v b t ps x x w
makes_none v w b t ps x none same =
    subst (λ (u : Vault). MakesAll v b t ps x x u) (sym same) (subst (λ (qs : List Planned). MakesAll v b t qs x x v) (sym none) (MakesAll-none v b t x))

-- an error that is handed on
pub GoesOn-err : (r : Result (Option (List ℕ)) Halt) (e : Halt) (v : Vault) (b : List ℕ) (t : ℕ) (a : List ℕ) (x y : Counts) (v' : Vault)
    → IsErrAnd r (λ (h : Halt). h ≡ e) → MakesUpTo v b t (plans_at v b t (later_keys v b a)) e x y v' → GoesOn r v b t a x y v'
GoesOn-err (Ok u) e v b t a x y v' h m = absurd h
GoesOn-err (Err f) e v b t a x y v' h m = subst (λ (k : Halt). MakesUpTo v b t (plans_at v b t (later_keys v b a)) k x y v') (sym h) m

between_rises : (v : Vault) (b a s : List ℕ) → IsRising (keys_between v b a s)
between_rises v b a s =
    filter_rises (λ k. not (comes_after k s)) (later_keys v b a) (filter_rises (λ k. comes_after k a) (keys_of v b) (bucket_keys_rise v b))

-- ---- what is made between two places leaves the keys after them

module _ (v v1 : Vault) (b : List ℕ) (t : ℕ) (a s : List ℕ) (x y : Counts) (may : MayRun v b t) (m : MakesAll v b t (plans_at v b t (keys_between v b a s)) x y v1) where
  as_before : (k : List ℕ) → comes_after k s ≡ true → entries_of v1 b k ≡ entries_of v b k
  as_before k there =
      let done = keys_between v b a s in
      ap (λ u. entries_of u b k) m.left
      ∙ other_keys_stay v b t done (plans_at v b t done) [] k may (between_rises v b a s) (sym (append-nil (plans_at v b t done))) m.ids
      (λ i. out ((in_filter (λ j. not (comes_after j s)) k (later_keys v b a) i).1))
    where
      out : not (comes_after k s) ≡ true → ⊥
      out h = absurd (cc (sym h ∙ ap not there))

  keys_stay : later_keys v1 b s ≡ later_keys v b s
  keys_stay =
      one_list (later_keys v1 b s) (later_keys v b s)
      (filter_rises (λ k. comes_after k s) (keys_of v1 b) (bucket_keys_rise v1 b)) (filter_rises (λ k. comes_after k s) (keys_of v b) (bucket_keys_rise v b)) into out
    where
      into : (k : List ℕ) → IsIn k (later_keys v1 b s) → IsIn k (later_keys v b s)
      into k i =
          let h = in_filter (λ j. comes_after j s) k (keys_of v1 b) i in
          filter_in (λ j. comes_after j s) k (keys_of v b) h.1 (key_held v b k (subst HasAny (as_before k h.1) (held_key v1 b k h.0)))

      out : (k : List ℕ) → IsIn k (later_keys v b s) → IsIn k (later_keys v1 b s)
      out k i =
          let h = in_filter (λ j. comes_after j s) k (keys_of v b) i in
          filter_in (λ j. comes_after j s) k (keys_of v1 b) h.1 (key_held v1 b k (subst HasAny (sym (as_before k h.1)) (held_key v b k h.0)))

  -- a run may go on there
  pub may_from : MayRun v1 b t × (rules_in v1 b ≡ rules_in v b)
  may_from = may_go_on v v1 b t (keys_between v b a s) x y may (between_rises v b a s) m

  later_plans : (rest all : List (List ℕ)) → IsRising all → keys_between v b a s ++ rest ≡ all → plans_at v1 b t rest ≡ plans_at v b t rest
  later_plans rest all rising e = same_plans v v1 b t (keys_between v b a s) x y rest may (subst IsRising (sym e) rising) m

  -- all later keys
  rest_plans : IsOnward a s → plans_at v1 b t (later_keys v1 b s) ≡ plans_at v b t (later_keys v b s)
  rest_plans on =
      ap (plans_at v1 b t) keys_stay
      ∙ later_plans (later_keys v b s) (later_keys v b a) (filter_rises (λ k. comes_after k a) (keys_of v b) (bucket_keys_rise v b)) (rest_joined (keys_of v b) a s (bucket_keys_rise v b) on)

  rest_parts : IsOnward a s → plans_at v b t (keys_between v b a s) ++ plans_at v b t (later_keys v b s) ≡ plans_at v b t (later_keys v b a)
  rest_parts on =
      sym (plans_at-append v b t (keys_between v b a s) (later_keys v b s)) ∙ ap (plans_at v b t) (rest_joined (keys_of v b) a s (bucket_keys_rise v b) on)

  -- those up to a third place
  next_plans : (n : List ℕ) → IsOnward a s → IsOnward s n → plans_at v1 b t (keys_between v1 b s n) ≡ plans_at v b t (keys_between v b s n)
  next_plans n on further =
      ap (λ ks. plans_at v1 b t (filter (λ k. not (comes_after k n)) ks)) keys_stay
      ∙ later_plans (keys_between v b s n) (keys_between v b a n) (between_rises v b a n) (joined (keys_of v b) a s (bucket_keys_rise v b) on n further)

  next_parts : (n : List ℕ) → IsOnward a s → IsOnward s n → plans_at v b t (keys_between v b a s) ++ plans_at v b t (keys_between v b s n) ≡ plans_at v b t (keys_between v b a n)
  next_parts n on further =
      sym (plans_at-append v b t (keys_between v b a s) (keys_between v b s n)) ∙ ap (plans_at v b t) (joined (keys_of v b) a s (bucket_keys_rise v b) on n further)

  -- a run goes on from the first place as it does from the second
  pub go_then : (r : Result (Option (List ℕ)) Halt) (z : Counts) (v2 : Vault) → IsOnward a s → GoesOn r v1 b t s y z v2 → GoesOn r v b t a x z v2
  go_then (Ok None) z v2 on n =
      subst (λ (ps : List Planned). MakesAll v b t ps x z v2) (rest_parts on)
      (MakesAll-then v v1 v2 b t (plans_at v b t (keys_between v b a s)) (plans_at v b t (later_keys v b s)) x y z m
      (subst (λ (ps : List Planned). MakesAll v1 b t ps y z v2) (rest_plans on) n))
  go_then (Ok (Some next)) z v2 on n = (
    λ k h. on k (n.0 k h),
    subst (λ (ps : List Planned). MakesAll v b t ps x z v2) (next_parts next on n.0)
        (MakesAll-then v v1 v2 b t (plans_at v b t (keys_between v b a s)) (plans_at v b t (keys_between v b s next)) x y z m
        (subst (λ (ps : List Planned). MakesAll v1 b t ps y z v2) (next_plans next on n.0) n.1)),
  )
  go_then (Err e) z v2 on n =
      subst (λ (ps : List Planned). MakesUpTo v b t ps e x z v2) (rest_parts on)
      (MakesAll-first v v1 v2 b t (plans_at v b t (keys_between v b a s)) (plans_at v b t (later_keys v b s)) e x y z m
      (subst (λ (ps : List Planned). MakesUpTo v1 b t ps e y z v2) (rest_plans on) n))

-- ---- the whole bucket

module _ (v : Vault) (b : List ℕ) (t : ℕ) (may : MayRun v b t) where
  whole : plans_at v b t (later_keys v b []) ≡ plan v b t
  whole = ap (plans_at v b t) (beyond_nothing (keys_of v b)) ∙ sym (plans_are_key_by_key v b t may)

  pub all_made : (x z : Counts) (v2 : Vault) → GoesOn (Ok None) v b t [] x z v2 → MakesAll v b t (plan v b t) x z v2
  all_made x z v2 n = subst (λ (ps : List Planned). MakesAll v b t ps x z v2) whole n

  pub up_to_halt : (e : Halt) (x z : Counts) (v2 : Vault) → GoesOn (Err e) v b t [] x z v2 → MakesUpTo v b t (plan v b t) e x z v2
  up_to_halt e x z v2 n = subst (λ (ps : List Planned). MakesUpTo v b t ps e x z v2) whole n

-- before all keys, and at a place that a rule reaches
pub goes_nowhere : (v : Vault) (b : List ℕ) (t : ℕ) (a n : List ℕ) (x : Counts) → n ≡ a → GoesOn (Ok (Some n)) v b t a x x v
goes_nowhere v b t a n x same =
    subst (λ (k : List ℕ). GoesOn (Ok (Some k)) v b t a x x v) (sym same)
    ((λ k h. h), makes_none v v b t (plans_at v b t (keys_between v b a a)) x (ap (plans_at v b t) (none_between a (keys_of v b))) refl)

-- ---- to the nearest prefix

module _ (v : Vault) (b : List ℕ) (t : ℕ) (rules : List Rule) (a : List ℕ) (given : rules_in v b ≡ rules) (out : is_ruled rules a ≡ false) where
  none_ruled : (k : List ℕ) → is_ruled rules k ≡ false → plan_at v b t k ≡ []
  none_ruled k unruled = unruled_plan v b t k (ap (λ rs. is_ruled rs k) given ∙ unruled)

  pub goes_to_end : (x : Counts) → nearest a None rules ≡ None → GoesOn (Ok None) v b t a x x v
  goes_to_end x none =
      makes_none v v b t (plans_at v b t (later_keys v b a)) x
      (nothing_of (plan_at v b t) (later_keys v b a) (λ k i. none_ruled k (unruled_all rules a out none k (in_filter (λ j. comes_after j a) k (keys_of v b) i).1))) refl

  module _ (p : List ℕ) (found : nearest a None rules ≡ Some p) where
    named : (length p == 0) ≡ false
    named = found_named rules a p found

    there : comes_after p a ≡ true
    there = by_length (length a == 0)
      where
        by_length : (c : Bool) → (c || is_gt (cmp p a)) ≡ true
        by_length true = refl
        by_length false = found_after rules a p found

    on : IsOnward a p
    on = onward a p there named

    one_plan : plans_at v b t (keys_between v b a p) ≡ plan_at v b t p
    one_plan =
        up_to_one (plan_at v b t) a p (keys_of v b) named there (bucket_keys_rise v b)
        (λ k h less. none_ruled k (unruled_before rules a p out found k h less)) (λ none. absent_plan v b t p none)

    pub goes_to_prefix : (x y : Counts) (v1 : Vault) → MakesAll v b t (plan_at v b t p) x y v1 → GoesOn (Ok (Some p)) v b t a x y v1
    goes_to_prefix x y v1 m = (on, subst (λ (ps : List Planned). MakesAll v b t ps x y v1) (sym one_plan) m)

    pub stops_at_prefix : (e : Halt) (x y : Counts) (v1 : Vault) → MakesUpTo v b t (plan_at v b t p) e x y v1 → MakesUpTo v b t (plans_at v b t (later_keys v b a)) e x y v1
    stops_at_prefix e x y v1 m =
        subst (λ (ps : List Planned). MakesUpTo v b t ps e x y v1)
        (sym (plans_at-append v b t (keys_between v b a p) (later_keys v b p)) ∙ ap (plans_at v b t) (rest_joined (keys_of v b) a p (bucket_keys_rise v b) on))
        (MakesUpTo-more v b t (plans_at v b t (keys_between v b a p)) (plans_at v b t (later_keys v b p)) e x y v1
        (subst (λ (ps : List Planned). MakesUpTo v b t ps e x y v1) (sym one_plan) m))

-- ---- over a page of keys

-- the last of these keys is that at the last place
last_key-at : (keys : List (List ℕ)) (d : List ℕ) → 1 ≤ length keys → last_key keys ≡ get_or keys (length keys - 1) d
last_key-at [] d h = absurd (omega arith)
last_key-at (k ∷ []) d h = let e : length (k ∷ []) - 1 ≡ 0 = omega arith in sym (ap (λ i. get_or (k ∷ []) i d) e)
last_key-at (k ∷ j ∷ ks) d h =
    let e : suc (length (j ∷ ks) - 1) ≡ length (k ∷ j ∷ ks) - 1 = omega arith in
    last_key-at (j ∷ ks) d (omega arith) ∙ ap (λ i. get_or (k ∷ j ∷ ks) i d) e

byte_of : (k : List ℕ) → IsTrue (is_object_key k) → 1 ≤ length k
byte_of k h = le_of_test 1 (length k) (both (nat_le 1 (length k)) (is_key_prefix k) h).0

-- the key at the last place, which is an object's, as a place to go on after
pub IsLastKey-of : (keys : List (List ℕ)) (k after : List ℕ) → 1 ≤ length keys → k ≡ get_or keys (length keys - 1) [] → after ≡ k → IsTrue (is_object_key k) → IsLastKey keys after
IsLastKey-of keys k after some at same named = record {
  some = some;
  last = same ∙ at ∙ sym (last_key-at keys [] some);
  known = subst (λ (l : List ℕ). 1 ≤ length l) (sym same) (byte_of k named);
}

has_byte : (n : ℕ) → 1 ≤ n → (n == 0) ≡ false
has_byte n h = grind (arith, h)

module _ (v : Vault) (b : List ℕ) (t : ℕ) (a : List ℕ) (keys : List (List ℕ)) (is : keys ≡ keys_after v b a most_keys) where
  abbrev rest : List (List ℕ)
  rest = drop most_keys (later_keys v b a)

  cut : later_keys v b a ≡ keys ++ rest
  cut = sym (take-append-drop most_keys (later_keys v b a)) ∙ ap (λ l. l ++ rest) (sym is)

  pub page_rises : IsRising keys
  page_rises = rising_left keys rest (subst IsRising cut (filter_rises (λ k. comes_after k a) (keys_of v b) (bucket_keys_rise v b)))

  -- a halt within it, and a fault after it
  pub stops_in_page : (e : Halt) (x y : Counts) (v2 : Vault) → MakesUpTo v b t (plans_at v b t keys) e x y v2 → MakesUpTo v b t (plans_at v b t (later_keys v b a)) e x y v2
  stops_in_page e x y v2 m =
      subst (λ (ps : List Planned). MakesUpTo v b t ps e x y v2) (sym (ap (plans_at v b t) cut ∙ plans_at-append v b t keys rest))
      (MakesUpTo-more v b t (plans_at v b t keys) (plans_at v b t rest) e x y v2 m)

  pub stops_after_page : (f : Fault) (x y : Counts) (v2 : Vault) → MakesAll v b t (plans_at v b t keys) x y v2 → MakesUpTo v b t (plans_at v b t (later_keys v b a)) (halt.Fault f) x y v2
  stops_after_page f x y v2 m =
      subst (λ (ps : List Planned). MakesUpTo v b t ps (halt.Fault f) x y v2) (sym (ap (plans_at v b t) cut ∙ plans_at-append v b t keys rest))
      (MakesAll-first v v2 v2 b t (plans_at v b t keys) (plans_at v b t rest) (halt.Fault f) x y y m (MakesUpTo-fault v2 b t (plans_at v b t rest) f y v2 refl))

  -- the page made
  pub goes_by_page : (found : Option (List ℕ)) (x y : Counts) (v2 : Vault) → MatchOption found (length keys < most_keys) (λ k. IsLastKey keys k)
      → MakesAll v b t (plans_at v b t keys) x y v2 → GoesOn (Ok found) v b t a x y v2
  goes_by_page None x y v2 short m =
      let n : length keys ≡ min most_keys (length (later_keys v b a)) = ap length is ∙ length-take most_keys (later_keys v b a) in
      let few : length (later_keys v b a) ≤ most_keys = let lt : length keys < most_keys = short in omega arith in
      let same : keys ≡ later_keys v b a = is ∙ take_all most_keys (later_keys v b a) few in
      subst (λ (ks : List (List ℕ)). MakesAll v b t (plans_at v b t ks) x y v2) same m
  goes_by_page (Some next) x y v2 last m =
      let byte : (length (last_key keys) == 0) ≡ false = subst (λ (k : List ℕ). (length k == 0) ≡ false) last.last (has_byte (length next) last.known) in
      let page = page_of a (keys_of v b) keys rest (bucket_keys_rise v b) cut last.some byte in
      subst (λ (k : List ℕ). GoesOn (Ok (Some k)) v b t a x y v2) (sym last.last)
      (page.on, subst (λ (ks : List (List ℕ)). MakesAll v b t (plans_at v b t ks) x y v2) (sym page.between) m)
