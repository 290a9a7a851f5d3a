-- What the tenures of one version count for a department: at its admission, and before and after its removal.
use Rattle.std.proofs.Common.{◌≡◌, ℕ, List, [], ◌∷◌, ◌++◌, cond, Bool, true, false, Option, Some, None, refl, sym, ap, subst, ◌∙◌, append_assoc}
use Rattle.std.specs.Prelude.{option_map}
use Rattle.std.specs.Str.{bytes_eq}
use Rattle.std.proofs.lemmas.Slice.Eq.{bytes_eq-Decides}
use Rattle.vault_base.specs.Days.{day}
use Rattle.vault_tally.specs.Row.{Item, held_item, removed_item}
use Rattle.vault_core_model.specs.declared.records.BucketConfig.{BucketConfig}
use Rattle.vault_core_model.specs.declared.records.History.{History}
use Rattle.vault_core_model.specs.declared.records.Removal.{Removal}
use Rattle.vault_core_model.specs.declared.records.Tenure.{Tenure}
use Rattle.vault_core_model.specs.Allowed.{HasFirstTenure}
use Rattle.vault_core_model.specs.Change.{removed_by}
use Rattle.vault_core_model.specs.Sound.{HasTenuresAs, IsWithBucket, last_tenure}
use Rattle.vault_core_model.specs.Totals.{Share, share, removal_day, shares_from, shares_of, items_by}
use Rattle.vault_core_model.specs.Vault.{Vault, config_of}
use Rattle.vault_store_model.proofs.DepartmentLemmas.{items_cons, items_skip}

-- a tenure of the department counts for it
items_own : (dept : List ℕ) (s : Share) (ss : List Share) → bytes_eq s.dept dept ≡ true → items_by dept (s ∷ ss) ≡ s.item ∷ items_by dept ss
items_own dept s ss own = items_cons dept s ss ∙ ap (λ b. cond b (s.item ∷ items_by dept ss) (items_by dept ss)) own

-- ---- an admission

abbrev first_of : List ℕ → ℕ → Tenure
first_of dept t = record { dept = dept; from = t; number = 0 }

-- a marker counts for none
pub marker_admitted : (marker : Bool) (t : ℕ) (own d : List ℕ) (h : History) → HasFirstTenure marker t own h.tenures → marker ≡ true → items_by d (shares_of h) ≡ []
marker_admitted true t own d h first e = ap (λ ts. items_by d (shares_from h.entry.size h.entry.removal true ts)) first
marker_admitted false t own d h first e = absurd (cc e)

-- a version for no other department than its bucket's
pub other_admitted : (marker : Bool) (t : ℕ) (own d : List ℕ) (h : History) → HasFirstTenure marker t own h.tenures → bytes_eq own d ≡ false → items_by d (shares_of h) ≡ []
other_admitted true t own d h first other = ap (λ ts. items_by d (shares_from h.entry.size h.entry.removal true ts)) first
other_admitted false t own d h first other =
    ap (λ ts. items_by d (shares_from h.entry.size h.entry.removal true ts)) first
    ∙ items_skip d (share h.entry.size true (first_of own t) (removal_day h.entry.removal) true) [] other

-- and for that as one that is held
pub own_admitted : (marker : Bool) (t : ℕ) (own : List ℕ) (h : History) → HasFirstTenure marker t own h.tenures → marker ≡ false → h.entry.removal ≡ None
    → items_by own (shares_of h) ≡ held_item true h.entry.size (day t) ∷ []
own_admitted true t own h first e held = absurd (cc e)
own_admitted false t own h first e held =
    ap (λ ts. items_by own (shares_from h.entry.size h.entry.removal true ts)) first
    ∙ items_own own (share h.entry.size true (first_of own t) (removal_day h.entry.removal) true) [] ((bytes_eq-Decides own own).1 refl)
    ∙ ap (λ (r : Option Removal). record { size = h.entry.size; first = true; from = day t; ended = removal_day r; last = true } ∷ []) held

-- ---- a removal

-- it ends the last tenure: for another department all stays
ended_elsewhere : (size : ℕ) (r : Removal) (first : Bool) (ts : List Tenure) (own d : List ℕ) → option_map (λ (t : Tenure). t.dept) (last_tenure ts) ≡ Some own → bytes_eq own d ≡ false
    → items_by d (shares_from size (Some r) first ts) ≡ items_by d (shares_from size None first ts)
ended_elsewhere size r first [] own d last other = refl
ended_elsewhere size r first (t ∷ []) own d last other =
    let same : t.dept ≡ own = cc last in
    let apart : bytes_eq t.dept d ≡ false = ap (λ n. bytes_eq n d) same ∙ other in
    items_skip d (share size first t (Some (day r.at)) true) [] apart ∙ sym (items_skip d (share size first t None true) [] apart)
ended_elsewhere size r first (t ∷ u ∷ us) own d last other =
    let s = share size first t (Some (day u.from)) false in
    items_cons d s (shares_from size (Some r) false (u ∷ us))
    ∙ ap (λ (l : List Item). cond (bytes_eq t.dept d) (s.item ∷ l) l) (ended_elsewhere size r false (u ∷ us) own d last other)
    ∙ sym (items_cons d s (shares_from size None false (u ∷ us)))

-- so a history that is held and removed counts as before for each department but its bucket's
pub other_removed : (v : Vault) (marker : Bool) (h : History) (r : Removal) (own : BucketConfig) (d : List ℕ) → HasTenuresAs marker v h → h.entry.removal ≡ None → config_of v h.entry.bucket ≡ Some own → bytes_eq own.dept d ≡ false
    → items_by d (shares_of (removed_by r h)) ≡ items_by d (shares_of h)
other_removed v true h r own d has held placed other =
    ap (λ ts. items_by d (shares_from h.entry.size (Some r) true ts)) has ∙ sym (ap (λ ts. items_by d (shares_from h.entry.size h.entry.removal true ts)) has)
other_removed v false h r own d has held placed other =
    let with : IsWithBucket v None h = subst (λ o. IsWithBucket v o h) held has.2 in
    let last : option_map (λ (t : Tenure). t.dept) (last_tenure h.tenures) ≡ Some own.dept = with ∙ ap (λ (o : Option BucketConfig). option_map (λ c. c.dept) o) placed in
    ended_elsewhere h.entry.size r true h.tenures own.dept d last other
    ∙ sym (ap (λ (o : Option Removal). items_by d (shares_from h.entry.size o true h.tenures)) held)

-- and a marker for none
pub marker_removed : (v : Vault) (marker : Bool) (h : History) (r : Removal) (d : List ℕ) → HasTenuresAs marker v h → marker ≡ true → items_by d (shares_of (removed_by r h)) ≡ items_by d (shares_of h)
marker_removed v true h r d has e =
    ap (λ ts. items_by d (shares_from h.entry.size (Some r) true ts)) has ∙ sym (ap (λ ts. items_by d (shares_from h.entry.size h.entry.removal true ts)) has)
marker_removed v false h r d has e = absurd (cc e)

-- ---- the tenure that a removal ends

-- of some tenures, one of that size from that day is held first, and ends on the other day
pub record EndsOne (size from end : ℕ) (was is : List Item) : Type 0 where
  pub first : Bool
  pub before : List Item
  pub after : List Item
  pub held : was ≡ before ++ held_item first size from ∷ after
  pub ended : is ≡ before ++ removed_item first size from end ∷ after

-- the same with these before them
pub ends_after : (size from end : ℕ) (xs was is : List Item) → EndsOne size from end was is → EndsOne size from end (xs ++ was) (xs ++ is)
ends_after size from end xs was is it = record {
  first = it.first;
  before = xs ++ it.before;
  after = it.after;
  held = ap (λ l. xs ++ l) it.held ∙ sym (append_assoc xs it.before (held_item it.first size from ∷ it.after));
  ended = ap (λ l. xs ++ l) it.ended ∙ sym (append_assoc xs it.before (removed_item it.first size from end ∷ it.after));
}

-- and after them
pub ends_before : (size from end : ℕ) (xs was is : List Item) → EndsOne size from end was is → EndsOne size from end (was ++ xs) (is ++ xs)
ends_before size from end xs was is it = record {
  first = it.first;
  before = it.before;
  after = it.after ++ xs;
  held = ap (λ l. l ++ xs) it.held ∙ append_assoc it.before (held_item it.first size from ∷ it.after) xs;
  ended = ap (λ l. l ++ xs) it.ended ∙ append_assoc it.before (removed_item it.first size from end ∷ it.after) xs;
}

-- of the tenures of a version, the last one ends
pub last_ends : (size : ℕ) (r : Removal) (first : Bool) (ts : List Tenure) (t : Tenure) → last_tenure ts ≡ Some t
    → EndsOne size (day t.from) (day r.at) (items_by t.dept (shares_from size None first ts)) (items_by t.dept (shares_from size (Some r) first ts))
last_ends size r first [] t last = absurd (cc last)
last_ends size r first (u ∷ []) t last =
    let same : u ≡ t = cc last in
    let own : bytes_eq t.dept t.dept ≡ true = (bytes_eq-Decides t.dept t.dept).1 refl in
    subst (λ (x : Tenure). EndsOne size (day t.from) (day r.at) (items_by t.dept (shares_from size None first (x ∷ []))) (items_by t.dept (shares_from size (Some r) first (x ∷ [])))) (sym same) (record {
      first = first;
      before = [];
      after = [];
      held = items_own t.dept (share size first t None true) [] own;
      ended = items_own t.dept (share size first t (Some (day r.at)) true) [] own;
    })
last_ends size r first (u ∷ w ∷ ws) t last =
    let s = share size first u (Some (day w.from)) false in
    let it = last_ends size r false (w ∷ ws) t last in
    elim (bytes_eq u.dept t.dept) as (λ b. bytes_eq u.dept t.dept ≡ b → EndsOne size (day t.from) (day r.at) (items_by t.dept (s ∷ shares_from size None false (w ∷ ws))) (items_by t.dept (s ∷ shares_from size (Some r) false (w ∷ ws)))) [
      | true ↦ λ own. record {
        first = it.first;
        before = s.item ∷ it.before;
        after = it.after;
        held = items_own t.dept s (shares_from size None false (w ∷ ws)) own ∙ ap (λ l. s.item ∷ l) it.held;
        ended = items_own t.dept s (shares_from size (Some r) false (w ∷ ws)) own ∙ ap (λ l. s.item ∷ l) it.ended;
      }
      | false ↦ λ other. record {
        first = it.first;
        before = it.before;
        after = it.after;
        held = items_skip t.dept s (shares_from size None false (w ∷ ws)) other ∙ it.held;
        ended = items_skip t.dept s (shares_from size (Some r) false (w ∷ ws)) other ∙ it.ended;
      }
    ] refl
