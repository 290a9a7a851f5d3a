-- The history of an id, and what becomes of a department's sums where histories change.
use Rattle.std.proofs.Common.{◌≡◌, ℕ, ◌+◌, ◌<◌, ◌==◌, List, [], ◌∷◌, ◌++◌, map, cond, Bool, true, false, Option, Some, None, refl, sym, ap, subst, ◌∙◌, arith, append-nil}
use Rattle.std.specs.Prelude.{find, option_map}
use Rattle.std.specs.List.{AllByRecursion}
use Rattle.std.specs.Str.{bytes_eq}
use Rattle.std.proofs.lemmas.Bool.{eqb-true}
use Rattle.std.proofs.lemmas.Cmp.{nat_list_eq_equiv}
use Rattle.std.proofs.lemmas.Slice.Eq.{bytes_eq-Decides}
use Rattle.sqlite_trees.proofs.ListLemmas.{all_weaker}
use Rattle.sqlite_value.specs.Order.{Row}
use Rattle.vault_tally.specs.Row.{Item}
use Rattle.vault_core_model.specs.declared.records.BucketConfig.{BucketConfig}
use Rattle.vault_core_model.specs.declared.records.Entry.{Entry}
use Rattle.vault_core_model.specs.declared.records.History.{History}
use Rattle.vault_core_model.specs.Sound.{AreIdsFrom}
use Rattle.vault_core_model.specs.Totals.{items_by, items_in, items_of, shares_of}
use Rattle.vault_core_model.specs.Vault.{Vault}
use Rattle.vault_core_laws.proofs.Newest.{finds_itself}
use Rattle.vault_audit_model.specs.Rows.{department_row}
use Rattle.vault_audit_model.specs.Spells.{department_in, sums_over}
use Rattle.vault_store_model.specs.Edits.{changed_if}
use Rattle.vault_store_model.specs.Tests.{is_named, with_sums}
use Rattle.vault_store_model.specs.Changes.{summed}
use Rattle.vault_store_model.proofs.ListLemmas.{flat_map-append, flat_map_one}

-- ---- ids

pub apart : (a b : ℕ) → b < a → (a == b) ≡ false
apart a b less = grind (arith, less)

-- those after an id have others
pub other_ids : (n id : ℕ) (hs : List History) → id < n → AreIdsFrom n hs → AllByRecursion (λ h. (h.entry.id == id) ≡ false) hs
other_ids n id [] less ids = tt
other_ids n id (h ∷ hs) less ids = (apart h.entry.id id (omega (arith, ids.0)), other_ids (n + 1) id hs (omega arith) ids.1)

-- what was found by an id
pub found_history : (o : Option History) (e : Entry) → option_map (λ (h : History). h.entry) o ≡ Some e → (g : History) × (o ≡ Some g) × (g.entry ≡ e)
found_history None e there = absurd (cc there)
found_history (Some g) e there = let same : g.entry ≡ e = cc there in (g, refl, same)

-- is the one of that id
pub each_is : (hs : List History) (id : ℕ) (g : History) → AreIdsFrom 1 hs → find (λ h. h.entry.id == id) hs ≡ Some g → AllByRecursion (λ h. (h.entry.id == id) ≡ true → h ≡ g) hs
each_is hs id g ids found =
    all_weaker (λ y. find (λ h. h.entry.id == y.entry.id) hs ≡ Some y) (λ h. (h.entry.id == id) ≡ true → h ≡ g)
    (λ y own same.
    let at : find (λ h. h.entry.id == id) hs ≡ Some y = subst (λ i. find (λ h. h.entry.id == i) hs ≡ Some y) (eqb-true y.entry.id id same) own in
    some_same y g (sym at ∙ found)) hs (finds_itself 1 hs ids)
  where
    some_same : (y g : History) → Some y ≡ Some g → y ≡ g
    some_same y g e = cc e

-- ---- items

pub items_push : (dept : List ℕ) (hs : List History) (h : History) → items_in dept (hs ++ h ∷ []) ≡ items_in dept hs ++ items_by dept (shares_of h)
items_push dept hs h =
    flat_map-append (λ (x : History). items_by dept (shares_of x)) hs (h ∷ []) ∙ ap (λ (items : List Item). items_in dept hs ++ items) (flat_map_one (λ (x : History). items_by dept (shares_of x)) h)

-- an entry more that doesn't count for the department
pub items_other : (dept : List ℕ) (hs : List History) (h : History) → items_by dept (shares_of h) ≡ [] → items_in dept (hs ++ h ∷ []) ≡ items_in dept hs
items_other dept hs h none = items_push dept hs h ∙ ap (λ (items : List Item). items_in dept hs ++ items) none ∙ append-nil (items_in dept hs)

-- histories that are altered, and count as before for the department
pub items_mapped : (dept : List ℕ) (f : History → History) (hs : List History) → AllByRecursion (λ h. items_by dept (shares_of (f h)) ≡ items_by dept (shares_of h)) hs → items_in dept (map f hs) ≡ items_in dept hs
items_mapped dept f [] all = refl
items_mapped dept f (h ∷ hs) all =
    ap (λ (items : List Item). items ++ items_in dept (map f hs)) all.0 ∙ ap (λ (items : List Item). items_by dept (shares_of h) ++ items) (items_mapped dept f hs all.1)

-- ---- the row of a department

pub texts_turned : (a b : List ℕ) (c : Bool) → bytes_eq a b ≡ c → bytes_eq b a ≡ c
texts_turned a b c e = nat_list_eq_equiv.symm b a ∙ e

one_summed : (v w : Vault) (dept d : List ℕ) → (bytes_eq d dept ≡ false → items_of w d ≡ items_of v d)
    → department_row (department_in w d) ≡ changed_if (is_named dept) (with_sums (department_in w dept).sums) (department_row (department_in v d))
one_summed v w dept d others =
    elim (bytes_eq d dept) as (λ b. bytes_eq d dept ≡ b → department_row (department_in w d) ≡ cond b (with_sums (department_in w dept).sums (department_row (department_in v d))) (department_row (department_in v d))) [
      | true ↦ λ here. ap (λ n. with_sums (department_in w n).sums (department_row (department_in v d))) ((bytes_eq-Decides d dept).0 here)
      | false ↦ λ other. ap (λ (items : List Item). department_row (record { name = d; sums = sums_over items })) (others other)
    ] refl

-- the rows of departments, where only the tenures of one department changed
pub sums_written : (v w : Vault) (config : BucketConfig) (ds : List (List ℕ)) → ((d : List ℕ) → bytes_eq d config.dept ≡ false → items_of w d ≡ items_of v d)
    → map (λ d. department_row (department_in w d)) ds ≡ summed w false (Some config) (map (λ d. department_row (department_in v d)) ds)
sums_written v w config [] others = refl
sums_written v w config (d ∷ ds) others =
    one (department_row (department_in w d)) _ (map (λ n. department_row (department_in w n)) ds) _ (one_summed v w config.dept d (others d)) (sums_written v w config ds others)
  where
    one : (x y : Row) (xs ys : List Row) → x ≡ y → xs ≡ ys → x ∷ xs ≡ y ∷ ys
    one x y xs ys e es = cc (e, es)
