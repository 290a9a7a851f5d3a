-- Tenures that are counted one by one.
use Rattle.std.proofs.Common.{◌≡◌, ℕ, ◌+◌, ◌≤◌, List, [], ◌∷◌, ◌++◌, Bool, true, false, cond, is_eq, Option, Some, unwrap_or, sum_by, IsTrue, refl, sym, ap, subst, ◌∙◌, arith}
use Rattle.std.specs.BTreeMap.{get}
use Rattle.std.specs.Str.{bytes_eq}
use Rattle.std.proofs.lemmas.List.Sums.{sum_by_push}
use Rattle.std.proofs.lemmas.Map.Text.{is_eq-slice_cmp}
use Rattle.std.proofs.lemmas.Slice.Eq.{bytes_eq-Decides}
use Rattle.sqlite_keyed.proofs.ListLemmas.{list_all_push}
use Rattle.vault_tally.specs.Row.{Item, IsRowOf, AreBounded, is_dated, size_of, quota}
use Rattle.vault_tally.specs.declared.row.Row.{Row}
use Rattle.vault_tally.proofs.Bounds.{got}
use Rattle.vault_core_model.specs.Order.{name_cmp}
use Rattle.vault_audit_model.specs.Spells.{sums_over}
use Rattle.vault_audit_tenures.specs.declared.sums.totals.Totals.{Totals}
use Rattle.vault_audit_tenures.specs.Totals.{empty_sums, total_of, IsTotal, IsCounted}

-- ---- no tenure

none_bounded : AreBounded []
none_bounded = record { dated = refl; within = omega arith }

pub no_item : IsTotal (Some empty_sums) []
no_item = (
  record { admitted = refl; received = refl; held = refl; removed = refl; handed = refl; weighted = refl; closed = refl },
  none_bounded,
)

-- ---- one more

-- what a department admitted and received are the sizes of its tenures
sizes_are : (sums : Row) (items : List Item) → IsRowOf sums items → sums.admitted + sums.received ≡ sum_by size_of items
sizes_are sums items is = omega (arith, is.admitted, is.received, got items)

-- a list that is bounded is so with one tenure more that is dated and within the quota
pub bounded_with : (sums : Row) (items : List Item) (x : Item) → IsRowOf sums items → AreBounded items → IsTrue (is_dated x) → sums.admitted + sums.received + x.size ≤ quota → AreBounded (items ++ x ∷ [])
bounded_with sums items x is are dates within = record {
  dated = list_all_push is_dated items x are.dated dates;
  within = let more = sum_by_push size_of items x in omega (arith, more, sizes_are sums items is, within);
}

-- tenures above the quota are so with one more
pub above_before : (items : List Item) (x : Item) → (¬ (sum_by size_of items ≤ quota)) → ¬ (sum_by size_of (items ++ x ∷ []) ≤ quota)
above_before items x above within = let more = sum_by_push size_of items x in above (omega (arith, more, within))

-- and so are those that one more takes there
pub above_now : (sums : Row) (items : List Item) (x : Item) → IsRowOf sums items → (¬ (sums.admitted + sums.received + x.size ≤ quota)) → ¬ (sum_by size_of (items ++ x ∷ []) ≤ quota)
above_now sums items x is above within = let more = sum_by_push size_of items x in above (omega (arith, more, sizes_are sums items is, within))

-- what is said of one tenure is said of the same in other words
pub counted_in : (sums : Row) (items : List Item) (x y : Item) → x ≡ y → (AreBounded (items ++ x ∷ []) → IsRowOf sums (items ++ x ∷ [])) → AreBounded (items ++ y ∷ []) → IsRowOf sums (items ++ y ∷ [])
counted_in sums items x y same counts = subst (λ i. AreBounded (items ++ i ∷ []) → IsRowOf sums (items ++ i ∷ [])) same counts

pub sums_are : (row : Row) (items : List Item) → IsRowOf row items → row ≡ sums_over items
sums_are row items is = rw (is.admitted, is.received, is.held, is.removed, is.handed, is.weighted, is.closed) refl

-- what is put at a department's name is its total, and every other department keeps its own
pub counted_at : (dept : List ℕ) (s t : Totals) (i : Item) (now : Option Row) → ((name : List ℕ) → get name_cmp t.sums name ≡ cond (is_eq (name_cmp dept name)) (Some now) (get name_cmp s.sums name))
    → IsCounted true (total_of s dept) i now → (name : List ℕ) → IsCounted (bytes_eq dept name) (total_of s name) i (total_of t name)
counted_at dept s t i now put counted name = of (bytes_eq dept name) refl (put name ∙ ap (λ b. cond b (Some now) (get name_cmp s.sums name)) (is_eq-slice_cmp dept name))
  where
    of : (b : Bool) → bytes_eq dept name ≡ b → get name_cmp t.sums name ≡ cond b (Some now) (get name_cmp s.sums name) → IsCounted b (total_of s name) i (total_of t name)
    of true same is = λ items are dates.
        let it : dept ≡ name = (bytes_eq-Decides dept name).0 same in
        subst (λ o. IsTotal (unwrap_or o (Some empty_sums)) (items ++ i ∷ [])) (sym is) (counted items (subst (λ n. IsTotal (total_of s n) items) (sym it) are) dates)
    of false other is = ap (λ o. unwrap_or o (Some empty_sums)) is
