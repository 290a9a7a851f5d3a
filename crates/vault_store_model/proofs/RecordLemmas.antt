-- The edits that add departments, callers and buckets, and close callers.
use Rattle.std.proofs.Common.{◌≡◌, ℕ, List, ◌∷◌, map, cond, true, false, IsPermutation, refl, ap, subst}
use Rattle.std.specs.Prelude.{if◌then◌else◌}
use Rattle.std.specs.Str.{bytes_eq}
use Rattle.std.proofs.lemmas.List.Sorted.{IsPermutation-refl, IsPermutation-map}
use Rattle.sqlite_trees.proofs.ListLemmas.{IsPermutation-same, IsPermutation-flat_map, all_of}
use Rattle.vault_base.specs.declared.refusal.Table.TheVariants as table
use Rattle.vault_tally.specs.Row.{Item}
use Rattle.vault_core_model.specs.declared.records.Caller.{Caller}
use Rattle.vault_core_model.specs.declared.change.Change.TheVariants.{AddDept, AddCaller, CloseCaller, AddBucket}
use Rattle.vault_core_model.specs.Change.{changed, new_bucket, closed_if}
use Rattle.vault_core_model.specs.Order.{name_cmp, caller_cmp, bucket_cmp, placed}
use Rattle.vault_core_model.specs.Sound.{Sound}
use Rattle.vault_core_model.specs.Totals.{items_of}
use Rattle.vault_core_model.specs.Vault.{Vault, has_department}
use Rattle.vault_audit_model.specs.Rows.{department_row, caller_row, bucket_row, rule_row}
use Rattle.vault_audit_model.specs.Spells.{bucket_of, rules_in, department_in, sums_over}
use Rattle.vault_store_model.specs.Rows.{AreSameRows, rows_of}
use Rattle.vault_store_model.specs.Edits.{changed_if}
use Rattle.vault_store_model.specs.Tests.{is_named, closed_row}
use Rattle.vault_store_model.proofs.DepartmentLemmas.{no_items}
use Rattle.vault_store_model.specs.Changes.{edit_of}
use Rattle.vault_store_model.proofs.ListLemmas.{placed_in_front, map_each, map_rows}

-- ---- a new department has no tenures

pub dept_added : (v : Vault) (t : ℕ) (name : List ℕ) → Sound v → has_department v name ≡ false → AreSameRows (rows_of (changed v t (AddDept name))) (edit_of v t (AddDept name) (rows_of v))
dept_added v t name sound free table.Departments =
    subst (λ (items : List Item). IsPermutation (map (λ d. department_row (department_in v d)) (placed name_cmp name v.departments)) (department_row (record { name = name; sums = sums_over items }) ∷ map (λ d. department_row (department_in v d)) v.departments))
    (no_items v name sound free)
    (IsPermutation-map (λ d. department_row (department_in v d)) _ _ (placed_in_front name_cmp name v.departments))
dept_added v t name sound free _ = IsPermutation-refl _

-- ---- callers

pub caller_added : (v : Vault) (t : ℕ) (c : Caller) → AreSameRows (rows_of (changed v t (AddCaller c))) (edit_of v t (AddCaller c) (rows_of v))
caller_added v t c table.Callers = IsPermutation-map caller_row _ _ (placed_in_front caller_cmp c v.callers)
caller_added v t c _ = IsPermutation-refl _

caller_row_closed : (name : List ℕ) (c : Caller) → caller_row (closed_if name c) ≡ changed_if (is_named name) closed_row (caller_row c)
caller_row_closed name c =
    elim (bytes_eq c.name name) as (λ b. caller_row (if b then record c { closed = true } else c) ≡ cond b (closed_row (caller_row c)) (caller_row c)) [ true ↦ refl | false ↦ refl ]

pub caller_closed : (v : Vault) (t : ℕ) (name : List ℕ) → AreSameRows (rows_of (changed v t (CloseCaller name))) (edit_of v t (CloseCaller name) (rows_of v))
caller_closed v t name table.Callers = IsPermutation-same _ _ (map_rows caller_row (closed_if name) (changed_if (is_named name) closed_row) (caller_row_closed name) v.callers)
caller_closed v t name _ = IsPermutation-refl _

-- ---- buckets

pub sums_by_items : (v w : Vault) → ((dept : List ℕ) → items_of w dept ≡ items_of v dept) → map (λ d. department_row (department_in w d)) v.departments ≡ map (λ d. department_row (department_in v d)) v.departments
sums_by_items v w same =
    map_each (λ d. department_row (department_in w d)) (λ d. department_row (department_in v d)) v.departments
    (all_of (λ d. department_row (department_in w d) ≡ department_row (department_in v d)) (λ d. ap (λ (items : List Item). department_row (record { name = d; sums = sums_over items })) (same d)) v.departments)

pub bucket_added : (v : Vault) (t : ℕ) (name dept : List ℕ) → AreSameRows (rows_of (changed v t (AddBucket name dept))) (edit_of v t (AddBucket name dept) (rows_of v))
bucket_added v t name dept table.Buckets = IsPermutation-map (λ b. bucket_row (bucket_of b)) _ _ (placed_in_front bucket_cmp (new_bucket name dept) v.buckets)
bucket_added v t name dept table.Rules = IsPermutation-map rule_row _ _ (IsPermutation-flat_map rules_in _ _ (placed_in_front bucket_cmp (new_bucket name dept) v.buckets))
bucket_added v t name dept _ = IsPermutation-refl _
