-- Rows of departments, callers and buckets, by a name.
use Rattle.std.proofs.Common.{◌≡◌, inl, inr, ℕ, suc, ◌==◌, List, [], ◌∷◌, map, filter, not, Bool, true, false, Option, None, Some, option_to_list, length, slice_get, IsPermutation, Equal, refl, sym, ap, subst, ◌∙◌, arith}
use Rattle.std.specs.Prelude.{option_map}
use Rattle.std.specs.List.{list_any}
use Rattle.std.specs.Str.{bytes_eq}
use Rattle.std.proofs.lemmas.Bool.{cases_Bool}
use Rattle.std.proofs.lemmas.Cmp.{nat_list_cmp_total, tied_itself}
use Rattle.std.proofs.lemmas.List.{length-map}
use Rattle.std.proofs.lemmas.List.Sorted.{length_permutation}
use Rattle.std.proofs.lemmas.Slice.Eq.{bytes_eq-Decides}
use Rattle.sqlite_tied.proofs.RuleLemmas.{and_true}
use Rattle.sqlite_value.specs.declared.value.Value.TheVariants.{Text}
use Rattle.sqlite_value.specs.declared.keys.Collation.TheVariants.{Binary}
use Rattle.sqlite_value.specs.Order.{Row, column}
use Rattle.sqlite_sql.specs.declared.ops.BinaryOp.TheVariants.{Compare}
use Rattle.sqlite_sql.specs.declared.ops.CompareOp.TheVariants.{Eq}
use Rattle.sqlite_sql.specs.Ops.{binary, is_true}
use Rattle.vault_base.specs.declared.refusal.Table.TheVariants as table
use Rattle.vault_tally.specs.Row.{IsRowOf}
use Rattle.vault_core_model.specs.declared.records.Bucket.{Bucket}
use Rattle.vault_core_model.specs.declared.records.Caller.{Caller}
use Rattle.vault_core_model.specs.Order.{name_cmp, caller_cmp, bucket_cmp}
use Rattle.vault_core_model.specs.Totals.{IsRowFor, items_of}
use Rattle.vault_core_model.specs.Vault.{Vault, has_department, caller_of, bucket_in, config_of}
use Rattle.vault_audit_model.specs.declared.rows.BucketRow.{BucketRow}
use Rattle.vault_audit_model.specs.declared.rows.DepartmentRow.{DepartmentRow}
use Rattle.vault_audit_model.specs.Limits.{IsPlainName, IsDepartmentRow, IsCaller, IsBucket, IsBucketRow}
use Rattle.vault_audit_model.specs.Rows.{department_row, department_columns, caller_row, caller_columns, bucket_row, bucket_columns}
use Rattle.vault_audit_model.specs.Spells.{department_in, bucket_of}
use Rattle.vault_audit_model.specs.Tables.{departments_tree, callers_tree, buckets_tree}
use Rattle.vault_audit_model.proofs.SameRows.{number_same, same_caller, same_bucket}
use Rattle.vault_store_model.proofs.DepartmentLemmas.{no_items}
use Rattle.vault_store_model.proofs.RowsLemmas.{sound_is_rows}
use Rattle.vault_audit_rows.specs.Records.{ReportsOne}
use Rattle.vault_store_reads.specs.Queries.{FindsRows}
use Rattle.vault_store_reads.proofs.FindLemmas.{records_found, at_most_one, first_found, none_found, read_found}
use Rattle.vault_store_reads.proofs.LimitLemmas.{all_found, first_limited}
use Rattle.vault_store_reads.proofs.ListLemmas.{first_of, none_of}
use Rattle.vault_store_reads.proofs.TextLemmas.{where_is, department_text, department_shown, department_selects, caller_text, caller_shown, caller_selects, bucket_text, bucket_shown, bucket_selects}
use Rattle.vault_audit_model.proofs.ValueLemmas.{same_text}
use Rattle.vault_audit_rows.proofs.LimitLemmas.{all_filtered}
use Rattle.sqlite_rules.proofs.ListLemmas.{has_filtered}

-- a row whose first column is the name
abbrev has_name : List ℕ → Row → Bool
has_name name r = is_true (binary (Compare Eq Binary) (column r 0) (Text name))

named : (a name : List ℕ) → bytes_eq a name ≡ true → a ≡ name
named a name e = (bytes_eq-Decides a name).0 e

pub tied_names : (a b name : List ℕ) → bytes_eq a name ≡ true → bytes_eq b name ≡ true → name_cmp a b ≡ Equal
tied_names a b name p q = rw (named a name p, named b name q) (tied_itself nat_list_cmp_total name)

-- ---- departments

filled : (n : ℕ) → not (suc n == 0) ≡ true
filled n = grind arith

any_left : {X : Type 0} (p : X → Bool) (xs : List X) → list_any p xs ≡ not (length (filter p xs) == 0)
any_left p [] = refl
any_left p (x ∷ xs) = elim (cases_Bool (p x)) [
  | inl passed ↦ rw passed (sym (filled (length (filter p xs))))
  | inr failed ↦ rw failed (any_left p xs)
]

module _ (v : Vault) (name : List ℕ) (rows : List Row) (finds : FindsRows v department_text (Text name ∷ []) rows) where
  abbrev row_in : List ℕ → Row
  row_in d = department_row (department_in v d)

  departments_found : IsPermutation (map row_in (filter (λ d. bytes_eq d name) v.departments)) rows
  departments_found =
      records_found row_in department_columns departments_tree (where_is 1 0 ∷ []) department_shown (Text name ∷ []) (has_name name) (λ d. bytes_eq d name) (λ r. refl) (λ r. and_true _) (λ d. same_text d name)
      finds.0 v.departments rows (((sound_is_rows finds.0 v).0 finds.1).rows table.Departments) (finds.2 _ (department_selects v.external))

  pub department_there : not (length rows == 0) ≡ has_department v name
  department_there =
      let few = length_permutation (map row_in (filter (λ d. bytes_eq d name) v.departments)) rows departments_found in
      let each : length (map row_in (filter (λ d. bytes_eq d name) v.departments)) ≡ length (filter (λ d. bytes_eq d name) v.departments) = simp length-map in
      sym (any_left (λ d. bytes_eq d name) v.departments ∙ ap (λ n. not (n == 0)) (sym each ∙ sym few))

  pub department_limited : (row : Row) → slice_get rows 0 ≡ Some row → ReportsOne department_row IsDepartmentRow row
  department_limited row first =
      let names = all_filtered IsPlainName (λ d. bytes_eq d name) v.departments finds.1.spells.kept.limits.departments in
      let it = first_limited row_in IsPlainName (filter (λ d. bytes_eq d name) v.departments) rows row names departments_found first in
      (department_in v it.0, it.1, it.2)

  -- the row states the seven sums
  sums_read : (d : DepartmentRow) (x : List ℕ) → department_row d ≡ row_in x → IsRowFor v x d.sums
  sums_read d x e =
      let at = λ (n : ℕ). ap (λ r. column r n) e in
      record {
        admitted = number_same _ _ (at 1);
        received = number_same _ _ (at 6);
        held = number_same _ _ (at 2);
        removed = number_same _ _ (at 3);
        handed = number_same _ _ (at 7);
        weighted = number_same _ _ (at 4);
        closed = number_same _ _ (at 5);
      }

  pub totals_read : (row : Row) (d : DepartmentRow) → slice_get rows 0 ≡ Some row → row ≡ department_row d → IsRowFor v name d.sums
  totals_read row d first reads =
      let it = first_of row_in (filter (λ d. bytes_eq d name) v.departments) rows row departments_found first in
      let is = has_filtered (λ d. bytes_eq d name) v.departments it.0 it.1 in
      subst (λ x. IsRowFor v x d.sums) (named it.0 name is.1) (sums_read d it.0 (sym reads ∙ it.2))

  pub totals_of_none : ◌≡◌ {A = Option Row} None (slice_get rows 0) → IsRowFor v name (record { admitted = 0; received = 0; held = 0; removed = 0; handed = 0; weighted = 0; closed = 0 })
  totals_of_none none =
      let gone = none_of row_in (filter (λ d. bytes_eq d name) v.departments) rows departments_found none in
      let missing : has_department v name ≡ false = any_left (λ d. bytes_eq d name) v.departments ∙ ap (λ (ds : List (List ℕ)). not (length ds == 0)) gone in
      let empty : items_of v name ≡ [] = no_items v name finds.1.spells.kept.sound missing in
      subst (IsRowOf (record { admitted = 0; received = 0; held = 0; removed = 0; handed = 0; weighted = 0; closed = 0 })) (sym empty) (record { admitted = refl; received = refl; held = refl; removed = refl; handed = refl; weighted = refl; closed = refl })

-- ---- callers

module _ (v : Vault) (name : List ℕ) (rows : List Row) (finds : FindsRows v caller_text (Text name ∷ []) rows) where
  caller_found : IsPermutation (map caller_row (option_to_list (caller_of v name))) rows
  caller_found =
      subst (λ cs. IsPermutation (map caller_row cs) rows)
      (at_most_one caller_cmp (λ (c : Caller). bytes_eq c.name name) (λ a b. tied_names a.name b.name name) v.callers finds.1.spells.kept.sound.ordered.callers)
      (records_found caller_row caller_columns callers_tree (where_is 1 0 ∷ []) caller_shown (Text name ∷ []) (has_name name) (λ (c : Caller). bytes_eq c.name name) (λ r. refl) (λ r. and_true _) (λ c. same_text c.name name)
      finds.0 v.callers rows finds.1.spells.callers (finds.2 _ (caller_selects v.external)))

  pub caller_read : (row : Row) (c : Caller) → slice_get rows 0 ≡ Some row → row ≡ caller_row c → Some c ≡ caller_of v name
  caller_read row c first reads = read_found caller_row same_caller (caller_of v name) rows row c caller_found first reads

  pub caller_limited : (row : Row) → slice_get rows 0 ≡ Some row → ReportsOne caller_row IsCaller row
  caller_limited row first =
      first_limited caller_row IsCaller (option_to_list (caller_of v name)) rows row (all_found IsCaller (λ (c : Caller). bytes_eq c.name name) v.callers finds.1.spells.kept.limits.callers) caller_found first

  pub no_caller : ◌≡◌ {A = Option Row} None (slice_get rows 0) → None ≡ caller_of v name
  no_caller none = sym (none_found caller_row (caller_of v name) rows caller_found none)

-- ---- buckets

module _ (v : Vault) (name : List ℕ) (rows : List Row) (finds : FindsRows v bucket_text (Text name ∷ []) rows) where
  abbrev row_for : Bucket → Row
  row_for b = bucket_row (bucket_of b)

  bucket_found : IsPermutation (map row_for (option_to_list (bucket_in v.buckets name))) rows
  bucket_found =
      subst (λ bs. IsPermutation (map row_for bs) rows)
      (at_most_one bucket_cmp (λ (b : Bucket). bytes_eq b.name name) (λ a b. tied_names a.name b.name name) v.buckets finds.1.spells.kept.sound.ordered.buckets)
      (records_found row_for bucket_columns buckets_tree (where_is 1 0 ∷ []) bucket_shown (Text name ∷ []) (has_name name) (λ (b : Bucket). bytes_eq b.name name) (λ r. refl) (λ r. and_true _) (λ b. same_text b.name name)
      finds.0 v.buckets rows finds.1.spells.buckets (finds.2 _ (bucket_selects v.external)))

  pub config_read : (row : Row) (r : BucketRow) → slice_get rows 0 ≡ Some row → row ≡ bucket_row r → Some r.config ≡ config_of v name
  config_read row r first reads =
      let it = first_found row_for (bucket_in v.buckets name) rows row bucket_found first in
      let same : r ≡ bucket_of it.0 = same_bucket r (bucket_of it.0) (sym reads ∙ it.2) in
      ap (λ (x : BucketRow). Some x.config) same ∙ sym (ap (option_map (λ (b : Bucket). b.config)) it.1)

  pub bucket_limited : (row : Row) → slice_get rows 0 ≡ Some row → ReportsOne bucket_row IsBucketRow row
  bucket_limited row first =
      let it = first_limited row_for IsBucket (option_to_list (bucket_in v.buckets name)) rows row (all_found IsBucket (λ (b : Bucket). bytes_eq b.name name) v.buckets finds.1.spells.kept.limits.buckets) bucket_found first in
      (bucket_of it.0, it.1, record { name = it.2.name; config = it.2.config })

  pub no_config : ◌≡◌ {A = Option Row} None (slice_get rows 0) → None ≡ config_of v name
  no_config none = sym (ap (option_map (λ (b : Bucket). b.config)) (none_found row_for (bucket_in v.buckets name) rows bucket_found none))
