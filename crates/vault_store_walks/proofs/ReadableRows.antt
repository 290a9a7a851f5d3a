-- The rows that the walks find of a vault are in their limits.
use Rattle.std.proofs.Common.{◌≡◌, ℕ, ◌≤◌, List, [], ◌∷◌, ◌++◌, map, flat_map, true, not, option_to_list, sym, subst}
use Rattle.std.specs.List.{AllByRecursion}
use Rattle.sqlite_value.specs.Order.{Row}
use Rattle.vault_base.specs.Limits.{most_external}
use Rattle.vault_core_model.specs.Places.{is_held, is_held_version_in}
use Rattle.vault_core_model.specs.Reads.{removed_entries}
use Rattle.vault_core_model.specs.Sound.{last_tenure}
use Rattle.vault_core_model.specs.Totals.{held_versions_in}
use Rattle.vault_core_model.specs.Vault.{Vault}
use Rattle.vault_core_model.specs.declared.records.History.{History}
use Rattle.vault_core_model.specs.declared.records.Tenure.{Tenure}
use Rattle.vault_audit_model.specs.Limits.{IsEntry, IsHistory, IsTenure}
use Rattle.vault_audit_model.specs.Relations.{AreTenuresInLimits}
use Rattle.vault_audit_model.specs.Rows.{entry_row}
use Rattle.vault_audit_model.specs.Spells.{IsKept}
use Rattle.vault_audit_model.proofs.ListLemmas.{all_as, all_both}
use Rattle.vault_audit_rows.specs.Records.{ReportsOne}
use Rattle.vault_store_reads.specs.Readable.{AreReadable}
use Rattle.vault_store_reads.proofs.LimitLemmas.{at_seam}
use Rattle.vault_store_reads.proofs.ReadableLemmas.{reported}
use Rattle.vault_store_reads.proofs.WiderLemmas.{small, wider_entry}
use Rattle.vault_store_walks.specs.Sized.{IsSizedRow, sized_of, sized_row, sized_with}
use Rattle.vault_audit_rows.proofs.LimitLemmas.{all_filtered, all_flat, all_mapped, tenured}

last_sized : (size : ℕ) (ts : List Tenure) → size ≤ most_external → AllByRecursion IsTenure ts → AllByRecursion IsSizedRow (map (sized_with size) (option_to_list (last_tenure ts)))
last_sized size [] low all = tt
last_sized size (t ∷ []) low all = (record { size = low; from = all.0.from }, tt)
last_sized size (t ∷ u ∷ us) low all = last_sized size (u ∷ us) low all.1

module _ (v : Vault) (kept : IsKept v) where
  pub sized_readable : (bucket : List ℕ) → AreReadable sized_row IsSizedRow (map sized_row (flat_map sized_of (held_versions_in v bucket)))
  sized_readable bucket =
      reported sized_row IsSizedRow _
      (all_flat IsSizedRow sized_of (held_versions_in v bucket)
      (all_filtered (λ (h : History). AllByRecursion IsSizedRow (sized_of h)) (λ h. is_held_version_in bucket h.entry) v.histories
      (all_as (λ (h : History) (is : IsHistory v.external h × AreTenuresInLimits h). last_sized h.entry.size h.tenures (small v.external h is.0) is.1) v.histories (all_both (IsHistory v.external) AreTenuresInLimits v.histories kept.limits.histories (tenured v kept)))))

  -- a row that one of the removed entries has
  pub removed_readable : (given : List Row) (row : Row) (tail : List Row) → (given ++ row ∷ []) ++ tail ≡ map entry_row (removed_entries v) → ReportsOne entry_row (IsEntry true) row
  removed_readable given row tail are =
      let gone = all_filtered (IsHistory v.external) (λ h. not (is_held h.entry)) v.histories kept.limits.histories in
      let all = reported entry_row (IsEntry true) (removed_entries v) (all_mapped (IsEntry true) (λ (h : History). h.entry) _ (all_as (λ (h : History) (is : IsHistory v.external h). wider_entry v.external h.entry is.entry) _ gone)) in
      at_seam (ReportsOne entry_row (IsEntry true)) given row tail (subst (AllByRecursion (ReportsOne entry_row (IsEntry true))) (sym are) all)
