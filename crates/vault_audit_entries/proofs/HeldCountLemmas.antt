-- The counts of the held entries, and of the versions among them.
use Rattle.std.proofs.Common.{◌≡◌, ℕ, ◌+◌, List, [], ◌∷◌, ◌&&◌, length, map, filter, Bool, true, false, not, is_none, Some, None, Option, IsPermutation, refl, ap, subst, ◌∙◌, arith}
use Rattle.std.proofs.lemmas.List.{length-map}
use Rattle.std.proofs.lemmas.List.Sorted.{IsPermutation-map, IsPermutation-trans, length_permutation}
use Rattle.sqlite_keyed.proofs.ListLemmas.{map-map, filter-map, filter_same, IsPermutation-filter}
use Rattle.sqlite_value.specs.Order.{Row, column}
use Rattle.sqlite_sql.specs.Ops.{is_null}
use Rattle.sqlite.specs.Effect.{Database}
use Rattle.sqlite.specs.State.{State, Shown, IsUnchanged}
use Rattle.vault_core_model.specs.declared.records.Entry.{Entry}
use Rattle.vault_core_model.specs.declared.records.Removal.{Removal}
use Rattle.vault_audit_model.specs.Relations.{AreEntries}
use Rattle.vault_audit_model.specs.Rows.{bit, entry_row, entry_columns, removal_at}
use Rattle.vault_audit_model.specs.Tables.{schema_of, entries_tree}
use Rattle.vault_audit_model.specs.Values.{flag}
use Rattle.vault_audit_rows.specs.Walk.{Goes, Walked}
use Rattle.vault_audit_rows.proofs.RecordLemmas.{scanned}
use Rattle.vault_audit_entries.specs.declared.held.HeldCount.{HeldCount}
use Rattle.vault_audit_entries.specs.Contents.{is_held_version, held_count}
use Rattle.vault_audit_entries.specs.HeadCounts.{is_held, held_entry_count}
use Rattle.vault_audit_entries.specs.HeldPasses.{is_zero, is_held_row, is_version_row, Counts}
use Rattle.vault_audit_entries.proofs.ContentTextLemmas.{held_text, held_scan}
use Rattle.vault_audit_model.specs.declared.schema.SchemaVersion.{SchemaVersion}

-- what a count has come to
module _ (count_of : HeldCount → ℕ) (test : Row → Bool) (step : (p : HeldCount) (row : Row) (q : HeldCount) → Counts p row q → count_of q ≡ count_of p + bit (test row) 1) where
  counted : (p q : HeldCount) (rows : List Row) → Goes Counts p rows q → count_of q ≡ count_of p + length (filter test rows)
  counted p q [] same = let e = ap count_of same in omega (arith, e)
  counted p q (r ∷ rows) (m, one, more) = of (test r) refl (counted m q rows more)
    where
      of : (b : Bool) → test r ≡ b → count_of q ≡ count_of m + length (filter test rows) → count_of q ≡ count_of p + length (filter test (r ∷ rows))
      of true h it =
          let next : count_of m ≡ count_of p + 1 = subst (λ b. count_of m ≡ count_of p + bit b 1) h (step p r m one) in
          rw h (omega (arith, next, it))
      of false h it =
          let next : count_of m ≡ count_of p + 0 = subst (λ b. count_of m ≡ count_of p + bit b 1) h (step p r m one) in
          rw h (omega (arith, next, it))

-- the marker and the removal of an entry, from the values of its row
abbrev pub two_cells : Row → Row
two_cells x = column x 3 ∷ column x 9 ∷ []

removal_held : (r : Option Removal) → is_null (removal_at r) ≡ is_none r
removal_held None = refl
removal_held (Some r) = refl

cells_held : (m : Bool) (r : Option Removal) → (is_zero (flag m) && is_null (removal_at r)) ≡ (not m && is_none r)
cells_held true None = refl
cells_held true (Some r) = refl
cells_held false None = refl
cells_held false (Some r) = refl

-- as many rows pass as entries do
module _ (test : Row → Bool) (is : Entry → Bool) (same : (e : Entry) → test (two_cells (entry_row e)) ≡ is e) where
  tested : (es : List Entry) → length (filter test (map two_cells (map entry_row es))) ≡ length (filter is es)
  tested es =
      let shown = λ (e : Entry). two_cells (entry_row e) in
      let one : filter test (map two_cells (map entry_row es)) ≡ map shown (filter (λ e. test (shown e)) es) = ap (filter test) (map-map two_cells entry_row es) ∙ filter-map test shown es in
      let two : filter (λ e. test (shown e)) es ≡ filter is es = filter_same (λ e. test (shown e)) is same es in
      let three : length (map shown (filter is es)) ≡ length (filter is es) = simp length-map in
      ap length (one ∙ ap (map shown) two) ∙ three

module _ (n : SchemaVersion) (old new : State) (has : old.now.schema ≡ schema_of n) (same : IsUnchanged old new) (r : HeldCount) (external : Bool) (es : List Entry) (are : AreEntries external new.now es) where
  cells : (rows : List Row) → Shown held_text [] old new rows → IsPermutation (map two_cells (map entry_row es)) rows
  cells rows shown =
      let db : new.now ≡ old.now = same.0.now_is in
      let its : IsPermutation (map entry_row es) (map entry_columns (old.now.trees entries_tree)) = subst (λ (d : Database). IsPermutation (map entry_row es) (map entry_columns (d.trees entries_tree))) db are.0 in
      let all = scanned (schema_of n) held_text _ _ (held_scan n) old new has refl rows shown in
      let both = map-map two_cells entry_columns (old.now.trees entries_tree) in
      IsPermutation-trans _ _ _ (subst (IsPermutation (map two_cells (map entry_row es))) both (IsPermutation-map two_cells _ _ its)) all

  pub held_all : (whole : Bool) → Walked Counts (λ _ _. ⊥) held_text old new (record { entries = 0; versions = 0 }) r whole → (r.entries ≡ held_entry_count es) × (r.versions ≡ held_count es)
  held_all false (rows, row, m, begins, goes, never) = absurd never
  held_all true (rows, shown, goes) =
      let mine = cells rows shown in
      let entries = length_permutation _ _ (IsPermutation-filter is_held_row _ _ mine) in
      let versions = length_permutation _ _ (IsPermutation-filter is_version_row _ _ mine) in
      let start : HeldCount = record { entries = 0; versions = 0 } in
      let all_entries = counted (λ c. c.entries) is_held_row (λ p row q one. one.0) start r rows goes in
      let all_versions = counted (λ c. c.versions) is_version_row (λ p row q one. one.1) start r rows goes in
      let stated_entries = tested is_held_row is_held (λ e. removal_held e.removal) es in
      let stated_versions = tested is_version_row is_held_version (λ e. cells_held e.marker e.removal) es in
      (omega (arith, entries, all_entries, stated_entries), omega (arith, versions, all_versions, stated_versions))
