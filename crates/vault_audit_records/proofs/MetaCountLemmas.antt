-- The walk that counts the entries.
use Rattle.std.proofs.Common.{◌≡◌, ℕ, ◌+◌, List, [], ◌∷◌, ◌-◌, ◌==◌, length, map, codes, Bool, true, false, Some, refl, ap, arith}
use Rattle.std.proofs.lemmas.Bool.Decides.{nat_tests}
use Rattle.std.proofs.lemmas.List.{length-map}
use Rattle.std.proofs.lemmas.List.Sorted.{IsPermutation-sym, IsPermutation-trans, length_permutation}
use Rattle.sqlite_tied.specs.Compute.{everything}
use Rattle.sqlite_value.specs.Order.{Row}
use Rattle.sqlite_sql.specs.Term.{col}
use Rattle.sqlite.specs.Effect.{Database}
use Rattle.sqlite.specs.Listing.{understood}
use Rattle.sqlite.specs.State.{State, IsUnchanged}
use Rattle.sqlite.proofs.Callers.{one_permutation}
use Rattle.vault_core_model.specs.declared.records.History.{History}
use Rattle.vault_core_model.specs.Vault.{Vault}
use Rattle.vault_audit_model.specs.declared.rows.MetaRow.{MetaRow}
use Rattle.vault_audit_model.specs.Rows.{meta_row, entry_row, entry_columns}
use Rattle.vault_audit_model.specs.Spells.{AreSoundAs, meta_stated}
use Rattle.vault_audit_model.specs.Queries.{table_scan, Selects}
use Rattle.vault_audit_model.specs.Tables.{schema_of, entries_tree}
use Rattle.vault_audit_model.proofs.SameRows.{same_meta}
use Rattle.vault_audit_rows.specs.Walk.{Goes, Walked}
use Rattle.vault_audit_rows.proofs.RecordLemmas.{scanned}
use Rattle.vault_audit_rows.proofs.ScanLemmas.{shows}
use Rattle.vault_audit_records.specs.Meta.{IsMetaOf}
use Rattle.vault_audit_records.specs.declared.meta.second_look.RowCount.{RowCount}
use Rattle.vault_audit_records.specs.MetaCount.{CountsOne, DecidesNext}
use Rattle.vault_audit_rows.specs.Health.{Asks}
use Rattle.vault_audit_model.specs.declared.schema.SchemaVersion.{SchemaVersion}

abbrev pub ids_text : List ℕ
ids_text = codes "SELECT id FROM entries"

pub ids_scan : (n : SchemaVersion) → Selects (schema_of n) ids_text (table_scan 9 [] (col 1 0 ∷ []))
unfolding understood everything
ids_scan n = record { names = codes "id" ∷ []; is = refl; plain = (refl, refl); unlisted = refl }

pub ids_asks : (n : SchemaVersion) → Asks (schema_of n) ids_text
unfolding understood everything
ids_asks n = record { is = (omega (arith), refl, (refl, refl, refl, refl)); unlisted = refl }

abbrev Counting : RowCount → Row → RowCount → Type 0
Counting p row q = CountsOne p q

counted : (p q : RowCount) (rows : List Row) → Goes Counting p rows q → q.count ≡ p.count + length rows
counted p q [] goes = let same = ap (λ (c : RowCount). c.count) goes in omega (arith, same)
counted p q (r ∷ rows) (m, one, more) = let it = counted m q rows more in omega (arith, one, it)

-- all rows were met, whatever the answer
pub all_counted : (n : SchemaVersion) → (old new : State) → old.now.schema ≡ schema_of n → IsUnchanged old new → (p q : RowCount) → (whole : Bool) → Walked Counting (λ _ _. ⊥) ids_text old new p q whole → q.count ≡ p.count + length (new.now.trees entries_tree)
all_counted n old new has same p q true (rows, shown, goes) =
    let each = scanned (schema_of n) ids_text _ _ (ids_scan n) old new has refl rows shown in
    let a = length_permutation _ _ each in
    let b : length (map (shows (col 1 0 ∷ []) []) (old.now.trees entries_tree)) ≡ length (old.now.trees entries_tree) = simp length-map in
    let c = counted p q rows goes in
    let d : length (new.now.trees entries_tree) ≡ length (old.now.trees entries_tree) = ap (λ (x : Database). length (x.trees entries_tree)) same.0.now_is in
    omega (arith, a, b, c, d)
all_counted n old new has same p q false (rows, row, m, begins, goes, never) = absurd never

-- the next id of a vault that the tables are sound for is one above the number of rows
pub next_of : (n : SchemaVersion) → (db : Database) (v : Vault) (m : MetaRow) → IsMetaOf n db (Some m) → AreSoundAs n db v → m.next ≡ length (db.trees entries_tree) + 1
next_of n db v m is it =
    let rows = one_permutation (meta_row m) _ (IsPermutation-trans _ _ _ is.0 (IsPermutation-sym _ _ it.spells.meta)) in
    let first : meta_row (meta_stated n v) ≡ meta_row m = cc in
    let same : meta_stated n v ≡ m = same_meta (meta_stated n v) m first in
    let next = ap (λ (x : MetaRow). x.next) same in
    let a = length_permutation _ _ it.spells.entries in
    let b : length (map (λ (h : History). entry_row h.entry) v.histories) ≡ length v.histories = simp length-map in
    let c : length (map entry_columns (db.trees entries_tree)) ≡ length (db.trees entries_tree) = simp length-map in
    omega (arith, next, a, b, c)

-- ---- the comparison

pub stated : (db : Database) (count next : ℕ) → count ≡ length (db.trees entries_tree) → (¬ (next ≡ 0)) → DecidesNext db next (count == next - 1)
stated db count next all some = by (count == next - 1) refl
  where
    by : (b : Bool) → (count == next - 1) ≡ b → DecidesNext db next b
    by true is = grind (arith, nat_tests, all, some, is)
    by false is = λ same. let n : count ≡ next - 1 = omega (arith, all, same) in absurd (let yes : (count == next - 1) ≡ true = grind (arith, nat_tests, n) in cc)
