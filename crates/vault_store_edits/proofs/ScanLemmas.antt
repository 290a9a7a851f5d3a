-- What a query over one table finds.
use Rattle.std.proofs.Common.{◌≡◌, inl, inr, ℕ, ℤ, List, [], ◌∷◌, length, map, filter, Bool, true, refl, sym, subst, ◌∙◌, arith}
use Rattle.std.specs.Prelude.{IsPermutation}
use Rattle.std.specs.List.{AllByRecursion}
use Rattle.std.proofs.lemmas.List.{length-map}
use Rattle.std.proofs.lemmas.List.Sorted.{length_permutation}
use Rattle.sqlite_trees.specs.Tree.{rowid, has_rowid}
use Rattle.sqlite_value.specs.declared.value.Value.TheVariants.{Int}
use Rattle.sqlite_value.specs.Order.{Row}
use Rattle.sqlite_sql.specs.Term.{Term, col}
use Rattle.sqlite_schema.specs.declared.command.Command.TheVariants.{Select}
use Rattle.sqlite_schema.specs.declared.schema.Schema.{Schema}
use Rattle.sqlite_rules.specs.Lists.{Has}
use Rattle.sqlite_rules.proofs.ListLemmas.{all_has, has_kept}
use Rattle.sqlite_rules.proofs.ProbeLemmas.{mapped_has}
use Rattle.sqlite.specs.Listing.{understood}
use Rattle.sqlite.specs.State.{State, IsUnchanged, Shown, ShowsRows}
use Rattle.sqlite.proofs.Callers.{IsPlain, reads_as}
use Rattle.vault_audit_model.specs.Queries.{Selects}
use Rattle.vault_audit_model.proofs.CommandLemmas.{meant}
use Rattle.vault_store_edits.specs.UniqueRowids.{HaveUniqueRowids}
use Rattle.vault_store_model.specs.Scans.{passes, shows}
use Rattle.vault_store_model.proofs.ScanLemmas.{scanned}
use Rattle.vault_store_edits.specs.Queries.{by_rowid, rowids_where, Stands}
use Rattle.vault_store_edits.proofs.ListLemmas.{has_permuted, own_rowid}
use Rattle.vault_store_edits.proofs.TestLemmas.{rowid_found}

-- ---- queries for rowids

-- a query changes nothing
pub shown_same : (sql : List ℕ) (params : Row) (old new : State) (rows : List Row) → IsPlain (understood old.now.schema sql) → Shown sql params old new rows → IsUnchanged old new
unfolding Shown
shown_same sql params old new rows plain h =
    let bare = subst IsPlain h.1.is plain in
    let it = subst (ShowsRows old new sql h.0 _ rows) bare.0 h.2 in
    it.3

module _ (schema : Schema) (sql : List ℕ) (t : ℕ) (tests : List Term) (finds : Selects schema sql (rowids_where t tests)) (params : Row) (old new : State) (has : old.now.schema ≡ schema) where
  pub found : (rows : List Row) → Shown sql params old new rows → IsPermutation (map (shows (col 1 0 ∷ []) params) (filter (passes tests params) (old.now.trees t))) rows
  found rows h =
      let read = reads_as sql params old new schema has (Select (record { lets = []; body = rowids_where t tests }) finds.names) (meant schema sql finds) finds.plain finds.unlisted rows h in
      scanned old.now t tests (col 1 0 ∷ []) params rows read

  pub unchanged : (rows : List Row) → Shown sql params old new rows → IsUnchanged old new
  unchanged rows h = shown_same sql params old new rows (subst (λ s. IsPlain (understood s sql)) (sym has) finds.plain) h

-- as many rows are found as pass
pub count_found : (schema : Schema) (sql : List ℕ) (t : ℕ) (tests : List Term) → Selects schema sql (rowids_where t tests) → (params : Row) (old new : State) → old.now.schema ≡ schema → (rows : List Row) → Shown sql params old new rows
    → length rows ≡ 1 → length (filter (passes tests params) (old.now.trees t)) ≡ 1
count_found schema sql t tests finds params old new has rows h one =
    let same = length_permutation _ rows (found schema sql t tests finds params old new has rows h) in
    sym (length-map _ _) ∙ sym same ∙ one

-- ---- rows with a rowid of their own

one_alone : {X : Type 0} (xs : List X) (x y : X) → length xs ≡ 1 → Has xs x → Has xs y → y ≡ x
one_alone [] x y one h k = absurd h
one_alone (z ∷ []) x y one (inl h) (inl k) = k ∙ sym h
one_alone (z ∷ []) x y one (inr h) k = absurd h
one_alone (z ∷ []) x y one h (inr k) = absurd k
one_alone (z ∷ w ∷ zs) x y one h k = absurd (omega (arith, one))

passes_alone : (id : ℤ) (r : Row) → has_rowid id r ≡ true → passes by_rowid (Int id ∷ []) r ≡ true
passes_alone id r same = rw (rowid_found id (rowid r) same) refl

pub rowids_are_unique : (test : Row → Bool) (rows shown : List Row) → IsPermutation (map (λ r. rowid r ∷ []) (filter test rows)) shown → AllByRecursion (Stands rows) shown → HaveUniqueRowids test rows
rowids_are_unique test rows shown same all r here passed =
    let listed : Has shown (rowid r ∷ []) = has_permuted _ shown _ same (mapped_has (λ s. rowid s ∷ []) (filter test rows) r (has_kept test rows r here passed)) in
    let it = all_has (Stands rows) shown (rowid r ∷ []) all listed in
    let own : has_rowid it.0 r ≡ true = own_rowid it.0 r it.1 in
    let by = passes by_rowid (Int it.0 ∷ []) in
    (it.0, it.1, λ other there same. one_alone (filter by rows) r other it.2 (has_kept by rows r here (passes_alone it.0 r own)) (has_kept by rows other there (passes_alone it.0 other same)))
