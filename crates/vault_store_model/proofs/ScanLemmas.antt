-- What a query over one table finds.
use Rattle.std.proofs.Common.{◌≡◌, inl, inr, ℕ, ◌-◌, ◌^◌, List, [], ◌∷◌, map, filter, flat_map, Bool, true, false, nat_le, if◌then◌else◌, None, unwrap_or, slice_get, cond, IsPermutation, refl, sym, ap, subst, ◌∙◌}
use Rattle.std.proofs.lemmas.Bool.{cases_Bool}
use Rattle.std.proofs.lemmas.List.Sorted.{IsPermutation-map}
use Rattle.sqlite_trees.specs.Tree.{Trees}
use Rattle.sqlite_trees.proofs.ListLemmas.{map-map}
use Rattle.sqlite_value.specs.declared.value.Value.TheVariants.{Null}
use Rattle.sqlite_value.specs.declared.keys.Collation.{Collation}
use Rattle.sqlite_value.specs.Order.{Row}
use Rattle.sqlite.specs.Term.{Term}
use Rattle.sqlite.specs.Query.{inner, end, IsAnswer, Output, output, matches}
use Rattle.sqlite.specs.Program.{overlay}
use Rattle.sqlite.specs.Effect.{Database, Answers}
use Rattle.vault_audit_model.specs.Queries.{table_scan}
use Rattle.vault_store_model.specs.Scans.{scan_as, passes, shows}

matched_in : (tests : List Term) (params : Row) (rows : List Row) → flat_map (λ r. cond (passes tests params r) ((params ∷ r ∷ []) ∷ []) []) rows ≡ map (λ r. params ∷ r ∷ []) (filter (passes tests params) rows)
matched_in tests params [] = refl
matched_in tests params (r ∷ rows) = elim (cases_Bool (passes tests params r)) [
  | inl passed ↦ rw passed (ap (λ xs. (params ∷ r ∷ []) ∷ xs) (matched_in tests params rows))
  | inr failed ↦ rw failed (matched_in tests params rows)
]

pub matched : (t : ℕ) (tests : List Term) (db : Trees) (params : Row) → matches db tests (inner t end) (params ∷ []) ≡ map (λ r. params ∷ r ∷ []) (filter (passes tests params) (db t))
matched t tests db params = matched_in tests params (db t)

-- the rows that pass, in some order, each as it is shown
unordered : (collations : List Collation) (t : ℕ) (tests project : List Term) (db : Trees) (params : Row) (rows : List Row) → IsAnswer (scan_as collations t tests project) db params rows
    → IsPermutation (map (shows project params) (filter (passes tests params) (db t))) rows
unordered collations t tests project db params rows a =
    let q = scan_as collations t tests project in
    let found = filter (passes tests params) (db t) in
    let kept : map (λ (o : Output). o.1) a.kept ≡ map (shows project params) found =
    ap (map (λ (o : Output). o.1)) (a.distinct ∙ ap (map (output q)) (a.grouped ∙ matched t tests db params) ∙ map-map (output q) (λ r. params ∷ r ∷ []) found)
    ∙ map-map (λ (o : Output). o.1) (λ r. output q (params ∷ r ∷ [])) found in
    subst (λ xs. IsPermutation xs rows) kept (subst (IsPermutation (map (λ (o : Output). o.1) a.kept)) (sym a.shown) (IsPermutation-map (λ (o : Output). o.1) a.kept a.ordered a.same))

abbrev no_tables : List (List Row)
no_tables = []

no_table : (b : Bool) (n : ℕ) (rows : List Row) → unwrap_or (if b then slice_get no_tables n else None) rows ≡ rows
no_table true n rows = refl
no_table false n rows = refl

-- no table stands over those of the database
pub uncovered : (db : Trees) (t : ℕ) → overlay db [] t ≡ db t
uncovered db t = no_table (nat_le (2 ^ 31) t) (t - 2 ^ 31) (db t)

pub scanned_as : (collations : List Collation) (db : Database) (t : ℕ) (tests project : List Term) (params : Row) (rows : List Row) → Answers db (record { lets = []; body = scan_as collations t tests project }) params rows
    → IsPermutation (map (shows project params) (filter (passes tests params) (db.trees t))) rows
scanned_as collations db t tests project params rows a =
    subst (λ xs. IsPermutation (map (shows project params) (filter (passes tests params) xs)) rows) (uncovered db.trees t) (unordered collations t tests project (overlay db.trees []) params rows (a.answer Null))

pub scanned : (db : Database) (t : ℕ) (tests project : List Term) (params : Row) (rows : List Row) → Answers db (record { lets = []; body = table_scan t tests project }) params rows
    → IsPermutation (map (shows project params) (filter (passes tests params) (db.trees t))) rows
scanned = scanned_as []
