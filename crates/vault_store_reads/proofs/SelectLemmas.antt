-- A query over one table that leaves some of its rows, orders them and takes the first.
use Rattle.std.proofs.Common.{◌≡◌, inl, inr, ℕ, List, [], ◌∷◌, map, filter, Bool, Less, IsPermutation, refl, sym, ap, subst, ◌∙◌}
use Rattle.std.specs.List.{AllByRecursion}
use Rattle.std.proofs.lemmas.Bool.{cases_Bool}
use Rattle.std.proofs.lemmas.List.Sorted.{IsPermutation-map, IsPermutation-trans}
use Rattle.sqlite_trees.specs.Tree.{Trees, IsAscending}
use Rattle.sqlite_keyed.proofs.ListLemmas.{map-map, filter-map, map_same, filter_same, IsPermutation-filter}
use Rattle.sqlite_keyed.proofs.SortLemmas.{sorted_unique}
use Rattle.sqlite_value.specs.declared.value.Value.TheVariants.{Null}
use Rattle.sqlite_value.specs.declared.keys.Key.{Key}
use Rattle.sqlite_value.specs.Order.{Row}
use Rattle.sqlite_sql.specs.Term.{Term}
use Rattle.sqlite_sql.specs.Query.{Query, IsAnswer, Output, output, output_cmp, page}
use Rattle.sqlite_sql.specs.Program.{overlay}
use Rattle.sqlite_sql.proofs.QueryLemmas.{output_cmp_total}
use Rattle.sqlite.specs.Effect.{Database, Answers}
use Rattle.vault_audit_model.specs.Queries.{select_from}
use Rattle.vault_store_model.specs.Scans.{passes}
use Rattle.vault_store_model.proofs.ScanLemmas.{matched, uncovered}

-- SELECT project FROM t WHERE tests ORDER BY order LIMIT limit
abbrev pub select_of : ℕ → List Term → List Term → List (Term × Key) → Term → Query
select_of t tests project order limit = record (select_from t tests project order) { limit = limit }

-- Outputs with no ties that are those of the rows that pass are the answer, as far as it goes.
pub selected : (t : ℕ) (tests project : List Term) (order : List (Term × Key)) (limit : Term) (db : Trees) (params : Row) (rows : List Row) → IsAnswer (select_of t tests project order limit) db params rows
    → (outs : List Output) → IsPermutation outs (map (λ r. output (select_of t tests project order limit) (params ∷ r ∷ [])) (filter (passes tests params) (db t)))
    → IsAscending (λ a b. output_cmp (select_of t tests project order limit) a b ≡ Less) outs
    → rows ≡ page (select_of t tests project order limit) params (map (λ (o : Output). o.1) outs)
selected t tests project order limit db params rows a outs same up =
    let q = select_of t tests project order limit in
    let found = filter (passes tests params) (db t) in
    let kept : a.kept ≡ map (λ r. output q (params ∷ r ∷ [])) found = a.distinct ∙ ap (map (output q)) (a.grouped ∙ matched t tests db params) ∙ map-map (output q) (λ r. params ∷ r ∷ []) found in
    let whole = IsPermutation-trans outs a.kept a.ordered (subst (IsPermutation outs) (sym kept) same) a.same in
    let one : a.ordered ≡ outs = sorted_unique (output_cmp q) (output_cmp_total q) outs a.ordered up whole a.sorted in
    a.shown ∙ ap (λ os. page q params (map (λ (o : Output). o.1) os)) one

-- ---- rows of records

module _ {X : Type 0} (row_of : X → Row) (columns : Row → Row) (test : Row → Bool) (out : Row → Output) (pass : Row → Bool) (output_of : Row → Output)
    (tests : (r : Row) → pass r ≡ test (columns r)) (outs : (r : Row) → output_of r ≡ out (columns r)) where
  stored : (rows : List Row) → map out (filter test (map columns rows)) ≡ map output_of (filter pass rows)
  stored rows =
      ap (map out) (filter-map test columns rows) ∙ map-map out columns (filter (λ r. test (columns r)) rows)
      ∙ ap (map (λ r. out (columns r))) (filter_same (λ r. test (columns r)) pass (λ r. sym (tests r)) rows) ∙ map_same (λ r. out (columns r)) output_of (λ r. sym (outs r)) (filter pass rows)

  alike : (keep : X → Bool) (xs : List X) → AllByRecursion (λ x. test (row_of x) ≡ keep x) xs → map out (filter test (map row_of xs)) ≡ map (λ x. out (row_of x)) (filter keep xs)
  alike keep [] all = refl
  alike keep (x ∷ xs) (is, all) = elim (cases_Bool (keep x)) [
    | inl kept ↦ rw (is, kept) (ap (λ l. out (row_of x) ∷ l) (alike keep xs all))
    | inr left ↦ rw (is, left) (alike keep xs all)
  ]

  -- the outputs of the rows that pass are those of the records that they state
  pub of_records : (keep : X → Bool) (xs : List X) (rows : List Row) → IsPermutation (map row_of xs) (map columns rows) → AllByRecursion (λ x. test (row_of x) ≡ keep x) xs
      → IsPermutation (map (λ x. out (row_of x)) (filter keep xs)) (map output_of (filter pass rows))
  of_records keep xs rows same all =
      subst (λ l. IsPermutation l (map output_of (filter pass rows))) (alike keep xs all)
      (subst (IsPermutation (map out (filter test (map row_of xs)))) (stored rows) (IsPermutation-map out _ _ (IsPermutation-filter test _ _ same)))

-- ---- the answer of such a text

pub answered : (t : ℕ) (tests project : List Term) (order : List (Term × Key)) (limit : Term) (db : Database) (params : Row) (rows : List Row) → Answers db (record { lets = []; body = select_of t tests project order limit }) params rows
    → (outs : List Output) → IsPermutation outs (map (λ r. output (select_of t tests project order limit) (params ∷ r ∷ [])) (filter (passes tests params) (db.trees t)))
    → IsAscending (λ a b. output_cmp (select_of t tests project order limit) a b ≡ Less) outs
    → rows ≡ page (select_of t tests project order limit) params (map (λ (o : Output). o.1) outs)
answered t tests project order limit db params rows a outs are up =
    selected t tests project order limit (overlay db.trees []) params rows (a.answer Null) outs
    (subst (λ xs. IsPermutation outs (map (λ r. output (select_of t tests project order limit) (params ∷ r ∷ [])) (filter (passes tests params) xs))) (sym (uncovered db.trees t)) are) up
