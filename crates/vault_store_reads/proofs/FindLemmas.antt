-- Rows of a table as those of records: which records a query finds, and the one record that has a key.
use Rattle.std.proofs.Common.{◌≡◌, inl, inr, ℕ, List, [], ◌∷◌, map, filter, find, Bool, true, Option, None, Some, option_to_list, length, slice_get, Ordering, Less, Equal, IsPermutation, refl, sym, ap, subst, ◌∙◌, arith}
use Rattle.std.specs.List.{AllByRecursion}
use Rattle.std.proofs.lemmas.Bool.{cases_Bool}
use Rattle.std.proofs.lemmas.List.Sorted.{length_permutation, IsPermutation-trans}
use Rattle.sqlite_trees.proofs.ListLemmas.{filter-map, IsPermutation-filter}
use Rattle.sqlite_value.specs.Order.{Row}
use Rattle.sqlite_sql.specs.Term.{Term}
use Rattle.sqlite.specs.Effect.{Database, Answers}
use Rattle.sqlite.proofs.Callers.{one_permutation}
use Rattle.vault_core_model.specs.Order.{IsAscending}
use Rattle.vault_audit_model.specs.Queries.{select_from}
use Rattle.vault_store_model.specs.Scans.{passes, shows}
use Rattle.vault_store_model.proofs.ScanLemmas.{scanned}
use Rattle.sqlite_keyed.proofs.ListLemmas.{filter_same, map_same}

-- ---- the records whose rows a query shows

-- A query that shows the columns of each row that passes. The test is one of the columns, and on the row of a record one of the record.
module _ {X : Type 0} (row_of : X → Row) (columns : Row → Row) (t : ℕ) (tests project : List Term) (params : Row) (picks : Row → Bool) (is : X → Bool)
    (shown : (r : Row) → shows project params r ≡ columns r) (passed : (r : Row) → passes tests params r ≡ picks (columns r)) (picked : (x : X) → picks (row_of x) ≡ is x) where
  pub records_found : (db : Database) (xs : List X) (rows : List Row) → IsPermutation (map row_of xs) (map columns (db.trees t))
      → Answers db (record { lets = []; body = select_from t tests project [] }) params rows → IsPermutation (map row_of (filter is xs)) rows
  records_found db xs rows are a =
      let stored = db.trees t in
      let stated : filter picks (map row_of xs) ≡ map row_of (filter is xs) = filter-map picks row_of xs ∙ ap (map row_of) (filter_same (λ x. picks (row_of x)) is picked xs) in
      let given : filter picks (map columns stored) ≡ map (shows project params) (filter (passes tests params) stored) =
      filter-map picks columns stored ∙ ap (map columns) (sym (filter_same (passes tests params) (λ r. picks (columns r)) passed stored)) ∙ sym (map_same (shows project params) columns shown (filter (passes tests params) stored)) in
      let same : IsPermutation (map row_of (filter is xs)) (map (shows project params) (filter (passes tests params) stored)) =
      subst (λ ys. IsPermutation ys (map (shows project params) (filter (passes tests params) stored))) stated (subst (IsPermutation (filter picks (map row_of xs))) given (IsPermutation-filter picks (map row_of xs) (map columns stored) are)) in
      IsPermutation-trans _ _ _ same (scanned db t tests project params rows a)

-- ---- one record of a key

module _ {X : Type 0} (cmp : X → X → Ordering) (is : X → Bool) (tie : (x y : X) → is x ≡ true → is y ≡ true → cmp x y ≡ Equal) where
  none_later : (x : X) (xs : List X) → is x ≡ true → AllByRecursion (λ y. cmp x y ≡ Less) xs → filter is xs ≡ []
  none_later x [] this above = refl
  none_later x (y ∷ ys) this above = elim (cases_Bool (is y)) [
    | inl that ↦ absurd (let apart = sym above.0 ∙ tie x y this that in cc)
    | inr other ↦ rw other (none_later x ys this above.1)
  ]

  -- of records in the order of their keys, at most one has this key
  pub at_most_one : (xs : List X) → IsAscending cmp xs → filter is xs ≡ option_to_list (find is xs)
  at_most_one [] ascending = refl
  at_most_one (x ∷ xs) ascending = elim (cases_Bool (is x)) [
    | inl this ↦ rw this (ap (λ ys. x ∷ ys) (none_later x xs this ascending.0))
    | inr other ↦ rw other (at_most_one xs ascending.1)
  ]

-- ---- the first row of such an answer

module _ {X : Type 0} (row_of : X → Row) where
  rows_of_one : (o : Option X) (rows : List Row) → IsPermutation (map row_of (option_to_list o)) rows → rows ≡ map row_of (option_to_list o)
  rows_of_one None rows same = none_left rows (length_permutation [] rows same)
    where
      none_left : (xs : List Row) → length xs ≡ 0 → xs ≡ []
      none_left [] e = refl
      none_left (x ∷ xs) e = absurd (omega (arith, e))
  rows_of_one (Some x) rows same = one_permutation (row_of x) rows same

  -- it is that of the record
  pub first_found : (o : Option X) (rows : List Row) (row : Row) → IsPermutation (map row_of (option_to_list o)) rows → slice_get rows 0 ≡ Some row → (x : X) × (o ≡ Some x) × (row ≡ row_of x)
  first_found None rows row same first = absurd (let e = sym (ap (λ xs. slice_get xs 0) (rows_of_one None rows same)) ∙ first in cc)
  first_found (Some x) rows row same first = (x, refl, let e = sym first ∙ ap (λ xs. slice_get xs 0) (rows_of_one (Some x) rows same) in cc)

  -- there is none, where there is no record
  pub none_found : (o : Option X) (rows : List Row) → IsPermutation (map row_of (option_to_list o)) rows → ◌≡◌ {A = Option Row} None (slice_get rows 0) → o ≡ None
  none_found None rows same none = refl
  none_found (Some x) rows same none = absurd (let both = none ∙ ap (λ xs. slice_get xs 0) (rows_of_one (Some x) rows same) in cc)

  -- what is read from the first row is the record
  pub read_found : ((x y : X) → row_of x ≡ row_of y → x ≡ y) → (o : Option X) (rows : List Row) (row : Row) (found : X) → IsPermutation (map row_of (option_to_list o)) rows → slice_get rows 0 ≡ Some row → row ≡ row_of found → Some found ≡ o
  read_found one o rows row found same first reads =
      let it = first_found o rows row same first in
      sym (it.1 ∙ ap Some (one it.0 found (sym it.2 ∙ reads)))
