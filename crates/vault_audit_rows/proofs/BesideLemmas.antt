-- A query that puts beside each row of a table the rows of another that agree with it, or nothing where there is none.
use Rattle.std.proofs.Common.{◌≡◌, ◌≢◌, ◌&&◌, ◌==◌, ℕ, pos, negsuc, List, [], ◌∷◌, ◌++◌, map, filter, flat_map, Bool, true, false, not, Some, None, IsPermutation, refl, sym, ap, ap₂, subst, ◌∙◌, ◌||◌, cond, arith}
use Rattle.std.specs.List.{AllByRecursion, list_any, list_all}
use Rattle.std.proofs.lemmas.List.Elements.{recursion_from_All, filter_passes}
use Rattle.std.specs.Cmp.Lexicographic.{slice_cmp}
use Rattle.std.specs.Ordering.{nat_cmp, is_eq}
use Rattle.std.proofs.lemmas.List.Sorted.{IsPermutation-map, IsPermutation-sym, list_any-IsPermutation}
use Rattle.std.proofs.lemmas.Bool.Decides.{nat_tests}
use Rattle.std.proofs.lemmas.List.Concat.{flat_map_single}
use Rattle.sqlite_trees.specs.Tree.{Trees}
use Rattle.sqlite_trees.proofs.ListLemmas.{map-map, map-flat_map, all-permutation, all-map, all_from_map, flat_map_same_on}
use Rattle.sqlite_value.specs.declared.value.Value.{Value}
use Rattle.sqlite_value.specs.declared.value.Value.TheVariants.{Null, Int, Text}
use Rattle.sqlite_value.specs.declared.keys.Collation.TheVariants.{Binary}
use Rattle.sqlite_value.specs.Order.{Row, column}
use Rattle.sqlite_value.proofs.OrderLemmas.{value_cmp-Int, value_cmp-Text}
use Rattle.sqlite_sql.specs.declared.ops.BinaryOp.TheVariants.{Compare}
use Rattle.sqlite_sql.specs.declared.ops.CompareOp.TheVariants.{Eq}
use Rattle.sqlite_sql.specs.Ops.{binary, is_true, from_truth}
use Rattle.sqlite_sql.specs.Term.{Term, lit, col, op2, eval, eval_all, holds}
use Rattle.sqlite_sql.specs.Query.{Query, inner, left, end, IsAnswer, Output, output, matches, or_nulls}
use Rattle.sqlite_sql.specs.Program.{overlay}
use Rattle.sqlite_schema.specs.declared.schema.Schema.{Schema}
use Rattle.sqlite.specs.Effect.{Database}
use Rattle.sqlite.specs.State.{State, Shown, IsUnchanged}
use Rattle.sqlite.proofs.Callers.{reads_as}
use Rattle.vault_audit_model.specs.Queries.{Selects}
use Rattle.vault_audit_model.specs.Values.{number, flag}
use Rattle.vault_audit_model.proofs.CommandLemmas.{meant}
use Rattle.vault_audit_model.proofs.SameRows.{flag_same}
use Rattle.vault_audit_model.proofs.ValueLemmas.{agrees, truth_back}
use Rattle.vault_audit_rows.specs.Records.{Checked}
use Rattle.vault_audit_rows.proofs.ScanLemmas.{goes_on_to}
use Rattle.vault_audit_rows.proofs.RecordLemmas.{between, front}
use Rattle.vault_audit_rows.specs.Beside.{IsAbsentAs, ReportsAbsence}
use Rattle.sqlite_keyed.proofs.ListLemmas.{all-flat_map}
use Rattle.vault_audit_rows.proofs.JoinLemmas.{with_true}

-- ---- lists

all_after : {A : Type 0} (P : A → Type 0) (xs ys : List A) → AllByRecursion P (xs ++ ys) → AllByRecursion P ys
all_after P [] ys all = all
all_after P (x ∷ xs) ys all = all_after P xs ys all.1

-- each of the parts holds it where their whole does
all_from_flat : {A B : Type 0} (P : B → Type 0) (f : A → List B) (xs : List A) → AllByRecursion P (flat_map f xs) → AllByRecursion (λ x. AllByRecursion P (f x)) xs
all_from_flat P f [] all = tt
all_from_flat P f (x ∷ xs) all = (front P (f x) (flat_map f xs) all, all_from_flat P f xs (all_after P (f x) (flat_map f xs) all))

-- ---- SELECT shown, b.c FROM t AS a LEFT JOIN other AS b ON b.c = a.d

-- with one row of the first table and one of the other the tests pass
abbrev pub passes : List Term → Row → Row → Bool
passes tests r s = list_all (holds ([] ∷ r ∷ s ∷ [])) tests

abbrev pub beside_of : ℕ → ℕ → Term → ℕ → ℕ → Query
beside_of t other shown c d = record {
  from = inner t (left other (op2 (Compare Eq Binary) (col 2 c) (col 1 d) ∷ []) end);
  filter = [];
  group = None;
  project = shown ∷ col 2 c ∷ [];
  distinct = false;
  collations = [];
  order = [];
  limit = lit (Int (negsuc 0));
  offset = lit (Int (pos 0));
}

-- what is shown of a row and one beside it
abbrev pair_shown : Term → ℕ → Row → Row → Row
pair_shown shown c r s = eval shown ([] ∷ r ∷ s ∷ []) ∷ column s c ∷ []

-- what stands beside one row
abbrev pub beside_row : Term → ℕ → ℕ → List Row → Row → List Row
beside_row shown c d others r = map (pair_shown shown c r) (or_nulls (filter (λ s. agrees (column s c) (column r d) && true) others))

abbrev pub beside_rows : ℕ → ℕ → Term → ℕ → ℕ → Trees → List Row
beside_rows t other shown c d db = flat_map (beside_row shown c d (db other)) (db t)

-- the matches, as they are shown
matched : (t other : ℕ) (shown : Term) (c d : ℕ) (db : Trees) → map (eval_all (shown ∷ col 2 c ∷ [])) (matches db [] (inner t (left other (op2 (Compare Eq Binary) (col 2 c) (col 1 d) ∷ []) end)) ([] ∷ [])) ≡ beside_rows t other shown c d db
matched t other shown c d db =
    map-flat_map (eval_all (shown ∷ col 2 c ∷ [])) (λ r. matches db [] (left other (op2 (Compare Eq Binary) (col 2 c) (col 1 d) ∷ []) end) ([] ∷ r ∷ [])) (db t)
    ∙ flat_map_same_on _ (beside_row shown c d (db other)) (λ r.
    let some = or_nulls (filter (λ s. agrees (column s c) (column r d) && true) (db other)) in
    ap (map (eval_all (shown ∷ col 2 c ∷ []))) (flat_map_single (λ s. [] ∷ r ∷ s ∷ []) some) ∙ map-map (eval_all (shown ∷ col 2 c ∷ [])) (λ s. [] ∷ r ∷ s ∷ []) some) (db t)

beside_answer : (t other : ℕ) (shown : Term) (c d : ℕ) (db : Trees) (rows : List Row) → IsAnswer (beside_of t other shown c d) db [] rows → IsPermutation (beside_rows t other shown c d db) rows
beside_answer t other shown c d db rows a =
    let q = beside_of t other shown c d in
    let all = matches db [] q.from ([] ∷ []) in
    let kept : map (λ (o : Output). o.1) a.kept ≡ beside_rows t other shown c d db =
    ap (map (λ (o : Output). o.1)) (a.distinct ∙ ap (map (output q)) a.grouped) ∙ map-map (λ (o : Output). o.1) (output q) all ∙ matched t other shown c d db in
    subst (λ xs. IsPermutation xs rows) kept (subst (IsPermutation (map (λ (o : Output). o.1) a.kept)) (sym a.shown) (IsPermutation-map (λ (o : Output). o.1) a.kept a.ordered a.same))

-- what a text finds that is such a query
module _ {schema : Schema} {sql : List ℕ} {t other : ℕ} {shown : Term} {c d : ℕ} (it : Selects schema sql (beside_of t other shown c d)) (bare : (trees : Trees) → (overlay trees [] t ≡ trees t) × (overlay trees [] other ≡ trees other)) where
  looked : (old new : State) → old.now.schema ≡ schema → (rows : List Row) → Shown sql [] old new rows → IsPermutation (beside_rows t other shown c d old.now.trees) rows
  looked old new has rows h =
      let read = reads_as sql [] old new schema has _ (meant schema sql it) it.plain it.unlisted rows h in
      let same = ap₂ (λ (here there : List Row). flat_map (beside_row shown c d there) here) (bare old.now.trees).0 (bare old.now.trees).1 in
      subst (λ xs. IsPermutation xs rows) same (beside_answer t other shown c d (overlay old.now.trees []) rows (read.answer Null))

  -- a check of each such row
  module _ (Takes : Row → Type 0) (old new : State) (has : old.now.schema ≡ schema) (same : IsUnchanged old new) where
    pub beside_yes : Checked Takes sql old new true → AllByRecursion (λ r. AllByRecursion Takes (beside_row shown c d (new.now.trees other) r)) (new.now.trees t)
    beside_yes (rows, found, all) =
        let db : new.now ≡ old.now = same.0.now_is in
        let whole = looked old new has rows found in
        subst (λ (b : Database). AllByRecursion (λ r. AllByRecursion Takes (beside_row shown c d (b.trees other) r)) (b.trees t)) (sym db)
        (all_from_flat Takes (beside_row shown c d (old.now.trees other)) (old.now.trees t) (all-permutation Takes _ _ (IsPermutation-sym _ _ whole) all))

    pub beside_no : Checked Takes sql old new false → ¬ AllByRecursion (λ r. AllByRecursion Takes (beside_row shown c d (new.now.trees other) r)) (new.now.trees t)
    beside_no (rows, row, begins, none) all =
        let known : new.now.schema ≡ schema = ap (λ (b : Database). b.schema) same.0.now_is ∙ has in
        let on = goes_on_to sql new schema known _ it.names (meant schema sql it) same.0.is_open (rows ++ row ∷ []) begins in
        let whole = looked new new known ((rows ++ row ∷ []) ++ on.0) on.1 in
        let every = all-permutation Takes _ _ whole (all-flat_map Takes (beside_row shown c d (new.now.trees other)) (new.now.trees t) all) in
        none (between Takes rows row [] (front Takes (rows ++ row ∷ []) on.0 every))

-- ---- values that agree

pub agree_numbers : (a b : ℕ) → agrees (number a) (number b) ≡ (a == b)
unfolding binary
agree_numbers a b = rw (value_cmp-Int (pos a) (pos b)) (grind (arith, nat_tests))

null_apart : (u v : Value) → agrees u v ≡ true → u ≢ Null
unfolding binary
null_apart u v h e = absurd (let no : agrees Null v ≡ true = subst (λ w. agrees w v ≡ true) e h in cc)

pub agree_texts : (a b : List ℕ) → agrees (Text a) (Text b) ≡ is_eq (slice_cmp nat_cmp a b)
unfolding binary
agree_texts a b = ap (λ o. is_true (from_truth (Some (is_eq o)))) (value_cmp-Text a b) ∙ truth_back (is_eq (slice_cmp nat_cmp a b))

-- ---- one row

turned : (a b : Bool) → a ≡ not b → b ≡ not a
turned a true e = rw e refl
turned a false e = rw e refl

abbrev is_empty : {A : Type 0} → List A → Bool
is_empty [] = true
is_empty (x ∷ xs) = false

empty_filter : {A : Type 0} (p : A → Bool) (xs : List A) → is_empty (filter p xs) ≡ not (list_any p xs)
empty_filter p [] = refl
empty_filter p (x ∷ xs) = elim (p x) as (λ b. is_empty (cond b (x ∷ filter p xs) (filter p xs)) ≡ not (b || list_any p xs)) [ true ↦ refl | false ↦ empty_filter p xs ]

module _ (shown : Term) (c d : ℕ) (r : Row) (b : Bool) (reads_so : (s : Row) → eval shown ([] ∷ r ∷ s ∷ []) ≡ flag b) where
  abbrev is_beside : Row → Bool
  is_beside s = agrees (column s c) (column r d) && true

  abbrev pub is_met : List Row → Bool
  is_met others = list_any (λ s. agrees (column s c) (column r d)) others

  any_same : (xs : List Row) → list_any is_beside xs ≡ is_met xs
  any_same [] = refl
  any_same (x ∷ xs) = ap₂ ◌||◌ (with_true (agrees (column x c) (column r d))) (any_same xs)

  none_there : (others : List Row) → is_empty (filter is_beside others) ≡ not (is_met others)
  none_there others = empty_filter is_beside others ∙ ap not (any_same others)

  abbrev Shown_by : Row → Row
  Shown_by = pair_shown shown c r

  one_yes : (s : Row) (e : Bool) → IsAbsentAs e (column s c) → ReportsAbsence (Shown_by s) → e ≡ b
  one_yes s e is (k, stated, absent) =
      let same : k ≡ b = flag_same k b (sym stated ∙ reads_so s) in
      alike e k is absent ∙ same
    where
      alike : (e k : Bool) → IsAbsentAs e (column s c) → IsAbsentAs k (column s c) → e ≡ k
      alike true true p q = refl
      alike false false p q = refl
      alike true false p q = absurd (q p)
      alike false true p q = absurd (p q)

  one_no : (s : Row) (e : Bool) → IsAbsentAs e (column s c) → e ≡ b → ReportsAbsence (Shown_by s)
  one_no s e is same = (e, reads_so s ∙ ap flag (sym same), is)

  there : (s : Row) → is_beside s ≡ true → IsAbsentAs false (column s c)
  there s h = null_apart (column s c) (column r d) (sym (with_true _) ∙ h)

  rows_yes : (xs : List Row) → AllByRecursion (λ s. is_beside s ≡ true) xs → AllByRecursion ReportsAbsence (map Shown_by (or_nulls xs)) → is_empty xs ≡ b
  rows_yes [] all stated = one_yes [] true refl stated.0
  rows_yes (s ∷ xs) all stated = one_yes s false (there s all.0) stated.0

  rows_no : (xs : List Row) → AllByRecursion (λ s. is_beside s ≡ true) xs → false ≡ b → AllByRecursion ReportsAbsence (map Shown_by xs)
  rows_no [] all same = tt
  rows_no (s ∷ xs) all same = (one_no s false (there s all.0) same, rows_no xs all.1 same)

  or_none : (xs : List Row) → AllByRecursion (λ s. is_beside s ≡ true) xs → is_empty xs ≡ b → AllByRecursion ReportsAbsence (map Shown_by (or_nulls xs))
  or_none [] all same = (one_no [] true refl same, tt)
  or_none (s ∷ xs) all same = rows_no (s ∷ xs) all same

  agreeing : (others : List Row) → AllByRecursion (λ s. is_beside s ≡ true) (filter is_beside others)
  agreeing others = recursion_from_All (λ s. is_beside s ≡ true) _ (filter_passes is_beside others)

  -- what the rows beside it state is whether some row agrees
  pub met_yes : (others : List Row) → AllByRecursion ReportsAbsence (beside_row shown c d others r) → is_met others ≡ not b
  met_yes others stated = turned b (is_met others) (sym (rows_yes (filter is_beside others) (agreeing others) stated) ∙ none_there others)

  pub met_no : (others : List Row) → is_met others ≡ not b → AllByRecursion ReportsAbsence (beside_row shown c d others r)
  met_no others same = or_none (filter is_beside others) (agreeing others) (none_there others ∙ sym (turned (is_met others) b same))

-- ---- records

pub any_map : {A B : Type 0} (p : B → Bool) (f : A → B) (xs : List A) → list_any p (map f xs) ≡ list_any (λ x. p (f x)) xs
any_map p f [] = refl
any_map p f (x ∷ xs) = ap (λ b. p (f x) || b) (any_map p f xs)

pub any_alike : {A : Type 0} (p q : A → Bool) → ((x : A) → p x ≡ q x) → (xs : List A) → list_any p xs ≡ list_any q xs
any_alike p q same [] = refl
any_alike p q same (x ∷ xs) = ap₂ ◌||◌ (same x) (any_alike p q same xs)

-- rows that agree with the value are there where records are that pass the test
module _ {X : Type 0} (row_of : X → Row) (columns : Row → Row) (value : Value) (test : X → Bool) (first : (x : X) → agrees (column (row_of x) 0) value ≡ test x) where
  pub met_as : (xs : List X) (stored : List Row) → IsPermutation (map row_of xs) (map columns stored) → list_any (λ s. agrees (column (columns s) 0) value) stored ≡ list_any test xs
  met_as xs stored are =
      sym (any_map (λ row. agrees (column row 0) value) columns stored)
      ∙ sym (list_any-IsPermutation (λ row. agrees (column row 0) value) (map row_of xs) (map columns stored) are)
      ∙ any_map (λ row. agrees (column row 0) value) row_of xs
      ∙ any_alike (λ x. agrees (column (row_of x) 0) value) test first xs

-- what holds of the columns of all stored rows holds of the rows of the records
module _ {X : Type 0} (row_of : X → Row) (columns : Row → Row) (P : Row → Type 0) where
  pub of_records : (xs : List X) (stored : List Row) → IsPermutation (map row_of xs) (map columns stored) → AllByRecursion (λ r. P (columns r)) stored → AllByRecursion (λ x. P (row_of x)) xs
  of_records xs stored are all = all_from_map P row_of xs (all-permutation P _ _ (IsPermutation-sym _ _ are) (all-map P columns stored all))

  pub of_stored : (xs : List X) (stored : List Row) → IsPermutation (map row_of xs) (map columns stored) → AllByRecursion (λ x. P (row_of x)) xs → AllByRecursion (λ r. P (columns r)) stored
  of_stored xs stored are all = all_from_map P columns stored (all-permutation P _ _ are (all-map P row_of xs all))
