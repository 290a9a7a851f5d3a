-- A walk over all rows of a table: its rows are those of records, or of none.
use Rattle.std.proofs.Common.{◌≡◌, ℕ, List, [], ◌∷◌, ◌++◌, map, Bool, true, false, IsPermutation, Result, Ok, Err, OnOk, IfOk, refl, sym, ap, subst, ◌∙◌}
use Rattle.std.specs.List.{AllByRecursion}
use Rattle.std.proofs.lemmas.List.Elements.{All-from_recursion, recursion_from_All}
use Rattle.std.proofs.lemmas.List.Sorted.{IsPermutation-map, IsPermutation-sym, IsPermutation-trans, All-permutation}
use Rattle.sqlite_trees.specs.Tree.{Trees}
use Rattle.sqlite_trees.proofs.ListLemmas.{map-map}
use Rattle.sqlite_value.specs.declared.value.Value.TheVariants.{Null}
use Rattle.sqlite_value.specs.Order.{Row}
use Rattle.sqlite_sql.specs.Term.{Term}
use Rattle.sqlite_sql.specs.Query.{IsAnswer, Output, output}
use Rattle.sqlite_sql.specs.Program.{overlay}
use Rattle.sqlite_schema.specs.declared.schema.Schema.{Schema}
use Rattle.sqlite.specs.Effect.{Database}
use Rattle.sqlite.specs.declared.error.Error.{Error}
use Rattle.sqlite.specs.State.{State, Shown, IsUnchanged}
use Rattle.sqlite.proofs.Callers.{reads_as}
use Rattle.vault_audit_model.specs.Queries.{table_scan, Selects}
use Rattle.vault_audit_model.proofs.CommandLemmas.{meant}
use Rattle.vault_audit_rows.specs.Records.{ReportsOne, Checked, AreRecords}
use Rattle.vault_audit_rows.proofs.ScanLemmas.{shows, matched_in, goes_on_to}

-- ---- lists

-- the item between these holds it
pub between : {A : Type 0} (P : A → Type 0) (xs : List A) (x : A) (ys : List A) → AllByRecursion P (xs ++ x ∷ ys) → P x
between P [] x ys all = all.0
between P (z ∷ zs) x ys all = between P zs x ys all.1

pub front : {A : Type 0} (P : A → Type 0) (xs ys : List A) → AllByRecursion P (xs ++ ys) → AllByRecursion P xs
front P [] ys all = tt
front P (x ∷ xs) ys all = (all.0, front P xs ys all.1)

-- ---- SELECT columns FROM t

pub scan_rows : (t : ℕ) (columns : List Term) (db : Trees) (params : Row) (rows : List Row) → IsAnswer (table_scan t [] columns) db params rows → IsPermutation (map (shows columns params) (db t)) rows
scan_rows t columns db params rows a =
    let q = table_scan t [] columns in
    let kept : map (λ (o : Output). o.1) a.kept ≡ map (shows columns params) (db t) =
    ap (map (λ (o : Output). o.1)) (a.distinct ∙ ap (map (output q)) (a.grouped ∙ matched_in params (db t)) ∙ map-map (output q) (λ r. params ∷ r ∷ []) (db t))
    ∙ map-map (λ (o : Output). o.1) (λ r. output q (params ∷ r ∷ [])) (db t) in
    subst (λ xs. IsPermutation xs rows) kept (subst (IsPermutation (map (λ (o : Output). o.1) a.kept)) (sym a.shown) (IsPermutation-map (λ (o : Output). o.1) a.kept a.ordered a.same))

pub scanned : (schema : Schema) (sql : List ℕ) (t : ℕ) (columns : List Term) → Selects schema sql (table_scan t [] columns) → (old new : State) → old.now.schema ≡ schema → overlay old.now.trees [] t ≡ old.now.trees t
    → (rows : List Row) → Shown sql [] old new rows → IsPermutation (map (shows columns []) (old.now.trees t)) rows
scanned schema sql t columns it old new has same rows h =
    let read = reads_as sql [] old new schema has _ (meant schema sql it) it.plain it.unlisted rows h in
    subst (λ xs. IsPermutation (map (shows columns []) xs) rows) same (scan_rows t columns (overlay old.now.trees []) [] rows (read.answer Null))

-- ---- records

module _ {X : Type 0} (row_of : X → Row) (Is : X → Type 0) where
  -- rows that hold a record each are those of a list of records
  stated : (rows : List Row) → AllByRecursion (ReportsOne row_of Is) rows → (xs : List X) × (rows ≡ map row_of xs) × AllByRecursion Is xs
  stated [] all = ([], refl, tt)
  stated (r ∷ rows) (one, all) =
      let it = stated rows all in
      (one.0 ∷ it.0, cc (one.1, it.1), (one.2, it.2))

  -- each row of such a list states one
  stating : (xs : List X) → AllByRecursion Is xs → AllByRecursion (ReportsOne row_of Is) (map row_of xs)
  stating [] all = tt
  stating (x ∷ xs) all = ((x, refl, all.0), stating xs all.1)

  module _ (schema : Schema) (sql : List ℕ) (t : ℕ) (columns : List Term) (it : Selects schema sql (table_scan t [] columns)) (old new : State) (has : old.now.schema ≡ schema)
      (bare : (trees : Trees) → overlay trees [] t ≡ trees t) (same : IsUnchanged old new) where
    yes_all : Checked (ReportsOne row_of Is) sql old new true → AreRecords row_of Is (map (shows columns []) (new.now.trees t)) true
    yes_all (rows, shown, all) =
        let are = stated rows all in
        let whole = scanned schema sql t columns it old new has (bare old.now.trees) rows shown in
        let db : new.now ≡ old.now = same.0.now_is in
        (are.0, subst (λ (d : Database). IsPermutation (map row_of are.0) (map (shows columns []) (d.trees t))) (sym db) (subst (λ xs. IsPermutation xs (map (shows columns []) (old.now.trees t))) are.1 (IsPermutation-sym _ _ whole)), are.2)

    no_all : Checked (ReportsOne row_of Is) sql old new false → AreRecords row_of Is (map (shows columns []) (new.now.trees t)) false
    no_all (rows, row, begins, none) xs are all =
        let known : new.now.schema ≡ schema = ap (λ (d : Database). d.schema) same.0.now_is ∙ has in
        let on = goes_on_to sql new schema known _ it.names (meant schema sql it) same.0.is_open (rows ++ row ∷ []) begins in
        let whole = scanned schema sql t columns it new new known (bare new.now.trees) ((rows ++ row ∷ []) ++ on.0) on.1 in
        let shuffled = IsPermutation-trans _ _ _ are whole in
        let every = recursion_from_All (ReportsOne row_of Is) _ (All-permutation (ReportsOne row_of Is) (map row_of xs) ((rows ++ row ∷ []) ++ on.0) shuffled (All-from_recursion (ReportsOne row_of Is) (map row_of xs) (stating xs all))) in
        let one = between (ReportsOne row_of Is) rows row [] (front (ReportsOne row_of Is) (rows ++ row ∷ []) on.0 every) in
        none one

    -- what a walk says of all rows of the table
    pub records_of : (stated : Bool) → Checked (ReportsOne row_of Is) sql old new stated → AreRecords row_of Is (map (shows columns []) (new.now.trees t)) stated
    records_of true = yes_all
    records_of false = no_all

-- the same of the answer of such a walk
pub records_if_ok : {X : Type 0} (row_of : X → Row) (Is : X → Type 0) {schema : Schema} {sql : List ℕ} {t : ℕ} {columns : List Term} → Selects schema sql (table_scan t [] columns) → (old new : State) → old.now.schema ≡ schema
    → ((trees : Trees) → overlay trees [] t ≡ trees t) → (answer : Result Bool Error) → OnOk answer (IsUnchanged old new) → IfOk answer (Checked (ReportsOne row_of Is) sql old new) → IfOk answer (AreRecords row_of Is (map (shows columns []) (new.now.trees t)))
records_if_ok row_of Is it old new has bare (Ok b) same walked = records_of row_of Is _ _ _ _ it old new has bare same b walked
records_if_ok row_of Is it old new has bare (Err e) same walked = tt
