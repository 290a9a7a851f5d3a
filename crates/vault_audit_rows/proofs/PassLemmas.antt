-- A walk is sound where the items that the rows spell fit one after the other.
use Rattle.std.proofs.Common.{◌≡◌, ℕ, List, [], ◌∷◌, ◌++◌, map, true, false, Ordering, Less, IsPermutation, IsSorted, refl, sym, ap, subst, ◌∙◌, append_assoc}
use Rattle.std.proofs.lemmas.List.Sorted.{IsPermutation-sym, IsPermutation-trans}
use Rattle.std.specs.Cmp.{IsTotalOrder}
use Rattle.sqlite_value.specs.Order.{Row}
use Rattle.sqlite_trees.specs.Tree.{IsAscending}
use Rattle.sqlite_schema.specs.declared.schema.Schema.{Schema}
use Rattle.sqlite_schema.specs.declared.command.Command.TheVariants.{Select}
use Rattle.sqlite_sql.specs.Query.{Query}
use Rattle.sqlite_keyed.proofs.SortLemmas.{sorted_unique}
use Rattle.sqlite.specs.Effect.{Database}
use Rattle.sqlite.specs.Listing.{understood}
use Rattle.sqlite.specs.State.{State, Shown, IsUnchanged}
use Rattle.sqlite.proofs.Callers.{command_of}
use Rattle.vault_audit_rows.specs.Pass.{Takes, Refuses, AllFit, after}
use Rattle.vault_audit_rows.specs.Walk.{Goes, Walked}
use Rattle.vault_audit_rows.proofs.ScanLemmas.{first_cmp, first_cmp_total, goes_on_to}

-- where items of one row lead on alike, also where the row doesn't state all of an item
module _ {P X : Type 0} (row_of : X → Row) (Fits : P → X → Type 0) (next : P → X → P) (same_next : (p : P) (x y : X) → row_of x ≡ row_of y → next p x ≡ next p y) where
  abbrev step : P → Row → P → Type 0
  step = Takes row_of Fits next

  -- the rows that it took are those of items that fit
  gone : (p q : P) (rows : List Row) → Goes step p rows q → (xs : List X) × (rows ≡ map row_of xs) × AllFit row_of Fits next p xs × (q ≡ after row_of Fits next p xs)
  gone p q [] same = ([], refl, tt, sym same)
  gone p q (r ∷ rows) (m, one, more) =
      let it = gone m q rows more in
      let all : (xs : List X) × (rows ≡ map row_of xs) × AllFit row_of Fits next (next p one.0) xs × (q ≡ after row_of Fits next (next p one.0) xs) =
      subst (λ n. (xs : List X) × (rows ≡ map row_of xs) × AllFit row_of Fits next n xs × (q ≡ after row_of Fits next n xs)) one.3 it in
      (one.0 ∷ all.0, cc (one.1, all.1), (one.2, all.2), all.3)

  -- a row that it refuses is in no list of items that fit and begin with those that it took
  stuck : (p m : P) (rows : List Row) (row : Row) (tail : List Row) (xs : List X) → Goes step p rows m → Refuses row_of Fits next m row → rows ++ row ∷ tail ≡ map row_of xs → ¬ AllFit row_of Fits next p xs
  stuck p m [] row tail [] same never e fit = absurd cc
  stuck p m [] row tail (x ∷ xs) same never e fit =
      let first : row ≡ row_of x = cc in
      never x first (subst (λ n. Fits n x) same fit.0)
  stuck p m (r ∷ rows) row tail [] goes never e fit = absurd cc
  stuck p m (r ∷ rows) row tail (x ∷ xs) (n, one, more) never e fit =
      let rest : rows ++ row ∷ tail ≡ map row_of xs = cc in
      let first : row_of x ≡ row_of one.0 = cc in
      let same : next p x ≡ n = same_next p x one.0 first ∙ sym one.3 in
      stuck n m rows row tail xs more never rest (subst (λ k. AllFit row_of Fits next k xs) same fit.1)

  -- where the answer is in an order in which the rows of items that fit rise
  module _ (cmp : Row → Row → Ordering) (total : IsTotalOrder cmp) (schema : Schema) (sql : List ℕ) (q : Query) (names : List (List ℕ)) (is : command_of (understood schema sql) ≡ Select (record { lets = []; body = q }) names)
      (source : Database → List Row) (answers : (a b : State) → a.now.schema ≡ schema → (rows : List Row) → Shown sql [] a b rows → IsPermutation (source a.now) rows × IsSorted cmp rows)
      (old new : State) (has : old.now.schema ≡ schema) (same : IsUnchanged old new) (p r : P) where
    pub rows_yes : Walked step (Refuses row_of Fits next) sql old new p r true
        → (xs : List X) × IsPermutation (map row_of xs) (source new.now) × AllFit row_of Fits next p xs × (r ≡ after row_of Fits next p xs)
    rows_yes (rows, shown, goes) =
        let it = gone p r rows goes in
        let whole = (answers old new has rows shown).0 in
        let db : new.now ≡ old.now = same.0.now_is in
        (it.0, subst (λ (d : Database). IsPermutation (map row_of it.0) (source d)) (sym db) (subst (λ xs. IsPermutation xs (source old.now)) it.1 (IsPermutation-sym _ _ whole)), it.2, it.3)

    pub rows_no : ((xs : List X) → AllFit row_of Fits next p xs → IsAscending (λ a b. cmp a b ≡ Less) (map row_of xs)) → Walked step (Refuses row_of Fits next) sql old new p r false
        → (xs : List X) → IsPermutation (map row_of xs) (source new.now) → ¬ AllFit row_of Fits next p xs
    rows_no rise (rows, row, m, begins, goes, never) xs are fit =
        let known : new.now.schema ≡ schema = ap (λ (d : Database). d.schema) same.0.now_is ∙ has in
        let on = goes_on_to sql new schema known q names is same.0.is_open (rows ++ row ∷ []) begins in
        let whole = answers new new known ((rows ++ row ∷ []) ++ on.0) on.1 in
        let order = sorted_unique cmp total (map row_of xs) ((rows ++ row ∷ []) ++ on.0) (rise xs fit) (IsPermutation-trans _ _ _ are whole.0) whole.1 in
        stuck p m rows row on.0 xs goes never (sym (append_assoc rows (row ∷ []) on.0) ∙ order) fit

-- the same, where the row holds the item
module _ {P X : Type 0} (row_of : X → Row) (Fits : P → X → Type 0) (next : P → X → P) (same_row : (x y : X) → row_of x ≡ row_of y → x ≡ y) where
  leads_on : (p : P) (x y : X) → row_of x ≡ row_of y → next p x ≡ next p y
  leads_on p x y e = ap (next p) (same_row x y e)

  module _ (cmp : Row → Row → Ordering) (total : IsTotalOrder cmp) (schema : Schema) (sql : List ℕ) (q : Query) (names : List (List ℕ)) (is : command_of (understood schema sql) ≡ Select (record { lets = []; body = q }) names)
      (source : Database → List Row) (answers : (a b : State) → a.now.schema ≡ schema → (rows : List Row) → Shown sql [] a b rows → IsPermutation (source a.now) rows × IsSorted cmp rows)
      (old new : State) (has : old.now.schema ≡ schema) (same : IsUnchanged old new) (p r : P) where
    pub pass_yes : Walked (Takes row_of Fits next) (Refuses row_of Fits next) sql old new p r true
        → (xs : List X) × IsPermutation (map row_of xs) (source new.now) × AllFit row_of Fits next p xs × (r ≡ after row_of Fits next p xs)
    pass_yes = rows_yes row_of Fits next leads_on cmp total schema sql q names is source answers old new has same p r

    pub pass_no : ((xs : List X) → AllFit row_of Fits next p xs → IsAscending (λ a b. cmp a b ≡ Less) (map row_of xs)) → Walked (Takes row_of Fits next) (Refuses row_of Fits next) sql old new p r false
        → (xs : List X) → IsPermutation (map row_of xs) (source new.now) → ¬ AllFit row_of Fits next p xs
    pass_no = rows_no row_of Fits next leads_on cmp total schema sql q names is source answers old new has same p r

  -- in the order of the first column
  module _ (schema : Schema) (sql : List ℕ) (q : Query) (names : List (List ℕ)) (is : command_of (understood schema sql) ≡ Select (record { lets = []; body = q }) names)
      (source : Database → List Row) (answers : (a b : State) → a.now.schema ≡ schema → (rows : List Row) → Shown sql [] a b rows → IsPermutation (source a.now) rows × IsSorted first_cmp rows)
      (old new : State) (has : old.now.schema ≡ schema) (same : IsUnchanged old new) (p r : P) where
    pub walk_yes : Walked (Takes row_of Fits next) (Refuses row_of Fits next) sql old new p r true
        → (xs : List X) × IsPermutation (map row_of xs) (source new.now) × AllFit row_of Fits next p xs × (r ≡ after row_of Fits next p xs)
    walk_yes = pass_yes first_cmp first_cmp_total schema sql q names is source answers old new has same p r

    pub walk_no : ((xs : List X) → AllFit row_of Fits next p xs → IsAscending (λ a b. first_cmp a b ≡ Less) (map row_of xs)) → Walked (Takes row_of Fits next) (Refuses row_of Fits next) sql old new p r false
        → (xs : List X) → IsPermutation (map row_of xs) (source new.now) → ¬ AllFit row_of Fits next p xs
    walk_no = pass_no first_cmp first_cmp_total schema sql q names is source answers old new has same p r
