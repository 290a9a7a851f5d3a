-- A walk that took the whole answer ends as it does after any items that fit and have these rows.
use Rattle.std.proofs.Common.{◌≡◌, ℕ, List, [], ◌∷◌, map, true, Ordering, Less, IsPermutation, IsSorted, sym, ap, subst, ◌∙◌}
use Rattle.std.proofs.lemmas.List.Sorted.{IsPermutation-trans}
use Rattle.std.specs.Cmp.{IsTotalOrder}
use Rattle.sqlite_value.specs.Order.{Row}
use Rattle.sqlite_trees.specs.Tree.{IsAscending}
use Rattle.sqlite_schema.specs.declared.schema.Schema.{Schema}
use Rattle.sqlite_keyed.proofs.SortLemmas.{sorted_unique}
use Rattle.sqlite.specs.Effect.{Database}
use Rattle.sqlite.specs.State.{State, Shown, IsUnchanged}
use Rattle.vault_audit_rows.specs.Pass.{Takes, Refuses, AllFit, after}
use Rattle.vault_audit_rows.specs.Walk.{Goes, Walked}

module _ {P X : Type 0} (row_of : X → Row) (Fits : P → X → Type 0) (next : P → X → P) (same_row : (x y : X) → row_of x ≡ row_of y → x ≡ y) where
  ends_as : (p r : P) (rows : List Row) (xs : List X) → Goes (Takes row_of Fits next) p rows r → rows ≡ map row_of xs → r ≡ after row_of Fits next p xs
  ends_as p r [] [] same e = sym same
  ends_as p r [] (x ∷ xs) same e = absurd cc
  ends_as p r (row ∷ rows) [] goes e = absurd cc
  ends_as p r (row ∷ rows) (x ∷ xs) (n, one, more) e =
      let rest : rows ≡ map row_of xs = cc in
      let first : row_of one.0 ≡ row_of x = cc in
      ends_as n r rows xs more rest ∙ ap (λ m. after row_of Fits next m xs) (one.3 ∙ ap (next p) (same_row one.0 x first))

  module _ (cmp : Row → Row → Ordering) (total : IsTotalOrder cmp) (schema : Schema) (sql : List ℕ) (source : Database → List Row)
      (answers : (a b : State) → a.now.schema ≡ schema → (rows : List Row) → Shown sql [] a b rows → IsPermutation (source a.now) rows × IsSorted cmp rows) (old new : State) (has : old.now.schema ≡ schema) (same : IsUnchanged old new) (p r : P) where
    pub pass_only : ((xs : List X) → AllFit row_of Fits next p xs → IsAscending (λ a b. cmp a b ≡ Less) (map row_of xs)) → Walked (Takes row_of Fits next) (Refuses row_of Fits next) sql old new p r true
        → (ys : List X) → IsPermutation (map row_of ys) (source new.now) → AllFit row_of Fits next p ys → r ≡ after row_of Fits next p ys
    pass_only rise (rows, shown, goes) ys are fit =
        let whole = answers old new has rows shown in
        let db : new.now ≡ old.now = same.0.now_is in
        let before = subst (λ (d : Database). IsPermutation (map row_of ys) (source d)) db are in
        ends_as p r rows ys goes (sorted_unique cmp total (map row_of ys) rows (rise ys fit) (IsPermutation-trans _ _ _ before whole.0) whole.1)
