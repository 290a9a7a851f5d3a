-- A query over one table in the order of its first column.
use Rattle.std.proofs.Common.{◌≡◌, ℕ, ◌+◌, ◌<◌, List, [], ◌∷◌, ◌++◌, length, map, flat_map, false, Ordering, Less, Equal, Greater, is_lt, IsPermutation, IsSorted, refl, sym, ap, subst, ◌∙◌, arith, All, IsTrue}
use Rattle.std.specs.List.{AllByRecursion}
use Rattle.std.specs.Ordering.{on, ordering_then}
use Rattle.std.specs.Cmp.{IsTotalOrder}
use Rattle.std.proofs.lemmas.Cmp.{on_total}
use Rattle.std.proofs.lemmas.List.{get_or-map, length-map}
use Rattle.std.proofs.lemmas.List.Elements.{All-from_recursion}
use Rattle.std.proofs.lemmas.List.Sorted.{IsPermutation-map, All-permutation}
use Rattle.sqlite_trees.specs.Tree.{Trees}
use Rattle.sqlite_trees.proofs.ListLemmas.{map-map}
use Rattle.sqlite_value.specs.declared.value.Value.TheVariants.{Null}
use Rattle.sqlite_value.specs.declared.keys.Collation.TheVariants.{Binary}
use Rattle.sqlite_value.specs.Keys.{ascending}
use Rattle.sqlite_value.specs.Order.{Row, column, value_cmp}
use Rattle.sqlite_value.proofs.OrderLemmas.{value_cmp_total}
use Rattle.sqlite_sql.specs.Term.{Term, Env, col, eval_all}
use Rattle.sqlite_sql.specs.Query.{Query, IsAnswer, Output, output, output_cmp}
use Rattle.sqlite_sql.specs.Program.{overlay}
use Rattle.sqlite_schema.specs.declared.schema.Schema.{Schema}
use Rattle.sqlite_schema.specs.declared.command.Command.TheVariants.{Select}
use Rattle.sqlite.specs.Listing.{understood, reads_listing}
use Rattle.sqlite.specs.State.{State, Shown, Begins, IsUnchanged}
use Rattle.sqlite.specs.Clock.{timed}
use Rattle.sqlite.proofs.Callers.{IsPlain, command_of, reads_as, begins_shown, EndsIn}
use Rattle.vault_audit_model.specs.Queries.{select_from}

-- SELECT first, rest FROM t ORDER BY first
abbrev pub walk_of : ℕ → ℕ → List Term → Query
walk_of t first rest = select_from t [] (col 1 first ∷ rest) ((col 1 first, ascending Binary) ∷ [])

-- what the row shows
abbrev pub shows : List Term → Row → Row → Row
shows project params r = eval_all project (params ∷ r ∷ [])

-- by the first column
abbrev pub first_cmp : Row → Row → Ordering
first_cmp = on (λ r. column r 0) value_cmp

pub first_cmp_total : IsTotalOrder first_cmp
first_cmp_total = on_total (λ r. column r 0) value_cmp_total

pub matched_in : (params : Row) (rows : List Row) → flat_map (λ r. (params ∷ r ∷ []) ∷ []) rows ≡ map (λ r. params ∷ r ∷ []) rows
matched_in params [] = refl
matched_in params (r ∷ rows) = ap (λ xs. (params ∷ r ∷ []) ∷ xs) (matched_in params rows)

-- the key that an output is sorted by is its first column
abbrev IsKeyed : Output → Type 0
IsKeyed o = column o.0 0 ≡ column o.1 0

keyed : (t first : ℕ) (rest : List Term) (envs : List Env) → AllByRecursion IsKeyed (map (output (walk_of t first rest)) envs)
keyed t first rest [] = tt
keyed t first rest (e ∷ envs) = (refl, keyed t first rest envs)

alone : (o : Ordering) → is_lt (ordering_then o Equal) ≡ is_lt o
alone Less = refl
alone Equal = refl
alone Greater = refl

sorted_rows : (t first : ℕ) (rest : List Term) (os : List Output) → IsSorted (output_cmp (walk_of t first rest)) os → All IsKeyed os → IsSorted first_cmp (map (λ (o : Output). o.1) os)
sorted_rows t first rest os sorted all k d low high =
    let f = λ (o : Output). o.1 in
    let e : Output = ([], d) in
    let len : length (map f os) ≡ length os = simp length-map in
    let in1 : k < length os = omega arith in
    let in2 : k + 1 < length os = omega arith in
    let a = get_or-map f os k e d in1 in
    let b = get_or-map f os (k + 1) e d in2 in
    let key1 = all k e in1 in
    let key2 = all (k + 1) e in2 in
    let one = sorted k e low in2 in
    rw (a, b) (rw (alone _, key1, key2) at one)

pub walk_rows : (t first : ℕ) (rest : List Term) (db : Trees) (params : Row) (rows : List Row) → IsAnswer (walk_of t first rest) db params rows
    → IsPermutation (map (shows (col 1 first ∷ rest) params) (db t)) rows × IsSorted first_cmp rows
walk_rows t first rest db params rows a =
    let q = walk_of t first rest in
    let kept : map (λ (o : Output). o.1) a.kept ≡ map (shows (col 1 first ∷ rest) params) (db t) =
    ap (map (λ (o : Output). o.1)) (a.distinct ∙ ap (map (output q)) (a.grouped ∙ matched_in params (db t)) ∙ map-map (output q) (λ r. params ∷ r ∷ []) (db t))
    ∙ map-map (λ (o : Output). o.1) (λ r. output q (params ∷ r ∷ [])) (db t) in
    let all : All IsKeyed a.kept = subst (All IsKeyed) (sym a.distinct) (All-from_recursion IsKeyed _ (keyed t first rest a.staged)) in (
      subst (λ xs. IsPermutation xs rows) kept (subst (IsPermutation (map (λ (o : Output). o.1) a.kept)) (sym a.shown) (IsPermutation-map (λ (o : Output). o.1) a.kept a.ordered a.same)),
      subst (IsSorted first_cmp) (sym a.shown) (sorted_rows t first rest a.ordered a.sorted (All-permutation IsKeyed a.kept a.ordered a.same all)),
    )

-- the answer of such a statement
pub walked : (sql : List ℕ) (old new : State) (schema : Schema) → old.now.schema ≡ schema → IsPlain (understood schema sql) → reads_listing schema sql ≡ false
    → (t first : ℕ) (rest : List Term) (names : List (List ℕ)) → command_of (understood schema sql) ≡ Select (record { lets = []; body = walk_of t first rest }) names
    → overlay old.now.trees [] t ≡ old.now.trees t → (rows : List Row) → Shown sql [] old new rows
    → IsPermutation (map (shows (col 1 first ∷ rest) []) (old.now.trees t)) rows × IsSorted first_cmp rows
walked sql old new schema has plain unlisted t first rest names is same rows h =
    let read = reads_as sql [] old new schema has _ is plain unlisted rows h in
    let it = walk_rows t first rest (overlay old.now.trees []) [] rows (read.answer Null) in
    (subst (λ xs. IsPermutation (map (shows (col 1 first ∷ rest) []) xs) rows) same it.0, it.1)

pub still : (s : State) → IsTrue s.is_open → IsUnchanged s s
still s is_open = (record { was_open = is_open; is_open = is_open; now_is = refl; committed_is = refl; mode = refl }, record { changes = refl; last_rowid = refl }, refl)

-- what begins an answer goes on to be one
pub goes_on_to : (sql : List ℕ) (new : State) (schema : Schema) → new.now.schema ≡ schema → (q : Query) (names : List (List ℕ)) → command_of (understood schema sql) ≡ Select (record { lets = []; body = q }) names
    → IsTrue new.is_open → (rows : List Row) → Begins sql [] new rows → (tail : List Row) × Shown sql [] new new (rows ++ tail)
goes_on_to sql new schema has q names is is_open rows h =
    begins_shown sql [] new new rows h (still new is_open) (λ c db it source.
    let known : command_of (understood new.now.schema sql) ≡ Select (record { lets = []; body = q }) names = subst (λ s. command_of (understood s sql) ≡ Select (record { lets = []; body = q }) names) (sym has) is in
    let command : c.command ≡ Select (record { lets = []; body = q }) names = sym (ap command_of it.is) ∙ known in
    subst (λ k. EndsIn k db (timed [] c.formats it.now)) (sym command) tt)
