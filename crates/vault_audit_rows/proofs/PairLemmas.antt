-- A query over one table in the order of its first two columns.
use Rattle.std.proofs.Common.{◌≡◌, ℕ, ◌+◌, ◌<◌, List, [], ◌∷◌, length, map, false, Ordering, IsPermutation, IsSorted, sym, ap, subst, ◌∙◌, refl, arith, All}
use Rattle.std.specs.List.{AllByRecursion}
use Rattle.std.specs.Cmp.{IsTotalOrder}
use Rattle.std.proofs.lemmas.List.{get_or-map, length-map}
use Rattle.std.proofs.lemmas.List.Elements.{All-from_recursion}
use Rattle.std.proofs.lemmas.List.Sorted.{IsPermutation-map, All-permutation}
use Rattle.sqlite_trees.specs.Tree.{Trees}
use Rattle.sqlite_trees.proofs.ListLemmas.{map-map}
use Rattle.sqlite_value.specs.declared.value.Value.TheVariants.{Null}
use Rattle.sqlite_value.specs.declared.keys.Collation.TheVariants.{Binary}
use Rattle.sqlite_value.specs.Keys.{ascending}
use Rattle.sqlite_value.specs.Order.{Row, column}
use Rattle.sqlite_sql.specs.Term.{Term, Env, col}
use Rattle.sqlite_sql.specs.Query.{Query, IsAnswer, Output, output, output_cmp, key_cmp}
use Rattle.sqlite_sql.specs.Program.{overlay}
use Rattle.sqlite_sql.proofs.QueryLemmas.{key_cmp_total}
use Rattle.sqlite_schema.specs.declared.schema.Schema.{Schema}
use Rattle.sqlite_schema.specs.declared.command.Command.TheVariants.{Select}
use Rattle.sqlite.specs.Listing.{understood, reads_listing}
use Rattle.sqlite.specs.State.{State, Shown}
use Rattle.sqlite.proofs.Callers.{IsPlain, command_of, reads_as}
use Rattle.vault_audit_model.specs.Queries.{select_from}
use Rattle.vault_audit_rows.proofs.ScanLemmas.{shows, matched_in}

-- SELECT first, second, rest FROM t ORDER BY first, second
abbrev pub pair_walk_of : ℕ → ℕ → ℕ → List Term → Query
pair_walk_of t first second rest = select_from t [] (col 1 first ∷ col 1 second ∷ rest) ((col 1 first, ascending Binary) ∷ (col 1 second, ascending Binary) ∷ [])

-- by the first column, and then by the second
abbrev pub pair_cmp : Row → Row → Ordering
pair_cmp = key_cmp 0 (ascending Binary ∷ ascending Binary ∷ [])

pub pair_cmp_total : IsTotalOrder pair_cmp
pair_cmp_total = key_cmp_total (ascending Binary ∷ ascending Binary ∷ []) 0

-- the keys that an output is sorted by are its first columns
abbrev IsPaired : Output → Type 0
IsPaired o = (column o.0 0 ≡ column o.1 0) × (column o.0 1 ≡ column o.1 1)

paired : (t first second : ℕ) (rest : List Term) (envs : List Env) → AllByRecursion IsPaired (map (output (pair_walk_of t first second rest)) envs)
paired t first second rest [] = tt
paired t first second rest (e ∷ envs) = ((refl, refl), paired t first second rest envs)

sorted_pairs : (t first second : ℕ) (rest : List Term) (os : List Output) → IsSorted (output_cmp (pair_walk_of t first second rest)) os → All IsPaired os → IsSorted pair_cmp (map (λ (o : Output). o.1) os)
sorted_pairs t first second rest os sorted all k d low high =
    let f = λ (o : Output). o.1 in
    let e : Output = ([], d) in
    let len : length (map f os) ≡ length os = simp length-map in
    let in1 : k < length os = omega arith in
    let in2 : k + 1 < length os = omega arith in
    let a = get_or-map f os k e d in1 in
    let b = get_or-map f os (k + 1) e d in2 in
    let key1 = all k e in1 in
    let key2 = all (k + 1) e in2 in
    let one = sorted k e low in2 in
    rw (a, b) (rw (key1.0, key1.1, key2.0, key2.1) at one)

pub pair_walk_rows : (t first second : ℕ) (rest : List Term) (db : Trees) (params : Row) (rows : List Row) → IsAnswer (pair_walk_of t first second rest) db params rows
    → IsPermutation (map (shows (col 1 first ∷ col 1 second ∷ rest) params) (db t)) rows × IsSorted pair_cmp rows
pair_walk_rows t first second rest db params rows a =
    let q = pair_walk_of t first second rest in
    let kept : map (λ (o : Output). o.1) a.kept ≡ map (shows (col 1 first ∷ col 1 second ∷ rest) params) (db t) =
    ap (map (λ (o : Output). o.1)) (a.distinct ∙ ap (map (output q)) (a.grouped ∙ matched_in params (db t)) ∙ map-map (output q) (λ r. params ∷ r ∷ []) (db t))
    ∙ map-map (λ (o : Output). o.1) (λ r. output q (params ∷ r ∷ [])) (db t) in
    let all : All IsPaired a.kept = subst (All IsPaired) (sym a.distinct) (All-from_recursion IsPaired _ (paired t first second rest a.staged)) in (
      subst (λ xs. IsPermutation xs rows) kept (subst (IsPermutation (map (λ (o : Output). o.1) a.kept)) (sym a.shown) (IsPermutation-map (λ (o : Output). o.1) a.kept a.ordered a.same)),
      subst (IsSorted pair_cmp) (sym a.shown) (sorted_pairs t first second rest a.ordered a.sorted (All-permutation IsPaired a.kept a.ordered a.same all)),
    )

-- the answer of such a statement
pub pair_walked : (sql : List ℕ) (old new : State) (schema : Schema) → old.now.schema ≡ schema → IsPlain (understood schema sql) → reads_listing schema sql ≡ false
    → (t first second : ℕ) (rest : List Term) (names : List (List ℕ)) → command_of (understood schema sql) ≡ Select (record { lets = []; body = pair_walk_of t first second rest }) names
    → overlay old.now.trees [] t ≡ old.now.trees t → (rows : List Row) → Shown sql [] old new rows → IsPermutation (map (shows (col 1 first ∷ col 1 second ∷ rest) []) (old.now.trees t)) rows × IsSorted pair_cmp rows
pair_walked sql old new schema has plain unlisted t first second rest names is same rows h =
    let read = reads_as sql [] old new schema has _ is plain unlisted rows h in
    let it = pair_walk_rows t first second rest (overlay old.now.trees []) [] rows (read.answer Null) in
    (subst (λ xs. IsPermutation (map (shows (col 1 first ∷ col 1 second ∷ rest) []) xs) rows) same it.0, it.1)
