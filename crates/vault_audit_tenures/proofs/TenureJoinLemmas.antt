-- The query that shows each tenure beside the entry of its id and that entry's bucket, or beside NULLs.
use Rattle.std.specs.Ordering.{is_lt}
use Rattle.std.proofs.Common.{◌≡◌, ◌<◌, ℕ, ◌+◌, pos, negsuc, List, [], ◌∷◌, length, map, filter, flat_map, false, None, All, IsPermutation, IsSorted, refl, sym, ap, subst, ◌∙◌, arith}
use Rattle.std.specs.List.{AllByRecursion, list_all}
use Rattle.std.proofs.lemmas.List.{get_or-map, length-map}
use Rattle.std.proofs.lemmas.List.Elements.{All-from_recursion}
use Rattle.std.proofs.lemmas.List.Sorted.{IsPermutation-map, All-permutation}
use Rattle.sqlite_trees.specs.Tree.{Trees}
use Rattle.sqlite_keyed.proofs.ListLemmas.{map-map, map-flat_map, flat_map_same_on, filter_same}
use Rattle.sqlite_value.specs.Keys.{ascending}
use Rattle.sqlite_value.specs.declared.value.Value.TheVariants.{Null, Int}
use Rattle.sqlite_value.specs.declared.keys.Collation.TheVariants.{Binary}
use Rattle.sqlite_value.specs.Order.{Row, column}
use Rattle.sqlite_sql.specs.declared.ops.BinaryOp.TheVariants.{Compare}
use Rattle.sqlite_sql.specs.declared.ops.CompareOp.TheVariants.{Eq}
use Rattle.sqlite_sql.specs.Term.{Term, Env, lit, col, op2, eval_all, holds}
use Rattle.sqlite_sql.specs.Query.{Query, inner, left, end, or_nulls, IsAnswer, Output, output, output_cmp}
use Rattle.sqlite_sql.specs.Program.{overlay}
use Rattle.sqlite_schema.specs.declared.schema.Schema.{Schema}
use Rattle.sqlite_schema.specs.declared.command.Command.TheVariants.{Select}
use Rattle.sqlite.specs.Listing.{understood, reads_listing}
use Rattle.sqlite.specs.State.{State, Shown}
use Rattle.sqlite.proofs.Callers.{IsPlain, command_of, reads_as}
use Rattle.vault_audit_model.specs.Tables.{tenures_tree, entries_tree, buckets_tree}
use Rattle.vault_audit_model.proofs.ValueLemmas.{agrees}
use Rattle.vault_audit_rows.proofs.JoinLemmas.{with_true, singles}
use Rattle.vault_audit_rows.proofs.PairLemmas.{pair_cmp}
use Rattle.vault_audit_tenures.specs.Chain.{beside, shown_beside, shown_in}

abbrev of_entry : List Term
of_entry = op2 (Compare Eq Binary) (col 2 0) (col 1 1) ∷ []

abbrev of_bucket : List Term
of_bucket = op2 (Compare Eq Binary) (col 3 1) (col 2 2) ∷ []

abbrev pub chain_query : Query
chain_query = record {
  from = inner tenures_tree (left entries_tree of_entry (left buckets_tree of_bucket end));
  filter = [];
  group = None;
  project = col 1 1 ∷ col 1 2 ∷ col 1 3 ∷ col 1 4 ∷ col 2 7 ∷ col 2 10 ∷ col 3 2 ∷ [];
  distinct = false;
  collations = [];
  order = (col 1 1, ascending Binary) ∷ (col 1 2, ascending Binary) ∷ [];
  limit = lit (Int (negsuc 0));
  offset = lit (Int (pos 0));
}

-- ---- which rows

abbrev shows : Env → Row
shows = eval_all chain_query.project

-- with a tenure and an entry
abbrev envs_with : Trees → Row → Row → List Env
envs_with db r e = flat_map (λ b. ([] ∷ r ∷ e ∷ b ∷ []) ∷ []) (or_nulls (filter (λ b. list_all (holds ([] ∷ r ∷ e ∷ b ∷ [])) of_bucket) (db buckets_tree)))

abbrev envs_of : Trees → Row → List Env
envs_of db r = flat_map (envs_with db r) (or_nulls (filter (λ e. list_all (holds ([] ∷ r ∷ e ∷ [])) of_entry) (db entries_tree)))

shown_with : (db : Trees) (r e : Row) → map shows (envs_with db r e) ≡ map (beside r e) (or_nulls (filter (λ b. agrees (column b 1) (column e 2)) (db buckets_tree)))
shown_with db r e =
    singles shows (λ b. [] ∷ r ∷ e ∷ b ∷ []) (or_nulls (filter (λ b. list_all (holds ([] ∷ r ∷ e ∷ b ∷ [])) of_bucket) (db buckets_tree)))
    ∙ ap (λ xs. map (beside r e) (or_nulls xs)) (filter_same (λ b. list_all (holds ([] ∷ r ∷ e ∷ b ∷ [])) of_bucket) (λ b. agrees (column b 1) (column e 2)) (λ b. with_true _) (db buckets_tree))

shown_for : (db : Trees) (r : Row) → map shows (envs_of db r) ≡ shown_beside (db entries_tree) (db buckets_tree) r
shown_for db r =
    let found = λ (e : Row). map (beside r e) (or_nulls (filter (λ b. agrees (column b 1) (column e 2)) (db buckets_tree))) in
    map-flat_map shows (envs_with db r) (or_nulls (filter (λ e. list_all (holds ([] ∷ r ∷ e ∷ [])) of_entry) (db entries_tree)))
    ∙ flat_map_same_on _ found (shown_with db r) (or_nulls (filter (λ e. list_all (holds ([] ∷ r ∷ e ∷ [])) of_entry) (db entries_tree)))
    ∙ ap (λ xs. flat_map found (or_nulls xs)) (filter_same (λ e. list_all (holds ([] ∷ r ∷ e ∷ [])) of_entry) (λ e. agrees (column e 0) (column r 1)) (λ e. with_true _) (db entries_tree))

abbrev rows_of : Trees → List Row
rows_of db = flat_map (shown_beside (db entries_tree) (db buckets_tree)) (db tenures_tree)

joined_rows : (db : Trees) (rows : List Row) → IsAnswer chain_query db [] rows → IsPermutation (rows_of db) rows
joined_rows db rows a =
    let kept : map (λ (o : Output). o.1) a.kept ≡ rows_of db =
    ap (map (λ (o : Output). o.1)) (a.distinct ∙ ap (map (output chain_query)) a.grouped) ∙ map-map (λ (o : Output). o.1) (output chain_query) (flat_map (envs_of db) (db tenures_tree))
    ∙ map-flat_map shows (envs_of db) (db tenures_tree) ∙ flat_map_same_on _ (shown_beside (db entries_tree) (db buckets_tree)) (shown_for db) (db tenures_tree) in
    subst (λ xs. IsPermutation xs rows) kept (subst (IsPermutation (map (λ (o : Output). o.1) a.kept)) (sym a.shown) (IsPermutation-map (λ (o : Output). o.1) a.kept a.ordered a.same))

-- ---- in which order

abbrev IsMade : Output → Type 0
IsMade o = (env : Env) × (o ≡ output chain_query env)

are_made : (envs : List Env) → AllByRecursion IsMade (map (output chain_query) envs)
are_made [] = tt
are_made (e ∷ envs) = ((e, refl), are_made envs)

ordered_alike : (x y : Output) → IsMade x → IsMade y → is_lt (output_cmp chain_query x y) ≡ is_lt (pair_cmp x.1 y.1)
ordered_alike x y (a, is_a) (b, is_b) =
    subst (λ o. is_lt (output_cmp chain_query o y) ≡ is_lt (pair_cmp o.1 y.1)) (sym is_a)
    (subst (λ o. is_lt (output_cmp chain_query (output chain_query a) o) ≡ is_lt (pair_cmp (output chain_query a).1 o.1)) (sym is_b) refl)

sorted_as : (os : List Output) → IsSorted (output_cmp chain_query) os → All IsMade os → IsSorted pair_cmp (map (λ (o : Output). o.1) os)
sorted_as os sorted all k d low high =
    let f = λ (o : Output). o.1 in
    let e : Output = ([], d) in
    let len : length (map f os) ≡ length os = simp length-map in
    let in1 : k < length os = omega arith in
    let in2 : k + 1 < length os = omega arith in
    let a = get_or-map f os k e d in1 in
    let b = get_or-map f os (k + 1) e d in2 in
    let one = sorted k e low in2 in
    let alike = ordered_alike _ _ (all (k + 1) e in2) (all k e in1) in
    rw (a, b) (sym alike ∙ one)

rows_sorted : (db : Trees) (rows : List Row) → IsAnswer chain_query db [] rows → IsSorted pair_cmp rows
rows_sorted db rows a =
    let all : All IsMade a.kept = subst (All IsMade) (sym a.distinct) (All-from_recursion IsMade _ (are_made a.staged)) in
    subst (IsSorted pair_cmp) (sym a.shown) (sorted_as a.ordered a.sorted (All-permutation IsMade a.kept a.ordered a.same all))

-- the answer of a statement that is this query
pub joined : (sql : List ℕ) (old new : State) (schema : Schema) → old.now.schema ≡ schema → IsPlain (understood schema sql) → reads_listing schema sql ≡ false → (names : List (List ℕ))
    → command_of (understood schema sql) ≡ Select (record { lets = []; body = chain_query }) names → (rows : List Row) → Shown sql [] old new rows → IsPermutation (shown_in old.now) rows × IsSorted pair_cmp rows
joined sql old new schema has plain unlisted names is rows h =
    let read = reads_as sql [] old new schema has _ is plain unlisted rows h in
    let trees = overlay old.now.trees [] in
    (joined_rows trees rows (read.answer Null), rows_sorted trees rows (read.answer Null))
