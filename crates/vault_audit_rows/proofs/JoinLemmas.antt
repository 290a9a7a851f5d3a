-- A query that shows each row of a table beside those of another that agree with it, or beside NULLs.
use Rattle.std.specs.Ordering.{is_lt}
use Rattle.std.proofs.Common.{◌≡◌, ◌<◌, ℕ, ◌+◌, pos, negsuc, List, [], ◌∷◌, length, map, filter, flat_map, Bool, true, false, ◌&&◌, None, Ordering, All, IsPermutation, IsSorted, refl, sym, ap, ap₂, subst, ◌∙◌, arith}
use Rattle.std.specs.List.{AllByRecursion, list_all}
use Rattle.std.proofs.lemmas.List.{get_or-map, length-map}
use Rattle.std.proofs.lemmas.List.Elements.{All-from_recursion}
use Rattle.std.proofs.lemmas.List.Sorted.{IsPermutation-map, All-permutation}
use Rattle.sqlite_trees.specs.Tree.{Trees}
use Rattle.sqlite_keyed.proofs.ListLemmas.{map-map, map-flat_map, flat_map_same_on, filter_same}
use Rattle.sqlite_value.specs.declared.value.Value.TheVariants.{Null, Int}
use Rattle.sqlite_value.specs.declared.keys.Key.{Key}
use Rattle.sqlite_value.specs.declared.keys.Collation.TheVariants.{Binary}
use Rattle.sqlite_value.specs.Order.{Row, column}
use Rattle.sqlite_sql.specs.declared.ops.BinaryOp.TheVariants.{Compare}
use Rattle.sqlite_sql.specs.declared.ops.CompareOp.TheVariants.{Eq}
use Rattle.sqlite_sql.specs.Term.{Term, Env, lit, col, op2, eval_all, holds}
use Rattle.sqlite_sql.specs.Query.{Query, inner, left, end, or_nulls, IsAnswer, Output, output, output_cmp}
use Rattle.sqlite_sql.specs.Program.{overlay}
use Rattle.sqlite_schema.specs.declared.schema.Schema.{Schema}
use Rattle.sqlite_schema.specs.declared.command.Command.TheVariants.{Select}
use Rattle.sqlite.specs.Listing.{understood, reads_listing}
use Rattle.sqlite.specs.State.{State, Shown}
use Rattle.sqlite.proofs.Callers.{IsPlain, command_of, reads_as}
use Rattle.vault_audit_model.proofs.ValueLemmas.{agrees}

-- SELECT columns FROM t AS a LEFT JOIN other AS b ON b.(key) = a.(at) ORDER BY order
abbrev pub joined_of : ℕ → ℕ → ℕ → ℕ → List Term → List (Term × Key) → Query
joined_of t other key at columns order = record {
  from = inner t (left other (op2 (Compare Eq Binary) (col 2 key) (col 1 at) ∷ []) end);
  filter = [];
  group = None;
  project = columns;
  distinct = false;
  collations = [];
  order = order;
  limit = lit (Int (negsuc 0));
  offset = lit (Int (pos 0));
}

-- what it shows for one row
abbrev pub shown_joined : ℕ → ℕ → ℕ → List Term → Trees → Row → List Row
shown_joined other key at columns db r = map (λ e. eval_all columns ([] ∷ r ∷ e ∷ [])) (or_nulls (filter (λ e. agrees (column e key) (column r at)) (db other)))

abbrev pub shown_by_join : ℕ → ℕ → ℕ → ℕ → List Term → Trees → List Row
shown_by_join t other key at columns db = flat_map (shown_joined other key at columns db) (db t)

-- ---- which rows

pub with_true : (b : Bool) → (b && true) ≡ b
with_true true = refl
with_true false = refl

pub singles : (g : Env → Row) (h : Row → Env) (rows : List Row) → map g (flat_map (λ e. h e ∷ []) rows) ≡ map (λ e. g (h e)) rows
singles g h [] = refl
singles g h (r ∷ rows) = ap (λ xs. g (h r) ∷ xs) (singles g h rows)

abbrev on_of : ℕ → ℕ → List Term
on_of key at = op2 (Compare Eq Binary) (col 2 key) (col 1 at) ∷ []

abbrev envs_of : ℕ → ℕ → ℕ → Trees → Row → List Env
envs_of other key at db r = flat_map (λ e. ([] ∷ r ∷ e ∷ []) ∷ []) (or_nulls (filter (λ e. list_all (holds ([] ∷ r ∷ e ∷ [])) (on_of key at)) (db other)))

shown_for : (other key at : ℕ) (columns : List Term) (db : Trees) (r : Row) → map (eval_all columns) (envs_of other key at db r) ≡ shown_joined other key at columns db r
shown_for other key at columns db r =
    singles (eval_all columns) (λ e. [] ∷ r ∷ e ∷ []) (or_nulls (filter (λ e. list_all (holds ([] ∷ r ∷ e ∷ [])) (on_of key at)) (db other)))
    ∙ ap (λ xs. map (λ e. eval_all columns ([] ∷ r ∷ e ∷ [])) (or_nulls xs)) (filter_same (λ e. list_all (holds ([] ∷ r ∷ e ∷ [])) (on_of key at)) (λ e. agrees (column e key) (column r at)) (λ e. with_true _) (db other))

joined_rows : (t other key at : ℕ) (columns : List Term) (order : List (Term × Key)) (db : Trees) (rows : List Row) → IsAnswer (joined_of t other key at columns order) db [] rows → IsPermutation (shown_by_join t other key at columns db) rows
joined_rows t other key at columns order db rows a =
    let q = joined_of t other key at columns order in
    let kept : map (λ (o : Output). o.1) a.kept ≡ shown_by_join t other key at columns db =
    ap (map (λ (o : Output). o.1)) (a.distinct ∙ ap (map (output q)) a.grouped) ∙ map-map (λ (o : Output). o.1) (output q) (flat_map (envs_of other key at db) (db t))
    ∙ map-flat_map (eval_all columns) (envs_of other key at db) (db t) ∙ flat_map_same_on _ (shown_joined other key at columns db) (shown_for other key at columns db) (db t) in
    subst (λ xs. IsPermutation xs rows) kept (subst (IsPermutation (map (λ (o : Output). o.1) a.kept)) (sym a.shown) (IsPermutation-map (λ (o : Output). o.1) a.kept a.ordered a.same))

-- ---- in which order

abbrev IsMadeBy : Query → Output → Type 0
IsMadeBy q o = (env : Env) × (o ≡ output q env)

made_by : (q : Query) (envs : List Env) → AllByRecursion (IsMadeBy q) (map (output q) envs)
made_by q [] = tt
made_by q (e ∷ envs) = ((e, refl), made_by q envs)

-- the order of the rows that a query shows is that of its keys
abbrev pub IsOrderOf : Query → (Row → Row → Ordering) → Type 0
IsOrderOf q by = (a b : Env) → is_lt (output_cmp q (output q a) (output q b)) ≡ is_lt (by (eval_all q.project a) (eval_all q.project b))

ordered_alike : (q : Query) (by : Row → Row → Ordering) → IsOrderOf q by → (x y : Output) → IsMadeBy q x → IsMadeBy q y → is_lt (output_cmp q x y) ≡ is_lt (by x.1 y.1)
ordered_alike q by same x y (a, is_a) (b, is_b) =
    subst (λ o. is_lt (output_cmp q o y) ≡ is_lt (by o.1 y.1)) (sym is_a) (subst (λ o. is_lt (output_cmp q (output q a) o) ≡ is_lt (by (output q a).1 o.1)) (sym is_b) (same a b))

sorted_as : (q : Query) (by : Row → Row → Ordering) → IsOrderOf q by → (os : List Output) → IsSorted (output_cmp q) os → All (IsMadeBy q) os → IsSorted by (map (λ (o : Output). o.1) os)
sorted_as q by same os sorted all k d low high =
    let f = λ (o : Output). o.1 in
    let e : Output = ([], d) in
    let len : length (map f os) ≡ length os = simp length-map in
    let in1 : k < length os = omega arith in
    let in2 : k + 1 < length os = omega arith in
    let a = get_or-map f os k e d in1 in
    let b = get_or-map f os (k + 1) e d in2 in
    let one = sorted k e low in2 in
    let alike = ordered_alike q by same _ _ (all (k + 1) e in2) (all k e in1) in
    rw (a, b) (sym alike ∙ one)

rows_sorted : (q : Query) (by : Row → Row → Ordering) → IsOrderOf q by → (t other key at : ℕ) (columns : List Term) (order : List (Term × Key)) → q ≡ joined_of t other key at columns order → (db : Trees) (rows : List Row) → IsAnswer (joined_of t other key at columns order) db [] rows → IsSorted by rows
rows_sorted q by same t other key at columns order is db rows a =
    let p = joined_of t other key at columns order in
    let its : IsOrderOf p by = subst (λ x. IsOrderOf x by) is same in
    let all : All (IsMadeBy p) a.kept = subst (All (IsMadeBy p)) (sym a.distinct) (All-from_recursion (IsMadeBy p) _ (made_by p a.staged)) in
    subst (IsSorted by) (sym a.shown) (sorted_as p by its a.ordered a.sorted (All-permutation (IsMadeBy p) a.kept a.ordered a.same all))

-- the answer of such a statement
pub joined_with : (sql : List ℕ) (old new : State) (schema : Schema) → old.now.schema ≡ schema → IsPlain (understood schema sql) → reads_listing schema sql ≡ false → (t other key at : ℕ) (columns : List Term) (order : List (Term × Key)) (by : Row → Row → Ordering) (names : List (List ℕ))
    → command_of (understood schema sql) ≡ Select (record { lets = []; body = joined_of t other key at columns order }) names → IsOrderOf (joined_of t other key at columns order) by → overlay old.now.trees [] t ≡ old.now.trees t → overlay old.now.trees [] other ≡ old.now.trees other → (rows : List Row) → Shown sql [] old new rows
    → IsPermutation (shown_by_join t other key at columns old.now.trees) rows × IsSorted by rows
joined_with sql old new schema has plain unlisted t other key at columns order by names is same bare bare_other rows h =
    let read = reads_as sql [] old new schema has _ is plain unlisted rows h in
    let trees = overlay old.now.trees [] in
    let it = joined_rows t other key at columns order trees rows (read.answer Null) in
    let shown = λ (here there : List Row). flat_map (λ r. map (λ e. eval_all columns ([] ∷ r ∷ e ∷ [])) (or_nulls (filter (λ e. agrees (column e key) (column r at)) there))) here in
    (subst (λ xs. IsPermutation xs rows) (ap₂ shown bare bare_other) it, rows_sorted _ by same t other key at columns order refl trees rows (read.answer Null))
