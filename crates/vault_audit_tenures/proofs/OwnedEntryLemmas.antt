-- What the query on entries beside their buckets shows: each entry once, beside its bucket if there is one.
use Rattle.std.specs.Ordering.{is_lt}
use Rattle.std.proofs.Common.{◌≡◌, ℕ, ◌+◌, ◌≤◌, List, [], ◌∷◌, map, filter, flat_map, find, cond, option_map, Bool, true, false, Option, Some, None, IfSome, Less, is_eq, nat_cmp, IsPermutation, IsSorted, refl, sym, ap, subst, ◌∙◌, arith}
use Rattle.std.specs.List.{AllByRecursion}
use Rattle.std.specs.Cmp.Lexicographic.{slice_cmp}
use Rattle.std.specs.Str.{bytes_eq}
use Rattle.std.proofs.lemmas.Bool.{false_from_ne_true}
use Rattle.std.proofs.lemmas.List.Sorted.{length_permutation}
use Rattle.std.proofs.lemmas.Map.Text.{is_eq-slice_cmp}
use Rattle.std.proofs.lemmas.Slice.Eq.{bytes_eq-Decides}
use Rattle.sqlite_trees.specs.Tree.{IsAscending as Rises}
use Rattle.sqlite_keyed.proofs.ListLemmas.{map-map, flat_map-map, filter-map, filter_same, filter_none, flat_map_same_on, IsPermutation-flat_map, IsPermutation-filter, ascending-map, ascending_from_map}
use Rattle.sqlite_value.specs.declared.value.Value.TheVariants.{Text}
use Rattle.sqlite_value.specs.Order.{Row as Values, column, value_cmp}
use Rattle.sqlite_value.proofs.OrderLemmas.{then-Equal}
use Rattle.sqlite_sql.specs.Term.{eval, col}
use Rattle.sqlite_sql.specs.Query.{or_nulls}
use Rattle.sqlite.specs.Effect.{Database}
use Rattle.sqlite.specs.State.{State, Shown}
use Rattle.sqlite.proofs.Callers.{one_permutation}
use Rattle.vault_core_model.specs.declared.records.Bucket.{Bucket}
use Rattle.vault_core_model.specs.declared.records.Entry.{Entry}
use Rattle.vault_core_model.specs.declared.records.Removal.{Removal}
use Rattle.vault_core_model.specs.Order.{IsAscending, bucket_cmp}
use Rattle.vault_core_model.specs.Vault.{bucket_in}
use Rattle.vault_base.specs.Days.{last_moment}
use Rattle.vault_audit_model.specs.declared.schema.SchemaVersion.{SchemaVersion}
use Rattle.vault_audit_model.specs.Limits.{IsBucket, IsEntry, IsPlainName, IsRemoval}
use Rattle.vault_audit_model.specs.Relations.{AreBuckets, AreEntries, AreNumbered}
use Rattle.vault_audit_model.specs.Rows.{bucket_row, bucket_columns, entry_row, entry_columns}
use Rattle.vault_audit_model.specs.Spells.{bucket_of}
use Rattle.vault_audit_model.specs.Tables.{schema_of, buckets_tree, entries_tree}
use Rattle.vault_audit_model.specs.Values.{text_or_null}
use Rattle.vault_audit_model.proofs.ValueLemmas.{agrees, same_text}
use Rattle.vault_audit_rows.specs.Records.{ReportsOne}
use Rattle.vault_audit_rows.proofs.ScanLemmas.{first_cmp}
use Rattle.vault_audit_records.proofs.EntryNumberLemmas.{rising}
use Rattle.vault_audit_rows.proofs.JoinLemmas.{joined_of, shown_joined, shown_by_join, joined_with, IsOrderOf}
use Rattle.vault_audit_tenures.specs.OwnedEntries.{owned_row, owned_in, IsOwned}
use Rattle.vault_audit_tenures.proofs.SumTextLemmas.{owned_text, owned_shown, owned_order, owned_is, owned_plain}
use Rattle.vault_audit_model.specs.SchemaVersions.{is_external}

-- ---- a list of no length, and one of one row, under a map

pub none_mapped : (columns : Values → Values) (rows : List Values) → IsPermutation [] (map columns rows) → rows ≡ []
none_mapped columns [] h = refl
none_mapped columns (r ∷ rows) h = absurd (let n = length_permutation _ _ h in omega (arith, n))

pub given_rows : (columns : Values → Values) (rows : List Values) (x : Values) → map columns rows ≡ x ∷ [] → map columns (or_nulls rows) ≡ x ∷ []
given_rows columns [] x h = absurd cc
given_rows columns (r ∷ rows) x h = h

-- ---- the bucket of a name

abbrev pub is_bucket : List ℕ → Bucket → Bool
is_bucket name b = bytes_eq b.name name

abbrev pub row_of_bucket : Bucket → Values
row_of_bucket b = bucket_row (bucket_of b)

-- the row of the bucket, or NULLs
abbrev pub bucket_beside : Option Bucket → Values
bucket_beside None = bucket_columns []
bucket_beside (Some b) = row_of_bucket b

abbrev pub alone : Option Bucket → List Bucket
alone None = []
alone (Some b) = b ∷ []

pub not_named : (name other bucket : List ℕ) → slice_cmp nat_cmp name other ≡ Less → name ≡ bucket → bytes_eq other bucket ≡ false
not_named name other bucket less is =
    false_from_ne_true (bytes_eq other bucket) (λ yes.
    let same : other ≡ bucket = (bytes_eq-Decides other bucket).0 yes in
    let one : bytes_eq name other ≡ true = (bytes_eq-Decides name other).1 (is ∙ sym same) in
    let two : is_eq (slice_cmp nat_cmp name other) ≡ false = ap is_eq less in
    let both : ◌≡◌ {A = Bool} true false = sym one ∙ sym (is_eq-slice_cmp name other) ∙ two in
    absurd cc)

pub none_later : (name : List ℕ) (b : Bucket) (bs : List Bucket) → AllByRecursion (λ c. bucket_cmp b c ≡ Less) bs → b.name ≡ name → AllByRecursion (λ c. is_bucket name c ≡ false) bs
none_later name b [] all is = tt
none_later name b (c ∷ cs) all is = (not_named b.name c.name name all.0 is, none_later name b cs all.1 is)

-- buckets in the order of their names have at most one of a name
pub only_one : (name : List ℕ) (bs : List Bucket) → IsAscending bucket_cmp bs → filter (is_bucket name) bs ≡ alone (bucket_in bs name)
only_one name [] up = refl
only_one name (b ∷ bs) up = of (is_bucket name b) refl (only_one name bs up.1)
  where
    of : (t : Bool) → is_bucket name b ≡ t → filter (is_bucket name) bs ≡ alone (bucket_in bs name) → cond t (b ∷ filter (is_bucket name) bs) (filter (is_bucket name) bs) ≡ alone (cond t (Some b) (bucket_in bs name))
    of true same more = ap (λ xs. b ∷ xs) (filter_none (is_bucket name) bs (none_later name b bs up.0 ((bytes_eq-Decides b.name name).0 same)))
    of false other more = more

module _ (source : List Values) (bs : List Bucket) (are : IsPermutation (map row_of_bucket bs) (map bucket_columns source)) (up : IsAscending bucket_cmp bs) where
  abbrev is_at : List ℕ → Values → Bool
  is_at name r = agrees (column r 1) (Text name)

  matched : (name : List ℕ) → IsPermutation (map row_of_bucket (filter (is_bucket name) bs)) (map bucket_columns (filter (is_at name) source))
  matched name =
      let test = λ (row : Values). agrees (column row 0) (Text name) in
      let stated : filter test (map row_of_bucket bs) ≡ map row_of_bucket (filter (is_bucket name) bs) =
      filter-map test row_of_bucket bs ∙ ap (map row_of_bucket) (filter_same (λ (b : Bucket). test (row_of_bucket b)) (is_bucket name) (λ b. same_text b.name name) bs) in
      subst (λ xs. IsPermutation xs (map bucket_columns (filter (is_at name) source))) stated
      (subst (IsPermutation (filter test (map row_of_bucket bs))) (filter-map test bucket_columns source) (IsPermutation-filter test _ _ are))

  -- what the join finds for a name is the bucket of that name, or a row of NULLs
  pub found : (name : List ℕ) → map bucket_columns (or_nulls (filter (is_at name) source)) ≡ bucket_beside (bucket_in bs name) ∷ []
  found name = of (bucket_in bs name) (subst (λ xs. IsPermutation (map row_of_bucket xs) (map bucket_columns (filter (is_at name) source))) (only_one name bs up) (matched name))
    where
      of : (o : Option Bucket) → IsPermutation (map row_of_bucket (alone o)) (map bucket_columns (filter (is_at name) source)) → map bucket_columns (or_nulls (filter (is_at name) source)) ≡ bucket_beside o ∷ []
      of None none = let empty = none_mapped bucket_columns (filter (is_at name) source) none in rw empty refl
      of (Some b) one = given_rows bucket_columns (filter (is_at name) source) (row_of_bucket b) (one_permutation (row_of_bucket b) (map bucket_columns (filter (is_at name) source)) one)

-- ---- all rows

-- an entry's row beside that of a bucket
abbrev beside_bucket : Values → Values → Values
beside_bucket c x = column c 0 ∷ column c 3 ∷ column c 4 ∷ column c 6 ∷ column c 9 ∷ column x 1 ∷ []

abbrev shown_for : List Values → Values → List Values
shown_for buckets c = map (beside_bucket c) (map bucket_columns (or_nulls (filter (λ b. agrees (column b 1) (column c 1)) buckets)))

abbrev pub source : Database → List Values
source db = shown_by_join entries_tree buckets_tree 1 2 owned_shown db.trees

source_is : (db : Database) → source db ≡ flat_map (shown_for (db.trees buckets_tree)) (map entry_columns (db.trees entries_tree))
source_is db =
    flat_map_same_on (shown_joined buckets_tree 1 2 owned_shown db.trees) (λ r. shown_for (db.trees buckets_tree) (entry_columns r))
    (λ r. sym (map-map (beside_bucket (entry_columns r)) bucket_columns (or_nulls (filter (λ b. agrees (column b 1) (column r 2)) (db.trees buckets_tree))))) (db.trees entries_tree)
    ∙ sym (flat_map-map (shown_for (db.trees buckets_tree)) entry_columns (db.trees entries_tree))

pub dept_shown : (o : Option Bucket) → column (bucket_beside o) 1 ≡ text_or_null (option_map (λ c. c.dept) (option_map (λ (b : Bucket). b.config) o))
dept_shown None = refl
dept_shown (Some b) = refl

pub each_one : {X Y : Type 0} (f : X → List Y) (g : X → Y) → ((x : X) → f x ≡ g x ∷ []) → (xs : List X) → flat_map f xs ≡ map g xs
each_one f g same [] = refl
each_one f g same (x ∷ xs) = rw (same x) (ap (λ ys. g x ∷ ys) (each_one f g same xs))

module _ (n : SchemaVersion) (db : Database) (bs : List Bucket) (es : List Entry) (buckets : AreBuckets n db bs) (entries : AreEntries (is_external n) db es) where
  abbrev rows_stated : List Values
  rows_stated = map owned_row (map (owned_in bs) es)

  shown_entry : (e : Entry) → shown_for (db.trees buckets_tree) (entry_row e) ≡ owned_row (owned_in bs e) ∷ []
  shown_entry e =
      ap (map (beside_bucket (entry_row e))) (found (db.trees buckets_tree) bs buckets.0 buckets.2 e.bucket)
      ∙ ap (λ v. (column (entry_row e) 0 ∷ column (entry_row e) 3 ∷ column (entry_row e) 4 ∷ column (entry_row e) 6 ∷ column (entry_row e) 9 ∷ v ∷ []) ∷ []) (dept_shown (bucket_in bs e.bucket))

  -- the query shows the entries beside their buckets, in some order
  pub shown_are : IsPermutation rows_stated (source db)
  shown_are =
      let each = flat_map-map (shown_for (db.trees buckets_tree)) entry_row es ∙ each_one (λ (e : Entry). shown_for (db.trees buckets_tree) (entry_row e)) (λ e. owned_row (owned_in bs e)) shown_entry es ∙ sym (map-map owned_row (owned_in bs) es) in
      subst (IsPermutation rows_stated) (sym (source_is db)) (subst (λ xs. IsPermutation xs (flat_map (shown_for (db.trees buckets_tree)) (map entry_columns (db.trees entries_tree)))) each (IsPermutation-flat_map (shown_for (db.trees buckets_tree)) _ _ entries.0))

-- by rising id
pub owned_rise : (external : Bool) (bs : List Bucket) (es : List Entry) → AreNumbered external 1 0 es → Rises (λ a b. first_cmp a b ≡ Less) (map owned_row (map (owned_in bs) es))
owned_rise external bs es are =
    let up = ascending_from_map (λ a b. first_cmp a b ≡ Less) entry_row es (rising external es are) in
    subst (Rises (λ a b. first_cmp a b ≡ Less)) (sym (map-map owned_row (owned_in bs) es)) (ascending-map (λ a b. first_cmp a b ≡ Less) (λ (e : Entry). owned_row (owned_in bs e)) es up)

-- ---- what the statement answers

by_first : IsOrderOf (joined_of entries_tree buckets_tree 1 2 owned_shown owned_order) first_cmp
by_first a b = ap is_lt (then-Equal (value_cmp (eval (col 1 0) a) (eval (col 1 0) b)))

pub answers : (n : SchemaVersion) (a b : State) → a.now.schema ≡ schema_of n → (rows : List Values) → Shown owned_text [] a b rows → IsPermutation (source a.now) rows × IsSorted first_cmp rows
answers n a b schema rows shown =
    joined_with owned_text a b (schema_of n) schema (owned_plain n) (owned_is n).1 entries_tree buckets_tree 1 2 owned_shown owned_order first_cmp _ (owned_is n).0 by_first refl refl rows shown

-- ---- limits

pub first_holds : (P : Bucket → Type 0) (test : Bucket → Bool) (bs : List Bucket) → AllByRecursion P bs → IfSome (find test bs) P
first_holds P test [] all = tt
first_holds P test (b ∷ bs) all = of (test b) (first_holds P test bs all.1)
  where
    of : (t : Bool) → IfSome (find test bs) P → IfSome (cond t (Some b) (find test bs)) P
    of true more = all.0
    of false more = more

pub dept_named : (o : Option Bucket) → IfSome o IsBucket → IfSome (option_map (λ c. c.dept) (option_map (λ (b : Bucket). b.config) o)) IsPlainName
dept_named None is = tt
dept_named (Some b) is = is.config.dept

pub removed_by : (o : Option Removal) → IfSome o IsRemoval → IfSome (option_map (λ r. r.at) o) (λ t. t ≤ last_moment)
removed_by None is = tt
removed_by (Some r) is = is.at

is_owned : (external : Bool) (bs : List Bucket) (e : Entry) → AllByRecursion IsBucket bs → IsEntry external e → IsOwned (owned_in bs e)
is_owned external bs e all is = record {
  id = is.id;
  admitted = is.admitted;
  removed = removed_by e.removal is.removal;
  dept = dept_named (bucket_in bs e.bucket) (first_holds IsBucket (λ b. bytes_eq b.name e.bucket) bs all);
}

-- each of these rows holds an entry in its limits
pub each_reads_so : (external : Bool) (next low : ℕ) (bs : List Bucket) (es : List Entry) → AllByRecursion IsBucket bs → AreNumbered external next low es → AllByRecursion (ReportsOne owned_row IsOwned) (map owned_row (map (owned_in bs) es))
each_reads_so external next low bs [] all are = tt
each_reads_so external next low bs (e ∷ es) all are = ((owned_in bs e, refl, is_owned external bs e all are.0.0), each_reads_so external (next + 1) e.admitted bs es all are.1)
