-- The query for entries beside their buckets shows the one tenure that each version has where no bucket was moved.
use Rattle.std.proofs.Common.{◌≡◌, inl, inr, ℕ, List, [], ◌∷◌, map, filter, flat_map, cond, Bool, true, false, ◌&&◌, Option, None, Some, option_to_list, option_map, IsPermutation, refl, sym, ap, ap₂, subst, ◌∙◌}
use Rattle.std.specs.List.{AllByRecursion, list_all}
use Rattle.std.specs.Str.{bytes_eq}
use Rattle.std.proofs.lemmas.Bool.{cases_Bool}
use Rattle.std.proofs.lemmas.List.Sorted.{IsPermutation-refl, IsPermutation-append, IsPermutation-map, IsPermutation-trans}
use Rattle.sqlite_keyed.proofs.ListLemmas.{map-map, map-flat_map, flat_map-map, filter-map, filter_same, flat_map_same_on, IsPermutation-flat_map, IsPermutation-filter}
use Rattle.sqlite_trees.specs.Tree.{Trees}
use Rattle.sqlite_value.specs.declared.value.Value.TheVariants.{Null, Text}
use Rattle.sqlite_value.specs.Order.{Row, column}
use Rattle.sqlite_sql.specs.Term.{Env, eval_all, holds}
use Rattle.sqlite_sql.specs.Query.{IsAnswer, Output, output}
use Rattle.sqlite_sql.specs.Program.{overlay}
use Rattle.sqlite.specs.Effect.{Database}
use Rattle.sqlite.specs.State.{State, Shown}
use Rattle.sqlite.proofs.Callers.{reads_as}
use Rattle.vault_core_model.specs.declared.records.Bucket.{Bucket}
use Rattle.vault_core_model.specs.declared.records.Entry.{Entry}
use Rattle.vault_core_model.specs.declared.records.History.{History}
use Rattle.vault_core_model.specs.Order.{IsAscending, bucket_cmp}
use Rattle.vault_core_model.specs.Vault.{Vault, bucket_in}
use Rattle.vault_audit_model.specs.declared.schema.SchemaVersion.{SchemaVersion}
use Rattle.vault_audit_model.specs.Rows.{bucket_row, entry_row, tenure_row, bucket_columns, entry_columns}
use Rattle.vault_audit_model.specs.Spells.{AreSoundAs, bucket_of, tenure_at, tenures_in}
use Rattle.vault_audit_model.specs.Tables.{schema_of, buckets_tree, entries_tree}
use Rattle.vault_audit_model.specs.Tenures.{HasFirstTenures, IsUnmoved, first_tenures}
use Rattle.vault_audit_model.specs.Values.{number, flag}
use Rattle.vault_audit_model.proofs.ValueLemmas.{agrees, same_text, same_number}
use Rattle.vault_store_model.proofs.ScanLemmas.{uncovered}
use Rattle.vault_store_reads.proofs.FindLemmas.{at_most_one}
use Rattle.vault_store_create.specs.Listings.{first_tenures_listing}
use Rattle.vault_store_create.proofs.ListingLemmas.{pairs, pairs_are, pairs_unlisted, pairs_plain}
use Rattle.vault_store_reads.proofs.NameLemmas.{tied_names}

-- ---- what the query shows, by the columns of rows

-- the bucket's row has the name in the entry's row, which isn't a marker's
abbrev is_pair : Row → Row → Bool
is_pair entry bucket = agrees (column bucket 0) (column entry 1) && (agrees (column entry 3) (number 0) && true)

-- what is shown of both
abbrev paired : Row → Row → Row
paired entry bucket = column entry 0 ∷ number 0 ∷ column bucket 1 ∷ column entry 6 ∷ []

abbrev pairs_for : List Row → Row → List Row
pairs_for buckets entry = map (paired entry) (filter (is_pair entry) buckets)

-- the same of rows as they are stored
abbrev env_of : Row → Row → Env
env_of r b = [] ∷ r ∷ b ∷ []

abbrev passes : Row → Row → Bool
passes r b = list_all (holds (env_of r b)) pairs.filter

abbrev pairs_in : List Row → Row → List Row
pairs_in buckets r = map (λ b. eval_all pairs.project (env_of r b)) (filter (passes r) buckets)

picked : (p : Row → Bool) (f : Row → Env) (g : Env → Row) (rows : List Row) → map g (flat_map (λ b. cond (p b) (f b ∷ []) []) rows) ≡ map (λ b. g (f b)) (filter p rows)
picked p f g [] = refl
picked p f g (b ∷ bs) = elim (cases_Bool (p b)) [
  | inl passed ↦ rw passed (ap (λ xs. g (f b) ∷ xs) (picked p f g bs))
  | inr failed ↦ rw failed (picked p f g bs)
]

abbrev envs_of : List Row → Row → List Env
envs_of buckets r = flat_map (λ b. cond (passes r b) (env_of r b ∷ []) []) buckets

pairs_answered : (db : Trees) (rows : List Row) → IsAnswer pairs db [] rows → IsPermutation (flat_map (pairs_in (db buckets_tree)) (db entries_tree)) rows
pairs_answered db rows a =
    let buckets = db buckets_tree in
    let entries = db entries_tree in
    let kept : map (λ (o : Output). o.1) a.kept ≡ flat_map (pairs_in buckets) entries =
    ap (map (λ (o : Output). o.1)) (a.distinct ∙ ap (map (output pairs)) a.grouped) ∙ map-map (λ (o : Output). o.1) (output pairs) (flat_map (envs_of buckets) entries)
    ∙ map-flat_map (eval_all pairs.project) (envs_of buckets) entries ∙ flat_map_same_on _ (pairs_in buckets) (λ r. picked (passes r) (env_of r) (eval_all pairs.project) buckets) entries in
    subst (λ xs. IsPermutation xs rows) kept (subst (IsPermutation (map (λ (o : Output). o.1) a.kept)) (sym a.shown) (IsPermutation-map (λ (o : Output). o.1) a.kept a.ordered a.same))

by_columns : (buckets : List Row) (r : Row) → pairs_in buckets r ≡ pairs_for (map bucket_columns buckets) (entry_columns r)
by_columns buckets r =
    let entry = entry_columns r in
    sym (ap (map (paired entry)) (filter-map (is_pair entry) bucket_columns buckets) ∙ map-map (paired entry) bucket_columns (filter (λ b. is_pair entry (bucket_columns b)) buckets))

all_by_columns : (buckets entries : List Row) → flat_map (pairs_in buckets) entries ≡ flat_map (pairs_for (map bucket_columns buckets)) (map entry_columns entries)
all_by_columns buckets entries =
    flat_map_same_on (pairs_in buckets) (λ r. pairs_for (map bucket_columns buckets) (entry_columns r)) (by_columns buckets) entries
    ∙ sym (flat_map-map (pairs_for (map bucket_columns buckets)) entry_columns entries)

-- ---- the bucket of an entry, if that is no marker

abbrev row_of_bucket : Bucket → Row
row_of_bucket b = bucket_row (bucket_of b)

abbrev unless_marker : Bool → Option Bucket → Option Bucket
unless_marker true o = None
unless_marker false o = o

none_kept : {X : Type 0} (p : X → Bool) → ((x : X) → p x ≡ false) → (xs : List X) → filter p xs ≡ []
none_kept p none [] = refl
none_kept p none (x ∷ xs) = rw (none x) (none_kept p none xs)

with_true : (b : Bool) → (b && (true && true)) ≡ b
with_true true = refl
with_true false = refl

with_false : (b : Bool) → (b && (false && true)) ≡ false
with_false true = refl
with_false false = refl

-- the tests on the row of a bucket
abbrev is_its : Bool → List ℕ → Bucket → Bool
is_its marker name b = agrees (Text b.name) (Text name) && (agrees (flag marker) (number 0) && true)

is_named : (name : List ℕ) (b : Bucket) → is_its false name b ≡ bytes_eq b.name name
is_named name b = rw (same_text b.name name, same_number 0 0) (with_true (bytes_eq b.name name))

is_none : (name : List ℕ) (b : Bucket) → is_its true name b ≡ false
is_none name b = rw (same_number 1 0) (with_false (agrees (Text b.name) (Text name)))

its_bucket : (marker : Bool) (name : List ℕ) (bs : List Bucket) → IsAscending bucket_cmp bs → filter (is_its marker name) bs ≡ option_to_list (unless_marker marker (bucket_in bs name))
its_bucket true name bs up = none_kept (is_its true name) (is_none name) bs
its_bucket false name bs up =
    filter_same (is_its false name) (λ b. bytes_eq b.name name) (is_named name) bs ∙ at_most_one bucket_cmp (λ (b : Bucket). bytes_eq b.name name) (λ a b. tied_names a.name b.name name) bs up

-- ---- its tenure

one_tenure : (e : Entry) (marker : Bool) (o : Option Bucket)
    → map (paired (entry_row e)) (map row_of_bucket (option_to_list (unless_marker marker o))) ≡ map tenure_row (map (tenure_at e.id) (first_tenures marker e.admitted (option_map (λ b. b.config) o)))
one_tenure e true o = refl
one_tenure e false None = refl
one_tenure e false (Some b) = refl

module _ (rows : List Row) (bs : List Bucket) (are : IsPermutation (map row_of_bucket bs) rows) (up : IsAscending bucket_cmp bs) where
  tenures_shown : (h : History) → HasFirstTenures bs h → IsPermutation (map tenure_row (tenures_in h)) (pairs_for rows (entry_row h.entry))
  tenures_shown h first =
      let e = h.entry in
      let entry = entry_row e in
      let stated : map (paired entry) (filter (is_pair entry) (map row_of_bucket bs)) ≡ map tenure_row (tenures_in h) =
      ap (map (paired entry)) (filter-map (is_pair entry) row_of_bucket bs ∙ ap (map row_of_bucket) (its_bucket e.marker e.bucket bs up))
      ∙ one_tenure e e.marker (bucket_in bs e.bucket) ∙ ap (λ ts. map tenure_row (map (tenure_at e.id) ts)) (sym first) in
      subst (λ xs. IsPermutation xs (pairs_for rows entry)) stated (IsPermutation-map (paired entry) _ _ (IsPermutation-filter (is_pair entry) _ _ are))

  all_shown : (hs : List History) → AllByRecursion (HasFirstTenures bs) hs → IsPermutation (flat_map (λ h. map tenure_row (tenures_in h)) hs) (flat_map (λ h. pairs_for rows (entry_row h.entry)) hs)
  all_shown [] all = IsPermutation-refl []
  all_shown (h ∷ hs) all = IsPermutation-append _ _ _ _ (tenures_shown h all.0) (all_shown hs all.1)

-- the tenures of a vault in which no bucket was moved are those of its entries
tenures_paired : (n : SchemaVersion) (db : Database) (v : Vault) → AreSoundAs n db v → IsUnmoved v
    → IsPermutation (map tenure_row (flat_map tenures_in v.histories)) (flat_map (pairs_in (db.trees buckets_tree)) (db.trees entries_tree))
tenures_paired n db v is unmoved =
    let buckets = map bucket_columns (db.trees buckets_tree) in
    let stated : IsPermutation (map tenure_row (flat_map tenures_in v.histories)) (flat_map (λ h. pairs_for buckets (entry_row h.entry)) v.histories) =
    subst (λ xs. IsPermutation xs (flat_map (λ h. pairs_for buckets (entry_row h.entry)) v.histories)) (sym (map-flat_map tenure_row tenures_in v.histories))
    (all_shown buckets v.buckets is.spells.buckets is.spells.kept.sound.ordered.buckets v.histories unmoved.tenures) in
    let stored = IsPermutation-flat_map (pairs_for buckets) (map (λ h. entry_row h.entry) v.histories) (map entry_columns (db.trees entries_tree)) is.spells.entries in
    let both = subst (λ xs. IsPermutation xs (flat_map (pairs_for buckets) (map entry_columns (db.trees entries_tree)))) (flat_map-map (pairs_for buckets) (λ h. entry_row h.entry) v.histories) stored in
    subst (IsPermutation (map tenure_row (flat_map tenures_in v.histories))) (sym (all_by_columns (db.trees buckets_tree) (db.trees entries_tree))) (IsPermutation-trans _ _ _ stated both)

-- and the query shows them
pub first_tenures_shown : (n : SchemaVersion) (old new : State) (v : Vault) → AreSoundAs n old.now v → IsUnmoved v → (rows : List Row) → Shown first_tenures_listing [] old new rows
    → IsPermutation (map tenure_row (flat_map tenures_in v.histories)) rows
first_tenures_shown n old new v is unmoved rows shown =
    let read = reads_as first_tenures_listing [] old new (schema_of n) is.spells.schema _ (pairs_are n) (pairs_plain n) (pairs_unlisted n) rows shown in
    let answered = pairs_answered (overlay old.now.trees []) rows (read.answer Null) in
    let bare = subst (λ xs. IsPermutation xs rows) (ap₂ (λ bs es. flat_map (pairs_in bs) es) (uncovered old.now.trees buckets_tree) (uncovered old.now.trees entries_tree)) answered in
    IsPermutation-trans _ _ _ (tenures_paired n old.now v is unmoved) bare
