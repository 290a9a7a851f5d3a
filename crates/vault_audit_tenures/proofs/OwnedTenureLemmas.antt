-- What the query on tenures shows: each tenure once, beside the entry of its id and that entry's bucket, where they are there.
use Rattle.std.proofs.Common.{◌≡◌, ◌==◌, ℕ, List, [], ◌∷◌, ◌++◌, map, filter, flat_map, find, Bool, false, Option, Some, None, IsPermutation, refl, sym, ap, subst, ◌∙◌, append-nil}
use Rattle.std.specs.List.{AllByRecursion}
use Rattle.std.proofs.lemmas.List.Sorted.{IsPermutation-map, IsPermutation-sym}
use Rattle.sqlite_trees.proofs.ListLemmas.{all-permutation, all_from_map}
use Rattle.sqlite_keyed.proofs.ListLemmas.{map-map, flat_map-map, filter_none, map_same}
use Rattle.sqlite_value.specs.declared.value.Value.{Value}
use Rattle.sqlite_value.specs.declared.value.Value.TheVariants.{Null, Int, Real, Text, Blob}
use Rattle.sqlite_value.specs.Order.{Row as Values, column}
use Rattle.sqlite_sql.specs.Ops.{binary}
use Rattle.sqlite_sql.specs.Query.{or_nulls}
use Rattle.sqlite.specs.Effect.{Database}
use Rattle.vault_core_model.specs.declared.records.Bucket.{Bucket}
use Rattle.vault_core_model.specs.declared.records.Entry.{Entry}
use Rattle.vault_core_model.specs.declared.records.History.{History}
use Rattle.vault_core_model.specs.declared.records.Tenure.{Tenure}
use Rattle.vault_core_model.specs.Order.{IsAscending, bucket_cmp}
use Rattle.vault_core_model.specs.Vault.{Vault, bucket_in}
use Rattle.vault_audit_model.specs.declared.rows.TenureRow.{TenureRow}
use Rattle.vault_audit_model.specs.declared.schema.SchemaVersion.{SchemaVersion}
use Rattle.vault_audit_model.specs.Relations.{AreBuckets, AreEntries}
use Rattle.vault_audit_model.specs.Rows.{bucket_columns, entry_columns, tenure_row, tenure_columns, removal_at}
use Rattle.vault_audit_model.specs.Spells.{entries_in, tenures_in}
use Rattle.vault_audit_model.specs.Tables.{buckets_tree, entries_tree, tenures_tree}
use Rattle.vault_audit_model.specs.Values.{number, text_or_null}
use Rattle.vault_audit_model.proofs.SameRows.{cell, number_same, number_or_null_same, text_or_null_same}
use Rattle.vault_audit_model.proofs.ValueLemmas.{agrees}
use Rattle.vault_audit_entries.proofs.BesideLemmas.{is_of, is_id, is_id_number, row_beside, beside_is, find_same}
use Rattle.vault_audit_tenures.specs.declared.owned_tenures.OwnedTenure.{OwnedTenure}
use Rattle.vault_audit_tenures.specs.OwnedTenures.{owned_row, owned_in}
use Rattle.vault_audit_tenures.specs.Chain.{shown_beside, shown_in}
use Rattle.vault_audit_tenures.specs.Presence.{AreRowsOf}
use Rattle.vault_audit_tenures.proofs.ChainLemmas.{found_among, each_found, owner_of, IsOf, IsOfOne, row_of}
use Rattle.vault_audit_tenures.proofs.FitLemmas.{all_owned, rows_owned}
use Rattle.vault_audit_tenures.proofs.OwnedEntryLemmas.{row_of_bucket, bucket_beside, dept_shown, each_one, found}
use Rattle.vault_audit_model.specs.SchemaVersions.{is_external}

-- ---- the bucket of a name

null_apart : (u : Value) → agrees u Null ≡ false
unfolding binary
null_apart Null = refl
null_apart (Int n) = refl
null_apart (Real x) = refl
null_apart (Text t) = refl
null_apart (Blob b) = refl

none_null : (rows : List Values) → AllByRecursion (λ r. agrees (column r 1) Null ≡ false) rows
none_null [] = tt
none_null (r ∷ rows) = (null_apart (column r 1), none_null rows)

module _ (source : List Values) (bs : List Bucket) (are : IsPermutation (map row_of_bucket bs) (map bucket_columns source)) (up : IsAscending bucket_cmp bs) where
  abbrev is_at : Value → Values → Bool
  is_at name r = agrees (column r 1) name

  not_found : map bucket_columns (or_nulls (filter (is_at Null) source)) ≡ bucket_beside None ∷ []
  not_found = rw (filter_none (is_at Null) source (none_null source)) refl

-- ---- one tenure

-- its columns, with those of an entry and of a bucket
abbrev with_both : Values → Values → Values → Values
with_both t e b = column t 0 ∷ column t 1 ∷ column t 2 ∷ column t 3 ∷ column e 6 ∷ column e 9 ∷ column b 1 ∷ []

abbrev with_buckets : List Values → Values → Values → List Values
with_buckets buckets t e = map (with_both t e) (map bucket_columns (or_nulls (filter (λ b. agrees (column b 1) (column e 1)) buckets)))

-- the same of the entry that is there, and of its bucket
abbrev shown_for : List Bucket → Option Entry → Values → Values
shown_for bs None t = column t 0 ∷ column t 1 ∷ column t 2 ∷ column t 3 ∷ Null ∷ Null ∷ Null ∷ []
shown_for bs (Some e) t = column t 0 ∷ column t 1 ∷ column t 2 ∷ column t 3 ∷ number e.admitted ∷ removal_at e.removal ∷ text_or_null (owner_of bs e) ∷ []

-- the tenure's own columns
abbrev own_columns : Values → Values
own_columns r = column r 0 ∷ column r 1 ∷ column r 2 ∷ column r 3 ∷ []

own_shown : (bs : List Bucket) (o : Option Entry) (r : Values) → own_columns (shown_for bs o (tenure_columns r)) ≡ tenure_columns r
own_shown bs None r = refl
own_shown bs (Some e) r = refl

id_shown : (bs : List Bucket) (o : Option Entry) (c : Values) (t : OwnedTenure) → owned_row t ≡ shown_for bs o c → number t.id ≡ column c 0
id_shown bs None c t e = cell (owned_row t) (shown_for bs None c) 0 e
id_shown bs (Some x) c t e = cell (owned_row t) (shown_for bs (Some x) c) 0 e

is_shown : (bs : List Bucket) (o : Option Entry) (c : Values) (t : OwnedTenure) → owned_row t ≡ shown_for bs o c → IsOf bs t o
is_shown bs None c t e = absurd (let none : number t.admitted ≡ Null = cell (owned_row t) (shown_for bs None c) 4 e in cc)
is_shown bs (Some x) c t e =
    let one = λ (at : ℕ). cell (owned_row t) (shown_for bs (Some x) c) at e in
    (number_same _ _ (one 4), number_or_null_same _ _ (one 5), text_or_null_same _ _ (one 6))

found_number : (es : List Entry) (i : ℕ) → find (is_id (number i)) es ≡ found_among es i
found_number es i = find_same (is_id (number i)) (λ e. e.id == i) (is_id_number i) es

map_alike_on : {X Y : Type 0} (f g : X → Y) (xs : List X) → AllByRecursion (λ x. f x ≡ g x) xs → map f xs ≡ map g xs
map_alike_on f g [] all = refl
map_alike_on f g (x ∷ xs) all = rw (all.0, map_alike_on f g xs all.1) refl

-- ---- all rows

module _ (n : SchemaVersion) (db : Database) (bs : List Bucket) (es : List Entry) (buckets : AreBuckets n db bs) (entries : AreEntries (is_external n) db es) where
  abbrev stored : List Values
  stored = db.trees tenures_tree

  abbrev stated : Values → Values
  stated c = shown_for bs (find (is_id (column c 0)) es) c

  of_bucket : (o : Option Entry) (t : Values) → with_buckets (db.trees buckets_tree) t (row_beside o) ≡ shown_for bs o t ∷ []
  of_bucket None t = ap (map (with_both t (row_beside None))) (not_found (db.trees buckets_tree) bs buckets.0 buckets.2)
  of_bucket (Some e) t =
      ap (map (with_both t (row_beside (Some e)))) (found (db.trees buckets_tree) bs buckets.0 buckets.2 e.bucket)
      ∙ ap (λ d. (column t 0 ∷ column t 1 ∷ column t 2 ∷ column t 3 ∷ number e.admitted ∷ removal_at e.removal ∷ d ∷ []) ∷ []) (dept_shown (bucket_in bs e.bucket))

  one_shown : (r : Values) → shown_beside (db.trees entries_tree) (db.trees buckets_tree) r ≡ stated (tenure_columns r) ∷ []
  one_shown r =
      let there = or_nulls (filter (is_of (column r 1)) (db.trees entries_tree)) in
      let with = with_buckets (db.trees buckets_tree) (tenure_columns r) in
      ap (λ f. flat_map f there) (λ i e. sym (map-map (with_both (tenure_columns r) (entry_columns e)) bucket_columns (or_nulls (filter (λ b. agrees (column b 1) (column e 2)) (db.trees buckets_tree)))) i)
      ∙ sym (flat_map-map with entry_columns there)
      ∙ ap (flat_map with) (beside_is (is_external n) (db.trees entries_tree) es entries.0 entries.1 (column r 1))
      ∙ append-nil _
      ∙ of_bucket (find (is_id (column r 1)) es) (tenure_columns r)

  source_is : shown_in db ≡ map stated (map tenure_columns stored)
  source_is = each_one (shown_beside (db.trees entries_tree) (db.trees buckets_tree)) (λ r. stated (tenure_columns r)) one_shown stored ∙ sym (map-map stated tenure_columns stored)

  -- ---- from the rows shown

  abbrev IsStated : Values → Type 0
  IsStated row = (c : Values) × (row ≡ stated c)

  all_stated : (cs : List Values) → AllByRecursion IsStated (map stated cs)
  all_stated [] = tt
  all_stated (c ∷ cs) = ((c, refl), all_stated cs)

  is_of_one : (t : OwnedTenure) → IsStated (owned_row t) → IsOfOne bs es t
  is_of_one t (c, e) =
      let id : column c 0 ≡ number t.id = sym (id_shown bs (find (is_id (column c 0)) es) c t e) in
      subst (IsOf bs t) (ap (λ w. find (is_id w) es) id ∙ found_number es t.id) (is_shown bs (find (is_id (column c 0)) es) c t e)

  each_of_one : (ts : List OwnedTenure) → AllByRecursion (λ t. IsStated (owned_row t)) ts → AllByRecursion (IsOfOne bs es) ts
  each_of_one [] all = tt
  each_of_one (t ∷ ts) all = (is_of_one t all.0, each_of_one ts all.1)

  module _ (ts : List OwnedTenure) (are : IsPermutation (map owned_row ts) (shown_in db)) where
    pub all_of_one : AllByRecursion (IsOfOne bs es) ts
    all_of_one =
        let shown = subst (IsPermutation (map owned_row ts)) source_is are in
        each_of_one ts (all_from_map IsStated owned_row ts (all-permutation IsStated _ _ (IsPermutation-sym _ _ shown) (all_stated (map tenure_columns stored))))

    pub rows_are : AreRowsOf db (map row_of ts)
    rows_are =
        let mine : map own_columns (map owned_row ts) ≡ map tenure_row (map row_of ts) = map-map own_columns owned_row ts ∙ sym (map-map tenure_row row_of ts) in
        let theirs : map own_columns (shown_in db) ≡ map tenure_columns stored =
        ap (map own_columns) (source_is ∙ map-map stated tenure_columns stored) ∙ map-map own_columns (λ r. stated (tenure_columns r)) stored ∙ map_same _ tenure_columns (λ r. own_shown bs (find (is_id (column (tenure_columns r) 0)) es) r) stored in
        subst (IsPermutation (map tenure_row (map row_of ts))) theirs (subst (λ xs. IsPermutation xs (map own_columns (shown_in db))) mine (IsPermutation-map own_columns _ _ are))

-- ---- from histories

module _ (n : SchemaVersion) (db : Database) (v : Vault) (es : List Entry) (buckets : AreBuckets n db v.buckets) (entries : AreEntries (is_external n) db es) where
  one_stated : (e : Entry) → found_among es e.id ≡ Some e → (t : Tenure) → shown_for v.buckets (find (is_id (number e.id)) es) (tenure_row (row_of (owned_in v.buckets e t))) ≡ owned_row (owned_in v.buckets e t)
  one_stated e found t = ap (λ o. shown_for v.buckets o (tenure_row (row_of (owned_in v.buckets e t)))) (found_number es e.id ∙ found)

  abbrev IsSame : OwnedTenure → Type 0
  IsSame t = shown_for v.buckets (find (is_id (number t.id)) es) (tenure_row (row_of t)) ≡ owned_row t

  run_stated : (e : Entry) → found_among es e.id ≡ Some e → (us : List Tenure) (rest : List OwnedTenure) → AllByRecursion IsSame rest → AllByRecursion IsSame (map (owned_in v.buckets e) us ++ rest)
  run_stated e found [] rest all = all
  run_stated e found (u ∷ us) rest all = (one_stated e found u, run_stated e found us rest all)

  all_same : (hs : List History) → AllByRecursion (λ e. found_among es e.id ≡ Some e) (entries_in hs) → AllByRecursion IsSame (all_owned v hs)
  all_same [] found = tt
  all_same (h ∷ hs) found = run_stated h.entry found.0 h.tenures (all_owned v hs) (all_same hs found.1)

  pub shown_are : (hs : List History) → entries_in hs ≡ es → AreRowsOf db (flat_map tenures_in hs) → IsPermutation (map owned_row (all_owned v hs)) (shown_in db)
  shown_are hs same are =
      let ts = all_owned v hs in
      let decides = λ (c : Values). shown_for v.buckets (find (is_id (column c 0)) es) c in
      let each = subst (AllByRecursion (λ e. found_among es e.id ≡ Some e)) (sym same) (each_found (is_external n) 1 0 es entries.1) in
      let mine : map decides (map tenure_row (flat_map tenures_in hs)) ≡ map owned_row ts =
      ap (λ (xs : List TenureRow). map decides (map tenure_row xs)) (sym (rows_owned v hs)) ∙ ap (map decides) (map-map tenure_row row_of ts) ∙ map-map decides (λ t. tenure_row (row_of t)) ts ∙ map_alike_on _ owned_row ts (all_same hs each) in
      subst (λ xs. IsPermutation xs (shown_in db)) mine (subst (IsPermutation (map decides (map tenure_row (flat_map tenures_in hs)))) (sym (source_is n db v.buckets es buckets entries)) (IsPermutation-map decides _ _ are))
