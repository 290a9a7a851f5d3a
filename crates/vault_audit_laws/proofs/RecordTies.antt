-- What the references between rows say of the records that the rows hold.
use Rattle.std.proofs.Common.{◌≡◌, ◌⊎◌, inl, inr, ℕ, Bool, true, false, cond, List, [], ◌∷◌, map, flat_map, find, Option, Some, None, option_map, IsSome, IfSome, IsTrue, IsPermutation, refl, sym, ap, subst, ◌∙◌}
use Rattle.std.specs.List.{AllByRecursion}
use Rattle.std.specs.Str.{bytes_eq}
use Rattle.std.proofs.lemmas.List.Sorted.{IsPermutation-sym}
use Rattle.std.proofs.lemmas.Slice.Eq.{bytes_eq-Decides}
use Rattle.sqlite_value.specs.declared.value.Value.{Value}
use Rattle.sqlite_value.specs.declared.value.Value.TheVariants.{Null, Text}
use Rattle.sqlite_value.specs.Order.{Row, column}
use Rattle.sqlite_rules.specs.Lists.{Has}
use Rattle.sqlite_rules.proofs.ListLemmas.{all_has, all_from, some_from}
use Rattle.sqlite_rules.proofs.ProbeLemmas.{has_mapped, mapped_has}
use Rattle.sqlite.specs.Effect.{Database}
use Rattle.vault_rules.specs.Rules.{passes_if_given}
use Rattle.vault_core_model.specs.declared.records.Bucket.{Bucket}
use Rattle.vault_core_model.specs.declared.records.BucketConfig.{BucketConfig}
use Rattle.vault_core_model.specs.declared.records.Caller.{Caller}
use Rattle.vault_core_model.specs.declared.records.Entry.{Entry}
use Rattle.vault_core_model.specs.declared.records.History.{History}
use Rattle.vault_core_model.specs.declared.records.Tenure.{Tenure}
use Rattle.vault_core_model.specs.Vault.{Vault, config_in}
use Rattle.vault_audit_model.specs.declared.schema.SchemaVersion.{SchemaVersion}
use Rattle.vault_audit_model.specs.declared.schema.SchemaVersion.TheVariants.{First, Second, Third, Fourth}
use Rattle.vault_audit_model.specs.Rows.{caller_row, bucket_row, entry_row, tenure_row, caller_columns, bucket_columns, entry_columns}
use Rattle.vault_audit_model.specs.Spells.{bucket_of, tenure_at, tenures_in, tenure_rows_of, tenure_rows_in}
use Rattle.vault_audit_model.specs.Tables.{departments_tree, callers_tree, buckets_tree, entries_tree}
use Rattle.vault_audit_model.specs.Tenures.{first_tenures, HasFirstTenures, IsUnmoved, IsUnmovedIn}
use Rattle.vault_audit_model.specs.Values.{text_or_null}
use Rattle.vault_audit_model.proofs.ListLemmas.{all_as}
use Rattle.vault_audit_model.proofs.SameRows.{text_same}
use Rattle.vault_audit_laws.specs.Ties.{HaveParents, AreTied, is_among}
use Rattle.vault_audit_laws.proofs.Members.{part_has, permuted_within}

-- the value that a record's row has in a column stands in that column of its table
module _ {A : Type 0} (row_of : A → Row) (columns : Row → Row) (at : ℕ) (xs : List A) (rows : List Row) (are : IsPermutation (map row_of xs) (map columns rows)) where
  in_column : (place : ℕ) → ((r : Row) → column (columns r) at ≡ column r place) → (x : A) → Has xs x → Has (map (λ r. column r place) rows) (column (row_of x) at)
  in_column place same x there =
      let found = has_mapped columns rows (row_of x) (permuted_within (map columns rows) (map row_of xs) (IsPermutation-sym (map row_of xs) (map columns rows) are) (row_of x) (mapped_has row_of xs x there)) in
      subst (Has (map (λ r. column r place) rows)) (sym (ap (λ r. column r at) found.2 ∙ same found.0)) (mapped_has (λ r. column r place) rows found.0 found.1)

-- a text that stands in a column is that of one of these records
named : {A : Type 0} (name_of : A → List ℕ) (xs : List A) (values : List Value) (name : List ℕ) → IsPermutation (map (λ x. Text (name_of x)) xs) values → Has values (Text name) → (x : A) × Has xs x × (bytes_eq (name_of x) name ≡ true)
named name_of xs values name are there =
    let found = has_mapped (λ x. Text (name_of x)) xs (Text name) (permuted_within (map (λ x. Text (name_of x)) xs) values are (Text name) there) in
    (found.0, found.1, (bytes_eq-Decides (name_of found.0) name).1 (sym (text_same name (name_of found.0) found.2)))

given_text : (values : List Value) (name : List ℕ) → (Text name ≡ Null) ⊎ Has values (Text name) → Has values (Text name)
given_text values name (inl none) = absurd (cc none)
given_text values name (inr there) = there

among : (departments : List (List ℕ)) (values : List Value) (name : List ℕ) → IsPermutation (map (λ d. Text d) departments) values → (Text name ≡ Null) ⊎ Has values (Text name) → is_among departments name ≡ true
among departments values name are tie =
    let it = named (λ d. d) departments values name are (given_text values name tie) in
    some_from (λ d. bytes_eq d name) departments it.0 it.1 it.2

among_if_given : (departments : List (List ℕ)) (values : List Value) (name : Option (List ℕ)) → IsPermutation (map (λ d. Text d) departments) values → (text_or_null name ≡ Null) ⊎ Has values (text_or_null name)
    → passes_if_given (is_among departments) name ≡ true
among_if_given departments values None are tie = refl
among_if_given departments values (Some name) are tie = among departments values name are tie

found_in : (buckets : List Bucket) (name : List ℕ) (b : Bucket) → Has buckets b → bytes_eq b.name name ≡ true → IsSome (config_in buckets name)
found_in [] name b there same = absurd there
found_in (c ∷ cs) name b (inl e) same = rw (subst (λ (x : Bucket). bytes_eq x.name name ≡ true) e same) refl
found_in (c ∷ cs) name b (inr there) same =
    elim (bytes_eq c.name name) as (λ t. IsSome (option_map (λ (x : Bucket). x.config) (cond t (Some c) (find (λ (x : Bucket). bytes_eq x.name name) cs))))
    [ true ↦ refl | false ↦ found_in cs name b there same ]

placed_by : (buckets : List Bucket) (name : List ℕ) (row : Row) (b : Bucket) → Has buckets b → Text name ≡ column row 1 → bucket_columns row ≡ bucket_row (bucket_of b) → IsSome (config_in buckets name)
placed_by buckets name row b there is same =
    found_in buckets name b there ((bytes_eq-Decides b.name name).1 (sym (text_same name b.name (is ∙ ap (λ r. column r 0) same))))

-- ---- tenures that tables without them state

owned_config : (departments : List (List ℕ)) (buckets : List Bucket) (name : List ℕ) → AllByRecursion (λ (b : Bucket). IsTrue (is_among departments b.config.dept)) buckets
    → IfSome (config_in buckets name) (λ (c : BucketConfig). IsTrue (is_among departments c.dept))
owned_config departments [] name all = tt
owned_config departments (b ∷ bs) name all =
    elim (bytes_eq b.name name) as (λ t. IfSome (option_map (λ (x : Bucket). x.config) (cond t (Some b) (find (λ (x : Bucket). bytes_eq x.name name) bs))) (λ (c : BucketConfig). IsTrue (is_among departments c.dept)))
    [ true ↦ all.0 | false ↦ owned_config departments bs name all.1 ]

first_owned : (departments : List (List ℕ)) (marker : Bool) (admitted : ℕ) (config : Option BucketConfig) → IfSome config (λ (c : BucketConfig). IsTrue (is_among departments c.dept))
    → AllByRecursion (λ (t : Tenure). IsTrue (is_among departments t.dept)) (first_tenures marker admitted config)
first_owned departments true admitted config owned = tt
first_owned departments false admitted None owned = tt
first_owned departments false admitted (Some c) owned = (owned, tt)

unmoved_owned : (departments : List (List ℕ)) (v : Vault) → IsUnmoved v → AllByRecursion (λ (b : Bucket). IsTrue (is_among departments b.config.dept)) v.buckets
    → AllByRecursion (λ (h : History). AllByRecursion (λ (t : Tenure). IsTrue (is_among departments t.dept)) h.tenures) v.histories
unmoved_owned departments v unmoved owned =
    all_as (λ (h : History) (first : HasFirstTenures v.buckets h).
    subst (AllByRecursion (λ (t : Tenure). IsTrue (is_among departments t.dept))) (sym first)
    (first_owned departments h.entry.marker h.entry.admitted (config_in v.buckets h.entry.bucket) (owned_config departments v.buckets h.entry.bucket owned)))
    v.histories unmoved.tenures

-- ---- all records

module _ (n : SchemaVersion) (db : Database) (tied : AreTied n db) where
  pub callers_employed : (departments : List (List ℕ)) (callers : List Caller) → IsPermutation (map (λ d. Text d) departments) (map (λ r. column r 1) (db.trees departments_tree))
      → IsPermutation (map caller_row callers) (map caller_columns (db.trees callers_tree)) → AllByRecursion (λ (c : Caller). IsTrue (passes_if_given (is_among departments) c.dept)) callers
  callers_employed departments callers stated are =
      all_from (λ (c : Caller). IsTrue (passes_if_given (is_among departments) c.dept)) callers (λ c there.
      among_if_given departments (map (λ r. column r 1) (db.trees departments_tree)) c.dept stated
      (all_has (λ v. (v ≡ Null) ⊎ Has (map (λ r. column r 1) (db.trees departments_tree)) v) (map (λ r. column r 2) (db.trees callers_tree)) (text_or_null c.dept) tied.departments_of_callers
      (in_column caller_row caller_columns 1 callers (db.trees callers_tree) are 2 (λ r. refl) c there)))

  pub buckets_owned : (departments : List (List ℕ)) (buckets : List Bucket) → IsPermutation (map (λ d. Text d) departments) (map (λ r. column r 1) (db.trees departments_tree))
      → IsPermutation (map (λ b. bucket_row (bucket_of b)) buckets) (map bucket_columns (db.trees buckets_tree)) → AllByRecursion (λ (b : Bucket). IsTrue (is_among departments b.config.dept)) buckets
  buckets_owned departments buckets stated are =
      all_from (λ (b : Bucket). IsTrue (is_among departments b.config.dept)) buckets (λ b there.
      among departments (map (λ r. column r 1) (db.trees departments_tree)) b.config.dept stated
      (all_has (λ v. (v ≡ Null) ⊎ Has (map (λ r. column r 1) (db.trees departments_tree)) v) (map (λ r. column r 2) (db.trees buckets_tree)) (Text b.config.dept) tied.departments_of_buckets
      (in_column (λ x. bucket_row (bucket_of x)) bucket_columns 1 buckets (db.trees buckets_tree) are 2 (λ r. refl) b there)))

  pub entries_placed : (buckets : List Bucket) (entries : List Entry) → IsPermutation (map (λ b. bucket_row (bucket_of b)) buckets) (map bucket_columns (db.trees buckets_tree))
      → IsPermutation (map entry_row entries) (map entry_columns (db.trees entries_tree)) → AllByRecursion (λ (e : Entry). IsSome (config_in buckets e.bucket)) entries
  entries_placed buckets entries held are =
      all_from (λ (e : Entry). IsSome (config_in buckets e.bucket)) entries (λ e there.
      let names = map (λ r. column r 1) (db.trees buckets_tree) in
      let tie = all_has (λ v. (v ≡ Null) ⊎ Has names v) (map (λ r. column r 2) (db.trees entries_tree)) (Text e.bucket) tied.buckets_of_entries
      (in_column entry_row entry_columns 1 entries (db.trees entries_tree) are 2 (λ r. refl) e there) in
      let row = has_mapped (λ r. column r 1) (db.trees buckets_tree) (Text e.bucket) (given_text names e.bucket tie) in
      let found = has_mapped (λ b. bucket_row (bucket_of b)) buckets (bucket_columns row.0) (permuted_within (map (λ b. bucket_row (bucket_of b)) buckets) (map bucket_columns (db.trees buckets_tree)) held (bucket_columns row.0) (mapped_has bucket_columns (db.trees buckets_tree) row.0 row.1)) in
      placed_by buckets e.bucket row.0 found.0 found.1 row.2 found.2)

-- the rows of tenures state their departments
stated_owned : (db : Database) (departments : List (List ℕ)) (v : Vault) → IsPermutation (map (λ d. Text d) departments) (map (λ r. column r 1) (db.trees departments_tree))
    → HaveParents (map (λ r. column r 2) (tenure_rows_in Third db)) (map (λ r. column r 1) (db.trees departments_tree)) → IsPermutation (tenure_rows_of Third v) (tenure_rows_in Third db) → AllByRecursion (λ (h : History). AllByRecursion (λ (t : Tenure). IsTrue (is_among departments t.dept)) h.tenures) v.histories
stated_owned db departments v stated tied are =
    all_from (λ (h : History). AllByRecursion (λ (t : Tenure). IsTrue (is_among departments t.dept)) h.tenures) v.histories (λ h there.
    all_from (λ (t : Tenure). IsTrue (is_among departments t.dept)) h.tenures (λ t its.
    let names = map (λ r. column r 1) (db.trees departments_tree) in
    let row = tenure_row (tenure_at h.entry.id t) in
    let one = mapped_has tenure_row (flat_map tenures_in v.histories) (tenure_at h.entry.id t) (part_has tenures_in (tenure_at h.entry.id t) h v.histories there (mapped_has (tenure_at h.entry.id) h.tenures t its)) in
    let stored = permuted_within (tenure_rows_in Third db) (tenure_rows_of Third v) (IsPermutation-sym (tenure_rows_of Third v) (tenure_rows_in Third db) are) row one in
    among departments names t.dept stated
    (all_has (λ x. (x ≡ Null) ⊎ Has names x) (map (λ r. column r 2) (tenure_rows_in Third db)) (Text t.dept) tied (mapped_has (λ r. column r 2) (tenure_rows_in Third db) row stored))))

pub tenures_owned : (n : SchemaVersion) (db : Database) → AreTied n db → (departments : List (List ℕ)) (v : Vault) → IsPermutation (map (λ d. Text d) departments) (map (λ r. column r 1) (db.trees departments_tree))
    → IsPermutation (tenure_rows_of n v) (tenure_rows_in n db) → IsUnmovedIn n v → AllByRecursion (λ (b : Bucket). IsTrue (is_among departments b.config.dept)) v.buckets
    → AllByRecursion (λ (h : History). AllByRecursion (λ (t : Tenure). IsTrue (is_among departments t.dept)) h.tenures) v.histories
tenures_owned First db tied departments v stated are unmoved owned = unmoved_owned departments v unmoved owned
tenures_owned Second db tied departments v stated are unmoved owned = unmoved_owned departments v unmoved owned
tenures_owned Third db tied departments v stated are unmoved owned = stated_owned db departments v stated tied.departments_of_tenures are
tenures_owned Fourth db tied departments v stated are unmoved owned = stated_owned db departments v stated tied.departments_of_tenures are
