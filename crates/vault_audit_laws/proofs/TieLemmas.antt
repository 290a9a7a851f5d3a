-- What the foreign keys of the tables say of their columns.
use Rattle.std.proofs.Common.{◌≡◌, ◌⊎◌, inl, inr, ℕ, Bool, true, false, ◌||◌, ◌&&◌, if◌then◌else◌, List, [], ◌∷◌, map, codes, Option, Some, Ordering, Less, Equal, Greater, is_eq, refl, sym, ap, subst, ◌∙◌}
use Rattle.std.specs.List.{AllByRecursion, list_all}
use Rattle.std.specs.FinMap.{slice_cmp-IsAntisymmetric, nat_cmp-IsAntisymmetric}
use Rattle.std.specs.Prelude.{drop}
use Rattle.std.proofs.lemmas.Bool.{and_parts, or_cases}
use Rattle.sqlite_value.specs.declared.value.Value.{Value}
use Rattle.sqlite_value.specs.declared.value.Value.TheVariants.{Null, Int, Real, Text, Blob}
use Rattle.sqlite_value.specs.declared.keys.Collation.TheVariants.{Binary}
use Rattle.sqlite_value.specs.Keys.{plain, first_key, joined}
use Rattle.sqlite_value.specs.Order.{Row, column, value_cmp}
use Rattle.sqlite_value.proofs.OrderLemmas.{value_cmp-Text}
use Rattle.sqlite_trees.specs.Tree.{Trees}
use Rattle.sqlite_trees.proofs.ListLemmas.{map-map}
use Rattle.sqlite_sql.specs.Ops.{binary, is_null, is_true, from_truth}
use Rattle.sqlite_schema.specs.declared.schema.Column.{Column}
use Rattle.sqlite_schema.specs.declared.schema.Constraint.TheVariants.{Datatype, ForeignKey}
use Rattle.sqlite_schema.specs.declared.schema.Kind.TheVariants as kind
use Rattle.sqlite_schema.specs.declared.schema.Reference.{Reference}
use Rattle.sqlite_schema.specs.declared.schema.Table.{Table}
use Rattle.sqlite_schema.specs.Names.{same_name, is_key}
use Rattle.sqlite_schema.specs.Rules.{Keeps, are_typed, suits, is_of, equal, agree, has_null, has_parent, is_held, parent_key}
use Rattle.sqlite_rules.specs.Lists.{Has}
use Rattle.sqlite_rules.proofs.ListLemmas.{all_has, some_has}
use Rattle.sqlite_rules.proofs.ProbeLemmas.{mapped_has}
use Rattle.sqlite.specs.Effect.{Database, IsDatabase}
use Rattle.vault_audit_model.specs.declared.schema.SchemaVersion.{SchemaVersion}
use Rattle.vault_audit_model.specs.declared.schema.SchemaVersion.TheVariants.{First, Second, Third, Fourth}
use Rattle.vault_audit_model.specs.Rows.{tenure_columns, external_columns}
use Rattle.vault_audit_model.specs.Spells.{tenure_rows_in, external_rows_in}
use Rattle.vault_audit_model.specs.Tables.{schema_of, rules_as, refers, departments_as, callers, buckets, entries, intake, heads, tenures, has, departments_tree, callers_tree, buckets_tree, rules_tree, entries_tree, contents_tree, settings_tree, intake_tree, heads_tree, tenures_tree, external_tree}
use Rattle.vault_audit_laws.specs.Ties.{HaveParents, HaveTiedParents, AreTied}

-- ---- values that SQL holds equal

pub equal_is : (o : Ordering) → is_true (from_truth (Some (is_eq o))) ≡ true → o ≡ Equal
equal_is Less h = absurd (cc h)
equal_is Equal h = refl
equal_is Greater h = absurd (cc h)

pub equal_tied : (a b : Value) → equal Binary a b ≡ true → value_cmp a b ≡ Equal
unfolding binary
equal_tied a b h = go (is_null a || is_null b) h
  where
    go : (none : Bool) → is_true (if none then Null else from_truth (Some (is_eq (value_cmp a b)))) ≡ true → value_cmp a b ≡ Equal
    go true h = absurd (cc h)
    go false h = equal_is (value_cmp a b) h

null_never : (b : Value) → equal Binary Null b ≡ true → ⊥
unfolding binary
null_never b h = cc h

tied_texts : (a b : List ℕ) → value_cmp (Text a) (Text b) ≡ Equal → ◌≡◌ {A = Value} (Text a) (Text b)
tied_texts a b tie = ap Text (slice_cmp-IsAntisymmetric nat_cmp-IsAntisymmetric a b (sym (value_cmp-Text a b) ∙ tie))

-- ---- columns of texts

abbrev IsTextOrNull : Value → Type 0
IsTextOrNull v = (v ≡ Null) ⊎ ((t : List ℕ) × (v ≡ Text t))

text_or_null : (v : Value) → is_of kind.Text v ≡ true → IsTextOrNull v
text_or_null Null h = inl refl
text_or_null (Int n) h = absurd (cc h)
text_or_null (Real x) h = absurd (cc h)
text_or_null (Text t) h = inr (t, refl)
text_or_null (Blob b) h = absurd (cc h)

-- the first column
text_first : (key : Option ℕ) (c : Column) (cs : List Column) (row : Row) → ((v : Value) → suits c v ≡ true → IsTextOrNull v) → is_key key 0 ≡ false
    → are_typed key 0 (c ∷ cs) (drop 1 row) ≡ true → IsTextOrNull (column row 1)
text_first key c cs [] texts free typed = inl refl
text_first key c cs (r ∷ []) texts free typed = inl refl
text_first key c cs (r ∷ v ∷ vs) texts free typed = texts v (subst (λ b. (if b then is_null v else suits c v) ≡ true) free (and_parts _ _ typed).0)

-- the second
text_second : (key : Option ℕ) (b c : Column) (cs : List Column) (row : Row) → ((v : Value) → suits c v ≡ true → IsTextOrNull v) → is_key key 1 ≡ false
    → are_typed key 0 (b ∷ c ∷ cs) (drop 1 row) ≡ true → IsTextOrNull (column row 2)
text_second key b c cs [] texts free typed = inl refl
text_second key b c cs (r ∷ []) texts free typed = inl refl
text_second key b c cs (r ∷ v ∷ []) texts free typed = inl refl
text_second key b c cs (r ∷ v ∷ w ∷ vs) texts free typed = texts w (subst (λ b. (if b then is_null w else suits c w) ≡ true) free (and_parts _ _ (and_parts _ _ typed).1).0)

-- the third
text_third : (key : Option ℕ) (a b c : Column) (cs : List Column) (row : Row) → ((v : Value) → suits c v ≡ true → IsTextOrNull v) → is_key key 2 ≡ false
    → are_typed key 0 (a ∷ b ∷ c ∷ cs) (drop 1 row) ≡ true → IsTextOrNull (column row 3)
text_third key a b c cs [] texts free typed = inl refl
text_third key a b c cs (r ∷ []) texts free typed = inl refl
text_third key a b c cs (r ∷ v ∷ []) texts free typed = inl refl
text_third key a b c cs (r ∷ v ∷ w ∷ []) texts free typed = inl refl
text_third key a b c cs (r ∷ v ∷ w ∷ x ∷ vs) texts free typed = texts x (subst (λ b. (if b then is_null x else suits c x) ≡ true) free (and_parts _ _ (and_parts _ _ (and_parts _ _ typed).1).1).0)

-- ---- a row that a foreign key points to

abbrev PointsTo : ℕ → ℕ → List Row → Row → Type 0
PointsTo at place parents r = (column r at ≡ Null) ⊎ ((p : Row) × Has parents p × (equal Binary (column p place) (column r at) ≡ true))

null_is : (v : Value) → is_null v ≡ true → v ≡ Null
null_is Null h = refl
null_is (Int n) h = absurd (cc h)
null_is (Real x) h = absurd (cc h)
null_is (Text t) h = absurd (cc h)
null_is (Blob b) h = absurd (cc h)

only : (b : Bool) → (b || false) ≡ true → b ≡ true
only true h = refl
only false h = absurd (cc h)

agrees : (at place : ℕ) (p r : Row) → agree plain (place ∷ []) p (at ∷ []) r ≡ true → equal Binary (column p place) (column r at) ≡ true
unfolding first_key
agrees at place p r h = (and_parts _ _ h).0

points : (tables : List Table) (trees : Trees) (at place tree : ℕ) (ref : Reference) (row : Row) → ref.columns ≡ at ∷ [] → parent_key tables ref ≡ Some (tree, place ∷ [], plain)
    → has_parent tables trees row ref ≡ true → PointsTo at place (trees tree) row
points tables trees at place tree ref row columns key h =
    let it : (has_null (at ∷ []) row || is_held trees (at ∷ []) row (Some (tree, place ∷ [], plain))) ≡ true =
    sym (ap (λ k. has_null (at ∷ []) row || is_held trees (at ∷ []) row k) key) ∙ sym (ap (λ c. has_null c row || is_held trees c row (parent_key tables ref)) columns) ∙ h in
    elim (or_cases (has_null (at ∷ []) row) (is_held trees (at ∷ []) row (Some (tree, place ∷ [], plain))) it) [
      | inl none ↦ inl (null_is (column row at) (only (is_null (column row at)) none))
      | inr held ↦ (let found = some_has (λ parent. agree plain (place ∷ []) parent (at ∷ []) row) (trees tree) held in inr (found.0, found.1, agrees at place found.0 row found.2))
    ]

-- ---- columns

module _ (at place : ℕ) (parents : List Row) where
  pub tied_parents : (children : List Row) → AllByRecursion (PointsTo at place parents) children → HaveTiedParents (map (λ r. column r at) children) (map (λ r. column r place) parents)
  tied_parents [] all = tt
  tied_parents (c ∷ cs) all = (one all.0, tied_parents cs all.1)
    where
      one : PointsTo at place parents c → (column c at ≡ Null) ⊎ ((p : Value) × Has (map (λ r. column r place) parents) p × (value_cmp p (column c at) ≡ Equal))
      one (inl none) = inl none
      one (inr (p, there, same)) = inr (column p place, mapped_has (λ r. column r place) parents p there, equal_tied (column p place) (column c at) same)

  same_text : (a b : Value) → IsTextOrNull a → IsTextOrNull b → equal Binary a b ≡ true → (b ≡ Null) ⊎ (a ≡ b)
  same_text a b is (inl none) h = inl none
  same_text a b (inl none) (inr (t, is)) h = absurd (null_never b (subst (λ v. equal Binary v b ≡ true) none h))
  same_text a b (inr (s, first)) (inr (t, second)) h =
      inr (first ∙ tied_texts s t (subst (λ v. value_cmp (Text s) v ≡ Equal) second (subst (λ v. value_cmp v b ≡ Equal) first (equal_tied a b h))) ∙ sym second)

  pub text_parents : (children : List Row) → AllByRecursion (λ r. IsTextOrNull (column r place)) parents → AllByRecursion (λ r. IsTextOrNull (column r at)) children → AllByRecursion (PointsTo at place parents) children
      → HaveParents (map (λ r. column r at) children) (map (λ r. column r place) parents)
  text_parents [] texts typed all = tt
  text_parents (c ∷ cs) texts typed all = (one all.0, text_parents cs texts typed.1 all.1)
    where
      one : PointsTo at place parents c → (column c at ≡ Null) ⊎ Has (map (λ r. column r place) parents) (column c at)
      one (inl none) = inl none
      one (inr (p, there, same)) = elim (same_text (column p place) (column c at) (all_has (λ r. IsTextOrNull (column r place)) parents p texts there) typed.0 same) [
        | inl none ↦ inl none
        | inr alike ↦ inr (subst (Has (map (λ r. column r place) parents)) alike (mapped_has (λ r. column r place) parents p there))
      ]

-- ---- each row of a table

abbrev head_of : List Column → Column
head_of [] = has [] kind.Text
head_of (c ∷ cs) = c

first_texts : (key : Option ℕ) (c : Column) (cs : List Column) → ((v : Value) → suits c v ≡ true → IsTextOrNull v) → is_key key 0 ≡ false
    → (rows : List Row) → AllByRecursion (λ row. (are_typed key 0 (c ∷ cs) (drop 1 row) && true) ≡ true) rows → AllByRecursion (λ r. IsTextOrNull (column r 1)) rows
first_texts key c cs texts free [] all = tt
first_texts key c cs texts free (r ∷ rs) all = (text_first key c cs r texts free (and_parts _ _ all.0).0, first_texts key c cs texts free rs all.1)

second_texts : (key : Option ℕ) (b c : Column) (cs : List Column) → ((v : Value) → suits c v ≡ true → IsTextOrNull v) → is_key key 1 ≡ false
    → (rows : List Row) → AllByRecursion (λ row. (are_typed key 0 (b ∷ c ∷ cs) (drop 1 row) && true) ≡ true) rows → AllByRecursion (λ r. IsTextOrNull (column r 2)) rows
second_texts key b c cs texts free [] all = tt
second_texts key b c cs texts free (r ∷ rs) all = (text_second key b c cs r texts free (and_parts _ _ all.0).0, second_texts key b c cs texts free rs all.1)

third_texts : (key : Option ℕ) (a b c : Column) (cs : List Column) → ((v : Value) → suits c v ≡ true → IsTextOrNull v) → is_key key 2 ≡ false
    → (rows : List Row) → AllByRecursion (λ row. (are_typed key 0 (a ∷ b ∷ c ∷ cs) (drop 1 row) && true) ≡ true) rows → AllByRecursion (λ r. IsTextOrNull (column r 3)) rows
third_texts key a b c cs texts free [] all = tt
third_texts key a b c cs texts free (r ∷ rs) all = (text_third key a b c cs r texts free (and_parts _ _ all.0).0, third_texts key a b c cs texts free rs all.1)

module _ (tables : List Table) (trees : Trees) (at place tree : ℕ) (ref : Reference) (columns : ref.columns ≡ at ∷ []) (key : parent_key tables ref ≡ Some (tree, place ∷ [], plain)) where
  first_points : (refs : List Reference) (rows : List Row) → AllByRecursion (λ row. list_all (has_parent tables trees row) (ref ∷ refs) ≡ true) rows → AllByRecursion (PointsTo at place (trees tree)) rows
  first_points refs [] all = tt
  first_points refs (r ∷ rs) all =
      (points tables trees at place tree ref r columns key (and_parts (has_parent tables trees r ref) (list_all (has_parent tables trees r) refs) all.0).0, first_points refs rs all.1)

  second_points : (before : Reference) (refs : List Reference) (rows : List Row) → AllByRecursion (λ row. list_all (has_parent tables trees row) (before ∷ ref ∷ refs) ≡ true) rows → AllByRecursion (PointsTo at place (trees tree)) rows
  second_points before refs [] all = tt
  second_points before refs (r ∷ rs) all =
      let later = (and_parts (has_parent tables trees r before) (list_all (has_parent tables trees r) (ref ∷ refs)) all.0).1 in
      (points tables trees at place tree ref r columns key (and_parts (has_parent tables trees r ref) (list_all (has_parent tables trees r) refs) later).0, second_points before refs rs all.1)

-- ---- the tables

departments_key : (n : SchemaVersion) (at : ℕ) → parent_key (schema_of n).tables (refers at (codes "departments") (codes "name")) ≡ Some (departments_tree, 1 ∷ [], plain)
unfolding same_name joined
departments_key n at = refl

buckets_key : (n : SchemaVersion) (at : ℕ) → parent_key (schema_of n).tables (refers at (codes "buckets") (codes "name")) ≡ Some (buckets_tree, 1 ∷ [], plain)
unfolding same_name joined
buckets_key n at = refl

entries_key : (n : SchemaVersion) (at : ℕ) → parent_key (schema_of n).tables (refers at (codes "entries") (codes "id")) ≡ Some (entries_tree, 0 ∷ [], plain)
unfolding same_name joined
entries_key n at = refl

-- tenures, where the schema version has them
stated_departments : (db : Database) → AllByRecursion (λ r. IsTextOrNull (column r 3)) (db.trees tenures_tree) → AllByRecursion (PointsTo 3 1 (db.trees departments_tree)) (db.trees tenures_tree) → AllByRecursion (λ r. IsTextOrNull (column r 1)) (db.trees departments_tree)
    → HaveParents (map (λ r. column r 2) (map tenure_columns (db.trees tenures_tree))) (map (λ r. column r 1) (db.trees departments_tree))
stated_departments db texts named names =
    subst (λ vs. HaveParents vs (map (λ r. column r 1) (db.trees departments_tree))) (sym (map-map (λ r. column r 2) tenure_columns (db.trees tenures_tree)))
    (text_parents 3 1 (db.trees departments_tree) (db.trees tenures_tree) names texts named)

tenure_texts : (rows : List Row) → AllByRecursion (λ row. (are_typed tenures.key 0 tenures.columns (drop 1 row) && true) ≡ true) rows → AllByRecursion (λ r. IsTextOrNull (column r 3)) rows
tenure_texts = third_texts tenures.key (head_of tenures.columns) (head_of (drop 1 tenures.columns)) (head_of (drop 2 tenures.columns)) (drop 3 tenures.columns) text_or_null refl

tenure_departments : (n : SchemaVersion) (db : Database) → Keeps Datatype (schema_of n) db.trees → Keeps ForeignKey (schema_of n) db.trees → AllByRecursion (λ r. IsTextOrNull (column r 1)) (db.trees departments_tree)
    → HaveParents (map (λ r. column r 2) (tenure_rows_in n db)) (map (λ r. column r 1) (db.trees departments_tree))
tenure_departments First db typed refer names = tt
tenure_departments Second db typed refer names = tt
tenure_departments Third db typed refer names =
    let rows = db.trees tenures_tree in
    let named = second_points (schema_of Third).tables db.trees 3 1 departments_tree (refers 3 (codes "departments") (codes "name")) refl (departments_key Third 3) (refers 1 (codes "entries") (codes "id")) [] rows refer.1.1.1.1.1.1.1.1.1.1.0 in
    stated_departments db (tenure_texts rows typed.1.1.1.1.1.1.1.1.1.1.0) named names
tenure_departments Fourth db typed refer names =
    let rows = db.trees tenures_tree in
    let named = second_points (schema_of Fourth).tables db.trees 3 1 departments_tree (refers 3 (codes "departments") (codes "name")) refl (departments_key Fourth 3) (refers 1 (codes "entries") (codes "id")) [] rows refer.1.1.1.1.1.1.1.1.1.1.0 in
    stated_departments db (tenure_texts rows typed.1.1.1.1.1.1.1.1.1.1.0) named names

-- the same of external
external_entries : (n : SchemaVersion) (db : Database) → Keeps ForeignKey (schema_of n) db.trees → HaveTiedParents (map (λ r. column r 0) (external_rows_in n db)) (map (λ r. column r 0) (db.trees entries_tree))
external_entries First db refer = tt
external_entries Second db refer = tt
external_entries Third db refer = tt
external_entries Fourth db refer =
    let rows = db.trees external_tree in
    let named = first_points (schema_of Fourth).tables db.trees 0 0 entries_tree (refers 0 (codes "entries") (codes "id")) refl (entries_key Fourth 0) [] rows refer.1.1.1.1.1.1.1.1.1.1.1.0 in
    subst (λ vs. HaveTiedParents vs (map (λ r. column r 0) (db.trees entries_tree))) (sym (map-map (λ r. column r 0) external_columns rows)) (tied_parents 0 0 (db.trees entries_tree) rows named)

module _ (n : SchemaVersion) (db : Database) (is : IsDatabase db) (ours : db.schema ≡ schema_of n) where
  refer : Keeps ForeignKey (schema_of n) db.trees
  refer = subst (λ s. Keeps ForeignKey s db.trees) ours (is.obeys.rules ForeignKey)

  typed : Keeps Datatype (schema_of n) db.trees
  typed = subst (λ s. Keeps Datatype s db.trees) ours (is.obeys.rules Datatype)

  abbrev rows_of : ℕ → List Row
  rows_of tree = db.trees tree

  abbrev AreTexts : ℕ → List Row → Type 0
  AreTexts at rows = AllByRecursion (λ r. IsTextOrNull (column r at)) rows

  department_names : AreTexts 1 (rows_of departments_tree)
  department_names = first_texts (departments_as n).key (head_of (departments_as n).columns) (drop 1 (departments_as n).columns) text_or_null refl (rows_of departments_tree) typed.1.0

  caller_departments : AreTexts 2 (rows_of callers_tree)
  caller_departments = second_texts callers.key (head_of callers.columns) (head_of (drop 1 callers.columns)) (drop 2 callers.columns) text_or_null refl (rows_of callers_tree) typed.1.1.0

  bucket_names : AreTexts 1 (rows_of buckets_tree)
  bucket_names = first_texts buckets.key (head_of buckets.columns) (drop 1 buckets.columns) text_or_null refl (rows_of buckets_tree) typed.1.1.1.0

  bucket_departments : AreTexts 2 (rows_of buckets_tree)
  bucket_departments = second_texts buckets.key (head_of buckets.columns) (head_of (drop 1 buckets.columns)) (drop 2 buckets.columns) text_or_null refl (rows_of buckets_tree) typed.1.1.1.0

  rule_buckets : AreTexts 1 (rows_of rules_tree)
  rule_buckets = first_texts (rules_as n).key (head_of (rules_as n).columns) (drop 1 (rules_as n).columns) text_or_null refl (rows_of rules_tree) typed.1.1.1.1.0

  entry_buckets : AreTexts 2 (rows_of entries_tree)
  entry_buckets = second_texts entries.key (head_of entries.columns) (head_of (drop 1 entries.columns)) (drop 2 entries.columns) text_or_null refl (rows_of entries_tree) typed.1.1.1.1.1.0

  note_buckets : AreTexts 1 (rows_of intake_tree)
  note_buckets = first_texts intake.key (head_of intake.columns) (drop 1 intake.columns) text_or_null refl (rows_of intake_tree) typed.1.1.1.1.1.1.1.1.0

  head_buckets : AreTexts 1 (rows_of heads_tree)
  head_buckets = first_texts heads.key (head_of heads.columns) (drop 1 heads.columns) text_or_null refl (rows_of heads_tree) typed.1.1.1.1.1.1.1.1.1.0

  to_departments : (at : ℕ) (refs : List Reference) (rows : List Row) → AllByRecursion (λ row. list_all (has_parent (schema_of n).tables db.trees row) (refers at (codes "departments") (codes "name") ∷ refs) ≡ true) rows
      → AllByRecursion (PointsTo at 1 (rows_of departments_tree)) rows
  to_departments at = first_points (schema_of n).tables db.trees at 1 departments_tree (refers at (codes "departments") (codes "name")) refl (departments_key n at)

  to_buckets : (at : ℕ) (refs : List Reference) (rows : List Row) → AllByRecursion (λ row. list_all (has_parent (schema_of n).tables db.trees row) (refers at (codes "buckets") (codes "name") ∷ refs) ≡ true) rows
      → AllByRecursion (PointsTo at 1 (rows_of buckets_tree)) rows
  to_buckets at = first_points (schema_of n).tables db.trees at 1 buckets_tree (refers at (codes "buckets") (codes "name")) refl (buckets_key n at)

  to_entries : (at : ℕ) (refs : List Reference) (rows : List Row) → AllByRecursion (λ row. list_all (has_parent (schema_of n).tables db.trees row) (refers at (codes "entries") (codes "id") ∷ refs) ≡ true) rows
      → AllByRecursion (PointsTo at 0 (rows_of entries_tree)) rows
  to_entries at = first_points (schema_of n).tables db.trees at 0 entries_tree (refers at (codes "entries") (codes "id")) refl (entries_key n at)

  then_to_entries : (at : ℕ) (before : Reference) (refs : List Reference) (rows : List Row)
      → AllByRecursion (λ row. list_all (has_parent (schema_of n).tables db.trees row) (before ∷ refers at (codes "entries") (codes "id") ∷ refs) ≡ true) rows → AllByRecursion (PointsTo at 0 (rows_of entries_tree)) rows
  then_to_entries at = second_points (schema_of n).tables db.trees at 0 entries_tree (refers at (codes "entries") (codes "id")) refl (entries_key n at)

  pub are_tied : AreTied n db
  are_tied = record {
    departments_of_callers = text_parents 2 1 (rows_of departments_tree) (rows_of callers_tree) department_names caller_departments (to_departments 2 [] (rows_of callers_tree) refer.1.1.0);
    departments_of_buckets = text_parents 2 1 (rows_of departments_tree) (rows_of buckets_tree) department_names bucket_departments (to_departments 2 [] (rows_of buckets_tree) refer.1.1.1.0);
    buckets_of_rules = text_parents 1 1 (rows_of buckets_tree) (rows_of rules_tree) bucket_names rule_buckets (to_buckets 1 [] (rows_of rules_tree) refer.1.1.1.1.0);
    buckets_of_entries = text_parents 2 1 (rows_of buckets_tree) (rows_of entries_tree) bucket_names entry_buckets (to_buckets 2 [] (rows_of entries_tree) refer.1.1.1.1.1.0);
    buckets_of_notes = text_parents 1 1 (rows_of buckets_tree) (rows_of intake_tree) bucket_names note_buckets (to_buckets 1 (refers 10 (codes "entries") (codes "id") ∷ []) (rows_of intake_tree) refer.1.1.1.1.1.1.1.1.0);
    buckets_of_heads = text_parents 1 1 (rows_of buckets_tree) (rows_of heads_tree) bucket_names head_buckets (to_buckets 1 (refers 3 (codes "entries") (codes "id") ∷ []) (rows_of heads_tree) refer.1.1.1.1.1.1.1.1.1.0);
    entries_of_contents = tied_parents 0 0 (rows_of entries_tree) (rows_of contents_tree) (to_entries 0 [] (rows_of contents_tree) refer.1.1.1.1.1.1.0);
    entries_of_settings = tied_parents 1 0 (rows_of entries_tree) (rows_of settings_tree) (to_entries 1 [] (rows_of settings_tree) refer.1.1.1.1.1.1.1.0);
    entries_of_notes = tied_parents 10 0 (rows_of entries_tree) (rows_of intake_tree) (then_to_entries 10 (refers 1 (codes "buckets") (codes "name")) [] (rows_of intake_tree) refer.1.1.1.1.1.1.1.1.0);
    entries_of_heads = tied_parents 3 0 (rows_of entries_tree) (rows_of heads_tree) (then_to_entries 3 (refers 1 (codes "buckets") (codes "name")) [] (rows_of heads_tree) refer.1.1.1.1.1.1.1.1.1.0);
    entries_of_external = external_entries n db refer;
    departments_of_tenures = tenure_departments n db typed refer department_names;
  }
