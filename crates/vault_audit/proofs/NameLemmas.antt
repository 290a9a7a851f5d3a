-- The names of the departments, as the rows hold them.
use Rattle.std.proofs.Common.{◌≡◌, ℕ, List, [], ◌∷◌, map, Less, IsPermutation, refl, sym, ap, subst, ◌∙◌}
use Rattle.std.specs.List.{AllByRecursion}
use Rattle.std.proofs.lemmas.List.Sorted.{IsPermutation-map, IsPermutation-sym, IsPermutation-trans}
use Rattle.sqlite_trees.proofs.ListLemmas.{map-map}
use Rattle.sqlite_value.specs.declared.value.Value.{Value}
use Rattle.sqlite_value.specs.declared.value.Value.TheVariants.{Null, Int, Real, Text, Blob}
use Rattle.sqlite_value.specs.Order.{Row, column}
use Rattle.sqlite.specs.Effect.{Database}
use Rattle.vault_core_model.specs.Order.{IsAscending, name_cmp}
use Rattle.vault_audit_model.specs.declared.rows.DepartmentRow.{DepartmentRow}
use Rattle.vault_audit_model.specs.declared.schema.SchemaVersion.{SchemaVersion}
use Rattle.vault_audit_model.specs.Limits.{IsPlainName, IsDepartmentRow}
use Rattle.vault_audit_model.specs.Rows.{department_row, department_columns_as}
use Rattle.vault_audit_model.specs.Tables.{departments_tree}
use Rattle.vault_audit_records.specs.ByName.{department_cmp, AreDepartmentsByName}
use Rattle.vault_audit_laws.specs.Parts.{AreDepartments}
use Rattle.vault_audit.specs.Found.{names_of}

-- the names that stand in the first column
abbrev pub name_column : Database → List Value
name_column db = map (λ r. column r 1) (db.trees departments_tree)

first_of : (n : SchemaVersion) (db : Database) → map (λ (r : Row). column r 0) (map (department_columns_as n) (db.trees departments_tree)) ≡ name_column db
first_of n db = map-map (λ (r : Row). column r 0) (department_columns_as n) (db.trees departments_tree)

pub names_are : (n : SchemaVersion) (db : Database) (ds : List DepartmentRow) → IsPermutation (map department_row ds) (map (department_columns_as n) (db.trees departments_tree)) → IsPermutation (map (λ n. Text n) (names_of ds)) (name_column db)
names_are n db ds same =
    let firsts = IsPermutation-map (λ (r : Row). column r 0) _ _ same in
    let left : map (λ (r : Row). column r 0) (map department_row ds) ≡ map (λ n. Text n) (names_of ds) = map-map (λ (r : Row). column r 0) department_row ds ∙ sym (map-map (λ n. Text n) (λ (d : DepartmentRow). d.name) ds) in
    subst (λ xs. IsPermutation xs (name_column db)) left (subst (IsPermutation (map (λ (r : Row). column r 0) (map department_row ds))) (first_of n db) firsts)

-- names that make the same rows are the same names, in some order
abbrev text_of : Value → List ℕ
text_of Null = []
text_of (Int i) = []
text_of (Real r) = []
text_of (Text t) = t
text_of (Blob b) = []

texts_back : (ns : List (List ℕ)) → map text_of (map (λ n. Text n) ns) ≡ ns
texts_back [] = refl
texts_back (n ∷ ns) = ap (λ xs. n ∷ xs) (texts_back ns)

pub same_names : (xs ys : List (List ℕ)) (column : List Value) → IsPermutation (map (λ n. Text n) xs) column → IsPermutation (map (λ n. Text n) ys) column → IsPermutation xs ys
same_names xs ys column first second =
    let texts = IsPermutation-map text_of _ _ (IsPermutation-trans _ _ _ first (IsPermutation-sym _ _ second)) in
    subst (λ zs. IsPermutation zs ys) (texts_back xs) (subst (IsPermutation (map text_of (map (λ n. Text n) xs))) (texts_back ys) texts)

later_names : (name : List ℕ) (ds : List DepartmentRow) → AllByRecursion (λ (d : DepartmentRow). name_cmp name d.name ≡ Less) ds → AllByRecursion (λ n. name_cmp name n ≡ Less) (names_of ds)
later_names name [] all = tt
later_names name (d ∷ ds) all = (all.0, later_names name ds all.1)

names_ascend : (ds : List DepartmentRow) → IsAscending department_cmp ds → IsAscending name_cmp (names_of ds)
names_ascend [] order = tt
names_ascend (d ∷ ds) order = (later_names d.name ds order.0, names_ascend ds order.1)

names_plain : (ds : List DepartmentRow) → AllByRecursion IsDepartmentRow ds → AllByRecursion IsPlainName (names_of ds)
names_plain [] all = tt
names_plain (d ∷ ds) all = (all.0, names_plain ds all.1)

pub by_name : (n : SchemaVersion) (db : Database) (ds : List DepartmentRow) → AreDepartmentsByName n db ds → AreDepartments db (names_of ds)
by_name n db ds are = (names_are n db ds are.0, names_ascend ds are.1, names_plain ds are.2)
