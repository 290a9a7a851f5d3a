-- What the walks by name say.
use Rattle.std.proofs.Common.{◌≡◌, ℕ, List, [], ◌∷◌, drop, map, true, false, Bool, None, Some, Option, Less, Result, Ok, Err, IfOk, OnOk, IsPermutation, IsSorted, refl, sym, ap, subst}
use Rattle.std.specs.List.{AllByRecursion}
use Rattle.sqlite_value.specs.Order.{Row}
use Rattle.sqlite_value.proofs.OrderLemmas.{value_cmp-Text}
use Rattle.sqlite_trees.proofs.ListLemmas.{map-map}
use Rattle.sqlite.specs.Effect.{Database}
use Rattle.sqlite.specs.State.{State, Shown, IsUnchanged}
use Rattle.sqlite.specs.declared.error.Error.{Error}
use Rattle.vault_core_model.specs.declared.records.Caller.{Caller}
use Rattle.vault_core_model.specs.Order.{IsAscending, name_cmp}
use Rattle.vault_core_model.specs.Vault.{Vault}
use Rattle.vault_audit_model.specs.declared.rows.DepartmentRow.{DepartmentRow}
use Rattle.vault_audit_model.specs.Limits.{IsPlainName, IsCaller, IsDepartmentRow}
use Rattle.vault_audit_model.specs.Rows.{caller_row, caller_columns, department_row, department_columns_as}
use Rattle.vault_audit_model.specs.Spells.{AreSoundAs, department_in}
use Rattle.vault_audit_model.specs.Tables.{schema_of, callers, callers_tree, departments_tree}
use Rattle.vault_audit_schema.specs.Selects.{department_terms}
use Rattle.vault_audit_schema.specs.Texts.{terms_of}
use Rattle.vault_audit_model.proofs.SameRows.{same_caller}
use Rattle.vault_audit_rows.specs.Pass.{Takes, Refuses}
use Rattle.vault_audit_rows.specs.Walk.{Walked}
use Rattle.vault_audit_rows.proofs.ScanLemmas.{walked, first_cmp, first_cmp_total}
use Rattle.vault_audit_rows.proofs.PassLemmas.{walk_yes, walk_no, rows_yes, rows_no}
use Rattle.vault_audit_records.specs.ByName.{IsNextCaller, with_caller, DecidesCallers, department_cmp, IsNextDepartment, with_department, DecidesDepartments}
use Rattle.vault_audit_records.proofs.NameRiseLemmas.{ascending, in_limits, rise, fitting}
use Rattle.vault_audit_records.proofs.NameRowLemmas.{same_name}
use Rattle.vault_audit_records.proofs.NameTextLemmas.{callers_walk, callers_walk_is, callers_walk_plain, departments_walk, departments_walk_is, departments_walk_plain}
use Rattle.vault_audit_model.specs.declared.schema.SchemaVersion.{SchemaVersion}
use Rattle.vault_audit_model.specs.declared.schema.SchemaVersion.TheVariants.{First, Second, Third, Fourth}

-- ---- callers

abbrev callers_in : Database → List Row
callers_in db = map caller_columns (db.trees callers_tree)

callers_first : (x y : Caller) → first_cmp (caller_row x) (caller_row y) ≡ name_cmp x.name y.name
callers_first x y = value_cmp-Text x.name y.name

callers_answer : (n : SchemaVersion) → (a b : State) → a.now.schema ≡ schema_of n → (rows : List Row) → Shown callers_walk [] a b rows → IsPermutation (callers_in a.now) rows × IsSorted first_cmp rows
callers_answer n a b schema rows shown =
    walked callers_walk a b (schema_of n) schema (callers_walk_plain n) (callers_walk_is n).1 callers_tree 1 (drop 1 (terms_of callers)) _ (callers_walk_is n).0 refl rows shown

-- ---- departments

abbrev departments_in : SchemaVersion → Database → List Row
departments_in n db = map (department_columns_as n) (db.trees departments_tree)

departments_first : (x y : DepartmentRow) → first_cmp (department_row x) (department_row y) ≡ name_cmp x.name y.name
departments_first x y = value_cmp-Text x.name y.name

departments_answer : (n : SchemaVersion) (a b : State) → a.now.schema ≡ schema_of n → (rows : List Row) → Shown (departments_walk n) [] a b rows → IsPermutation (departments_in n a.now) rows × IsSorted first_cmp rows
departments_answer First a b schema rows shown =
    walked (departments_walk First) a b (schema_of First) schema (departments_walk_plain First) (departments_walk_is First).1 departments_tree 1 (drop 1 (department_terms First)) _ (departments_walk_is First).0 refl rows shown
departments_answer Second a b schema rows shown =
    walked (departments_walk Second) a b (schema_of Second) schema (departments_walk_plain Second) (departments_walk_is Second).1 departments_tree 1 (drop 1 (department_terms Second)) _ (departments_walk_is Second).0 refl rows shown
departments_answer Third a b schema rows shown =
    walked (departments_walk Third) a b (schema_of Third) schema (departments_walk_plain Third) (departments_walk_is Third).1 departments_tree 1 (drop 1 (department_terms Third)) _ (departments_walk_is Third).0 refl rows shown
departments_answer Fourth a b schema rows shown =
    walked (departments_walk Fourth) a b (schema_of Fourth) schema (departments_walk_plain Fourth) (departments_walk_is Fourth).1 departments_tree 1 (drop 1 (department_terms Fourth)) _ (departments_walk_is Fourth).0 refl rows shown

alike : (before : Option (List ℕ)) (x y : DepartmentRow) → department_row x ≡ department_row y → with_department before x ≡ with_department before y
alike before x y e = ap Some (same_name x y e)

-- ---- the walks

module _ (n : SchemaVersion) (old new : State) (has : old.now.schema ≡ schema_of n) (r : Option (List ℕ)) where
  callers_stated : (stated : Bool) → IsUnchanged old new → Walked (Takes caller_row IsNextCaller with_caller) (Refuses caller_row IsNextCaller with_caller) callers_walk old new None r stated → DecidesCallers new.now stated
  callers_stated true same h =
      let it = walk_yes caller_row IsNextCaller with_caller same_caller (schema_of n) callers_walk _ _ (callers_walk_is n).0 callers_in (callers_answer n) old new has same None r h in
      (it.0, (it.1, ascending caller_row (λ (c : Caller). c.name) IsCaller callers_first None it.0 it.2, in_limits caller_row (λ (c : Caller). c.name) IsCaller callers_first None it.0 it.2))
  callers_stated false same h = λ cs are.
      walk_no caller_row IsNextCaller with_caller same_caller (schema_of n) callers_walk _ _ (callers_walk_is n).0 callers_in (callers_answer n) old new has same None r
      (rise caller_row (λ (c : Caller). c.name) IsCaller callers_first None) h cs are.0 (fitting caller_row (λ (c : Caller). c.name) IsCaller callers_first cs are.1 are.2)

  departments_stated : (stated : Bool) → IsUnchanged old new → Walked (Takes department_row IsNextDepartment with_department) (Refuses department_row IsNextDepartment with_department) (departments_walk n) old new None r stated → DecidesDepartments n new.now stated
  departments_stated true same h =
      let it = rows_yes department_row IsNextDepartment with_department alike first_cmp first_cmp_total (schema_of n) (departments_walk n) _ _ (departments_walk_is n).0 (departments_in n) (departments_answer n) old new has same None r h in
      (it.0, (it.1, ascending department_row (λ (d : DepartmentRow). d.name) IsDepartmentRow departments_first None it.0 it.2, in_limits department_row (λ (d : DepartmentRow). d.name) IsDepartmentRow departments_first None it.0 it.2))
  departments_stated false same h = λ ds are.
      rows_no department_row IsNextDepartment with_department alike first_cmp first_cmp_total (schema_of n) (departments_walk n) _ _ (departments_walk_is n).0 (departments_in n) (departments_answer n) old new has same None r
      (rise department_row (λ (d : DepartmentRow). d.name) IsDepartmentRow departments_first None) h ds are.0 (fitting department_row (λ (d : DepartmentRow). d.name) IsDepartmentRow departments_first ds are.1 are.2)

  -- the same of the answers of such walks
  pub callers_if_ok : (answer : Result Bool Error) → OnOk answer (IsUnchanged old new) → IfOk answer (Walked (Takes caller_row IsNextCaller with_caller) (Refuses caller_row IsNextCaller with_caller) callers_walk old new None r) → IfOk answer (DecidesCallers new.now)
  callers_if_ok (Ok stated) same h = callers_stated stated same h
  callers_if_ok (Err e) same h = tt

  pub departments_if_ok : (answer : Result Bool Error) → OnOk answer (IsUnchanged old new) → IfOk answer (Walked (Takes department_row IsNextDepartment with_department) (Refuses department_row IsNextDepartment with_department) (departments_walk n) old new None r) → IfOk answer (DecidesDepartments n new.now)
  departments_if_ok (Ok stated) same h = departments_stated stated same h
  departments_if_ok (Err e) same h = tt

-- ---- sound tables

module _ (n : SchemaVersion) (db : Database) (v : Vault) where
  pub no_callers : DecidesCallers db false → ¬ AreSoundAs n db v
  no_callers none it = none v.callers (it.spells.callers, it.spells.kept.sound.ordered.callers, it.spells.kept.limits.callers)

  named : (ds : List (List ℕ)) → AllByRecursion IsPlainName ds → AllByRecursion IsDepartmentRow (map (department_in v) ds)
  named [] all = tt
  named (d ∷ ds) all = (all.0, named ds all.1)

  later_names : (d : List ℕ) (ds : List (List ℕ)) → AllByRecursion (λ e. name_cmp d e ≡ Less) ds → AllByRecursion (λ (e : DepartmentRow). name_cmp d e.name ≡ Less) (map (department_in v) ds)
  later_names d [] all = tt
  later_names d (e ∷ es) all = (all.0, later_names d es all.1)

  in_order : (ds : List (List ℕ)) → IsAscending name_cmp ds → IsAscending department_cmp (map (department_in v) ds)
  in_order [] order = tt
  in_order (d ∷ ds) order = (later_names d ds order.0, in_order ds order.1)

  pub no_departments : DecidesDepartments n db false → ¬ AreSoundAs n db v
  no_departments none it =
      none (map (department_in v) v.departments) (
        subst (λ rows. IsPermutation rows (departments_in n db)) (sym (map-map department_row (department_in v) v.departments)) it.numbers,
        in_order v.departments it.spells.kept.sound.ordered.departments,
        named v.departments it.spells.kept.limits.departments,
      )
