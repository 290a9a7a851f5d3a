-- Departments and callers in the order of their names.
use Rattle.std.specs.Prelude.{ℕ, Bool, true, false, List, map, Option, Some, IsPermutation}
use Rattle.std.specs.List.{AllByRecursion}
use Rattle.std.specs.declared.cmp.Ordering.{Ordering}
use Rattle.sqlite.specs.Effect.{Database}
use Rattle.vault_core_model.specs.declared.records.Caller.{Caller}
use Rattle.vault_core_model.specs.Order.{IsAscending, name_cmp}
use Rattle.vault_audit_model.specs.declared.rows.DepartmentRow.{DepartmentRow}
use Rattle.vault_audit_model.specs.declared.schema.SchemaVersion.{SchemaVersion}
use Rattle.vault_audit_model.specs.Limits.{IsCaller, IsDepartmentRow}
use Rattle.vault_audit_model.specs.Rows.{department_row, department_columns_as}
use Rattle.vault_audit_model.specs.Tables.{departments_tree}
use Rattle.vault_audit_model.specs.Relations.{AreCallers, IsAfter}

-- ---- callers

-- it is a caller in its limits, of a later name
abbrev pub IsNextCaller : Option (List ℕ) → Caller → Type 0
IsNextCaller before c = IsCaller c × IsAfter before c.name

abbrev pub with_caller : Option (List ℕ) → Caller → Option (List ℕ)
with_caller before c = Some c.name

abbrev pub DecidesCallers : Database → Bool → Type 0
DecidesCallers db true = (cs : List Caller) × AreCallers db cs
DecidesCallers db false = (cs : List Caller) → ¬ AreCallers db cs

-- ---- departments

abbrev pub department_cmp : DepartmentRow → DepartmentRow → Ordering
department_cmp a b = name_cmp a.name b.name

-- it is a department in its limits, of a later name
abbrev pub IsNextDepartment : Option (List ℕ) → DepartmentRow → Type 0
IsNextDepartment before d = IsDepartmentRow d × IsAfter before d.name

abbrev pub with_department : Option (List ℕ) → DepartmentRow → Option (List ℕ)
with_department before d = Some d.name

-- the rows of departments are these, in their limits and by rising name
abbrev pub AreDepartmentsByName : SchemaVersion → Database → List DepartmentRow → Type 0
AreDepartmentsByName n db ds =
    IsPermutation (map department_row ds) (map (department_columns_as n) (db.trees departments_tree)) × IsAscending department_cmp ds
    × AllByRecursion IsDepartmentRow ds

abbrev pub DecidesDepartments : SchemaVersion → Database → Bool → Type 0
DecidesDepartments n db true = (ds : List DepartmentRow) × AreDepartmentsByName n db ds
DecidesDepartments n db false = (ds : List DepartmentRow) → ¬ AreDepartmentsByName n db ds
