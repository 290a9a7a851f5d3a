-- What the query for all rows of departments shows, and what they have to be.
use Rattle.std.specs.Prelude.{⊤}
use Rattle.std.proofs.Common.{[], map, false, refl, arith}
use Rattle.sqlite_tied.specs.Compute.{everything}
use Rattle.sqlite.specs.Effect.{Database}
use Rattle.sqlite.specs.Listing.{understood}
use Rattle.sqlite.specs.Schema.{Schema}
use Rattle.vault_base.specs.declared.refusal.Table.TheVariants as table
use Rattle.vault_core_model.specs.Vault.{Vault}
use Rattle.vault_audit_model.specs.declared.schema.SchemaVersion.{SchemaVersion}
use Rattle.vault_audit_model.specs.declared.schema.SchemaVersion.TheVariants.{First, Second, Third, Fourth}
use Rattle.vault_audit_model.specs.Limits.{IsDepartmentRow}
use Rattle.vault_audit_model.specs.Rows.{department_row, department_columns_as}
use Rattle.vault_audit_model.specs.Spells.{AreSoundAs}
use Rattle.vault_audit_model.specs.Tables.{departments, departments_tree}
use Rattle.vault_audit_schema.specs.Places.{BeginTo}
use Rattle.vault_audit_schema.specs.Selects.{departments_select, department_terms}
use Rattle.vault_audit_schema.specs.Texts.{names_of}
use Rattle.vault_audit_rows.specs.Records.{AreRecords}
use Rattle.vault_audit_records.proofs.DamageLemmas.{no_departments}
use Rattle.vault_audit.specs.Begun.{as_begun}
use Rattle.vault_audit.specs.ShowsAll.{ShowsAll}

abbrev Shows : SchemaVersion → Schema → Type 0
Shows n s = ShowsAll s (departments_select n []) departments_tree (department_columns_as n)

pub department_shows_all : (n : SchemaVersion) (s : Schema) → ⊤ → BeginTo n s.tables table.Departments → Shows n s
unfolding understood everything
department_shows_all First s has begin = as_begun (Shows First) First s table.Departments begin (record {
  terms = department_terms First;
  scans = record { names = names_of departments; is = refl; plain = (refl, refl); unlisted = refl };
  asks = record { is = (omega (arith), refl, (refl, refl, refl, refl)); unlisted = refl };
  alike = λ rows. refl;
})
department_shows_all Second s has begin = as_begun (Shows Second) Second s table.Departments begin (record {
  terms = department_terms Second;
  scans = record { names = names_of departments; is = refl; plain = (refl, refl); unlisted = refl };
  asks = record { is = (omega (arith), refl, (refl, refl, refl, refl)); unlisted = refl };
  alike = λ rows. refl;
})
department_shows_all Third s has begin = as_begun (Shows Third) Third s table.Departments begin (record {
  terms = department_terms Third;
  scans = record { names = names_of departments; is = refl; plain = (refl, refl); unlisted = refl };
  asks = record { is = (omega (arith), refl, (refl, refl, refl, refl)); unlisted = refl };
  alike = λ rows. refl;
})
department_shows_all Fourth s has begin = as_begun (Shows Fourth) Fourth s table.Departments begin (record {
  terms = department_terms Fourth;
  scans = record { names = names_of departments; is = refl; plain = (refl, refl); unlisted = refl };
  asks = record { is = (omega (arith), refl, (refl, refl, refl, refl)); unlisted = refl };
  alike = λ rows. refl;
})

pub department_unsound : (n : SchemaVersion) (db : Database) (v : Vault) → ⊤ → AreRecords department_row IsDepartmentRow (map (department_columns_as n) (db.trees departments_tree)) false → ¬ AreSoundAs n db v
department_unsound n db v has none = no_departments n db v none
