-- Whether the versions are the entries with settings, as stated by the rows that stand beside each other.
use Rattle.std.proofs.Common.{◌≡◌, ◌==◌, ℕ, List, Bool, true, false, refl, sym, ◌∙◌}
use Rattle.std.specs.List.{AllByRecursion, list_any}
use Rattle.sqlite_value.specs.Order.{Row, column}
use Rattle.sqlite_sql.specs.Term.{col}
use Rattle.sqlite.specs.Effect.{Database}
use Rattle.sqlite.specs.State.{State, IsUnchanged}
use Rattle.vault_core_model.specs.declared.records.Entry.{Entry}
use Rattle.vault_audit_model.specs.declared.rows.SettingRow.{SettingRow}
use Rattle.vault_audit_model.specs.Relations.{AreEntries}
use Rattle.vault_audit_model.specs.Rows.{entry_row, entry_columns, setting_row, setting_columns}
use Rattle.vault_audit_model.specs.Tables.{schema_of, entries_tree, settings_tree}
use Rattle.vault_audit_model.specs.Values.{number}
use Rattle.vault_audit_rows.specs.Records.{Checked}
use Rattle.vault_audit_rows.specs.Beside.{ReportsAbsence}
use Rattle.vault_audit_model.proofs.ValueLemmas.{agrees}
use Rattle.vault_audit_rows.proofs.BesideLemmas.{agree_numbers, beside_row, beside_yes, beside_no, met_yes, met_no, met_as, of_records, of_stored}
use Rattle.vault_audit_entries.specs.SettingPlaces.{AreRowsOf, IsSetAs, DecidesPresence}
use Rattle.vault_audit_entries.proofs.SettingTextLemmas.{settings_beside, settings_beside_is}
use Rattle.vault_audit_model.specs.declared.schema.SchemaVersion.{SchemaVersion}
use Rattle.vault_audit_model.proofs.ListLemmas.{all_as}

-- ---- each entry beside its settings

module _ (external : Bool) (db : Database) (es : List Entry) (are : AreEntries external db es) (xs : List SettingRow) (rows : AreRowsOf db xs) where
  abbrev Settings : List Row
  Settings = db.trees settings_tree

  -- what stands beside a row, by its columns alone
  abbrev Besides : Row → Type 0
  Besides row = AllByRecursion ReportsAbsence (beside_row (col 1 3) 1 0 Settings row)

  has : (i : ℕ) → list_any (λ s. agrees (column s 1) (number i)) Settings ≡ list_any (λ x. x.id == i) xs
  has i = met_as setting_row setting_columns (number i) (λ x. x.id == i) (λ x. agree_numbers x.id i) xs Settings rows

  set_yes : AllByRecursion (λ r. AllByRecursion ReportsAbsence (beside_row (col 1 4) 1 0 Settings r)) (db.trees entries_tree) → AllByRecursion (IsSetAs xs) es
  set_yes all =
      all_as (λ e stated. sym (has e.id) ∙ met_yes (col 1 3) 1 0 (entry_row e) e.marker (λ s. refl) Settings stated) es (of_records entry_row entry_columns Besides es (db.trees entries_tree) are.0 all)

  set_no : AllByRecursion (IsSetAs xs) es → AllByRecursion (λ r. AllByRecursion ReportsAbsence (beside_row (col 1 4) 1 0 Settings r)) (db.trees entries_tree)
  set_no all =
      of_stored entry_row entry_columns Besides es (db.trees entries_tree) are.0 (all_as (λ e stated. met_no (col 1 3) 1 0 (entry_row e) e.marker (λ s. refl) Settings (has e.id ∙ stated)) es all)

module _ (n : SchemaVersion) (old new : State) (has : old.now.schema ≡ schema_of n) (same : IsUnchanged old new) where
  pub presence : (external : Bool) (b : Bool) → Checked ReportsAbsence settings_beside old new b → DecidesPresence external new.now b
  presence external true h es are xs rows = set_yes external new.now es are xs rows (beside_yes (settings_beside_is n) (λ trees. (refl, refl)) ReportsAbsence old new has same h)
  presence external false h es are xs rows = λ all. beside_no (settings_beside_is n) (λ trees. (refl, refl)) ReportsAbsence old new has same h (set_no external new.now es are xs rows all)
