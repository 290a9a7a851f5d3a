-- Each setting has an entry, as the store keeps the references of its tables.
use Rattle.std.specs.List.{AllByRecursion}
use Rattle.std.specs.Ordering.{is_eq}
use Rattle.std.proofs.Common.{◌≡◌, ◌⊎◌, ◌==◌, inl, inr, ℕ, List, map, true, Some, Less, Equal, sym, ap, subst, ◌∙◌, arith, Bool}
use Rattle.sqlite_trees.proofs.ListLemmas.{all_from_map}
use Rattle.sqlite_rules.specs.Lists.{Has}
use Rattle.sqlite_rules.proofs.ListLemmas.{some_from}
use Rattle.sqlite_rules.proofs.ProbeLemmas.{has_mapped}
use Rattle.sqlite_value.specs.declared.value.Value.{Value}
use Rattle.sqlite_value.specs.declared.value.Value.TheVariants.{Null, Int, Real, Text, Blob}
use Rattle.sqlite_value.specs.Order.{Row, column, value_cmp}
use Rattle.sqlite_value.proofs.OrderLemmas.{value_cmp-apart}
use Rattle.sqlite_sql.specs.Ops.{binary, is_true, from_truth}
use Rattle.sqlite.specs.Effect.{Database}
use Rattle.vault_core_model.specs.declared.records.Entry.{Entry}
use Rattle.vault_audit_model.specs.declared.rows.SettingRow.{SettingRow}
use Rattle.vault_audit_model.specs.declared.schema.SchemaVersion.{SchemaVersion}
use Rattle.vault_audit_model.specs.Relations.{AreEntries}
use Rattle.vault_audit_model.specs.Rows.{entry_row, entry_columns, setting_row, setting_columns}
use Rattle.vault_audit_model.specs.Tables.{entries_tree, settings_tree}
use Rattle.vault_audit_model.specs.Values.{number}
use Rattle.vault_audit_model.proofs.ValueLemmas.{agrees}
use Rattle.vault_audit_laws.specs.Ties.{AreTied}
use Rattle.vault_audit_rows.proofs.BesideLemmas.{agree_numbers, met_as, of_records}
use Rattle.vault_audit_entries.specs.SettingPlaces.{AreRowsOf, IsOfOne, HaveOwners}
use Rattle.vault_audit_model.proofs.ListLemmas.{all_as}

-- what ties with a number agrees with it
tied_agrees : (u : Value) (n : ℕ) → value_cmp u (number n) ≡ Equal → agrees u (number n) ≡ true
unfolding binary
tied_agrees Null n tie = let e : Less ≡ Equal = sym (value_cmp-apart Null (number n) (λ same. absurd (omega (arith, same)))) ∙ tie in absurd (cc e)
tied_agrees (Int m) n tie = ap (λ o. is_true (from_truth (Some (is_eq o)))) tie
tied_agrees (Real x) n tie = ap (λ o. is_true (from_truth (Some (is_eq o)))) tie
tied_agrees (Text t) n tie = ap (λ o. is_true (from_truth (Some (is_eq o)))) tie
tied_agrees (Blob b) n tie = ap (λ o. is_true (from_truth (Some (is_eq o)))) tie

module _ (n : SchemaVersion) (external : Bool) (db : Database) (tied : AreTied n db) (es : List Entry) (are : AreEntries external db es) (xs : List SettingRow) (rows : AreRowsOf db xs) where
  abbrev Entries : List Row
  Entries = db.trees entries_tree

  -- the value is that of one of the entries
  abbrev IsTied : Value → Type 0
  IsTied v = (v ≡ Null) ⊎ ((p : Value) × Has (map (λ r. column r 0) Entries) p × (value_cmp p v ≡ Equal))

  abbrev IsTiedRow : Row → Type 0
  IsTiedRow row = IsTied (column row 0)

  owner : (x : SettingRow) → IsTied (number x.id) → IsOfOne es x
  owner x (inl none) = absurd (cc none)
  owner x (inr (p, there, tie)) =
      let e = has_mapped (λ r. column r 0) Entries p there in
      let agree = tied_agrees (column e.0 0) x.id (subst (λ v. value_cmp v (number x.id) ≡ Equal) e.2 tie) in
      sym (met_as entry_row entry_columns (number x.id) (λ y. y.id == x.id) (λ y. agree_numbers y.id x.id) es Entries are.0)
      ∙ some_from (λ s. agrees (column s 0) (number x.id)) Entries e.0 e.1 agree

  owned : AllByRecursion (IsOfOne es) xs
  owned =
      let stored : AllByRecursion (λ r. IsTiedRow (setting_columns r)) (db.trees settings_tree) = all_from_map IsTied (λ r. column r 1) (db.trees settings_tree) tied.entries_of_settings in
      all_as owner xs (of_records setting_row setting_columns IsTiedRow xs (db.trees settings_tree) rows stored)

pub have_owners : (n : SchemaVersion) (external : Bool) (db : Database) → AreTied n db → HaveOwners external db
have_owners n external db tied = owned n external db tied
