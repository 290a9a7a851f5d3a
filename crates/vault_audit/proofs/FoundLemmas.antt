-- What the looks find, put together.
use Rattle.std.proofs.Common.{◌≡◌, ℕ, List, [], ◌∷◌, map, IsPermutation, IsSome, IsTrue, refl, sym, ap, subst, ◌∙◌}
use Rattle.std.specs.List.{AllByRecursion}
use Rattle.std.proofs.lemmas.List.Sorted.{IsPermutation-map, IsPermutation-sym, IsPermutation-trans}
use Rattle.sqlite_trees.proofs.ListLemmas.{all-permutation, map-map}
use Rattle.sqlite_value.specs.declared.value.Value.TheVariants.{Text}
use Rattle.sqlite.specs.Effect.{Database}
use Rattle.vault_tally.specs.Row.{Item}
use Rattle.vault_core_model.specs.declared.records.Bucket.{Bucket}
use Rattle.vault_core_model.specs.declared.records.Caller.{Caller}
use Rattle.vault_core_model.specs.declared.records.Entry.{Entry}
use Rattle.vault_core_model.specs.declared.records.History.{History}
use Rattle.vault_core_model.specs.declared.records.Note.{Note}
use Rattle.vault_core_model.specs.Totals.{items_in}
use Rattle.vault_core_model.specs.Vault.{config_in}
use Rattle.vault_audit_model.specs.declared.schema.SchemaVersion.{SchemaVersion}
use Rattle.vault_audit_model.specs.declared.rows.DepartmentRow.{DepartmentRow}
use Rattle.vault_audit_model.specs.declared.rows.MetaRow.{MetaRow}
use Rattle.vault_audit_model.specs.Relations.{IsWithin, department_with}
use Rattle.vault_audit_model.specs.Rows.{department_row, department_columns_as}
use Rattle.vault_audit_model.specs.Spells.{SpellsAs, sums_over, department_in}
use Rattle.vault_audit_model.specs.Tables.{departments_tree}
use Rattle.vault_audit_laws.specs.Ties.{is_among}
use Rattle.vault_audit_laws.proofs.RecordTies.{callers_employed, buckets_owned, entries_placed, tenures_owned}
use Rattle.vault_audit_laws.specs.Parts.{AreParts, IsTenuredAmong, joined, versions_at}
use Rattle.vault_audit_laws.proofs.JoinLemmas.{joined_items}
use Rattle.vault_audit_laws.proofs.PartLemmas.{spelled}
use Rattle.vault_audit.specs.Found.{AreFound, names_of, found_vault, HaveSums}
use Rattle.vault_audit.proofs.NameLemmas.{name_column, names_are, same_names, by_name}
use Rattle.vault_audit.proofs.WithinLemmas.{each_within}

module _ (ed : SchemaVersion) (db : Database) (m : MetaRow) (departments : List DepartmentRow) (callers : List Caller) (buckets : List Bucket) (notes : List Note) (entries : List Entry) (contents settings tenures : List History) (summed : List (List ℕ)) (are : AreFound ed db m departments callers buckets notes entries contents settings tenures summed) where
  abbrev names : List (List ℕ)
  names = names_of departments

  names_there : IsPermutation (map (λ n. Text n) names) (name_column db)
  names_there = names_are ed db departments are.departments_are.0

  -- the departments whose sums were taken, by the names alone
  summed_there : IsPermutation (map (λ n. Text n) summed) (name_column db)
  summed_there =
      let rows = are.sums_are.0 in
      subst (λ ns. IsPermutation (map (λ n. Text n) ns) (name_column db)) named
      (names_are ed db (map (department_with tenures) summed) (subst (λ xs. IsPermutation xs (map (department_columns_as ed) (db.trees departments_tree))) (sym (map-map department_row (department_with tenures) summed)) rows))
    where
      same_each : (ns : List (List ℕ)) → names_of (map (department_with tenures) ns) ≡ ns
      same_each [] = refl
      same_each (n ∷ ns) = ap (λ xs. n ∷ xs) (same_each ns)

      named : names_of (map (department_with tenures) summed) ≡ summed
      named = same_each summed

  reordered : IsPermutation names summed
  reordered = same_names names summed (name_column db) names_there summed_there

  owned : AllByRecursion (λ (b : Bucket). IsTrue (is_among names b.config.dept)) buckets
  owned = buckets_owned ed db are.tied names buckets names_there are.buckets_are.0

  placed : AllByRecursion (λ (e : Entry). IsSome (config_in buckets e.bucket)) entries
  placed = entries_placed ed db are.tied buckets entries are.buckets_are.0 are.entries_are.0

  tenured : AllByRecursion (IsTenuredAmong names) tenures
  tenured = tenures_owned ed db are.tied names (versions_at m buckets tenures) names_there are.tenures_are.1.rows are.tenures_are.1.unmoved owned

  within : AllByRecursion (IsWithin tenures) names
  within = all-permutation (IsWithin tenures) summed names (IsPermutation-sym names summed reordered) are.sums_are.2

  parts : AreParts ed db m names callers buckets notes entries contents settings tenures
  parts = record {
    schema = are.schema;
    meta = (are.meta.0, are.meta.1, are.next, are.meta.2);
    departments_are = by_name ed db departments are.departments_are;
    callers_are = are.callers_are;
    buckets_are = are.buckets_are;
    entries_are = are.entries_are;
    contents_are = are.contents_are;
    settings_are = are.settings_are;
    notes_are = are.notes_are;
    tenures_are = are.tenures_are;
    past = are.past;
    employed = callers_employed ed db are.tied names callers names_there are.callers_are.0;
    owned = owned;
    placed = placed;
    tenured_departments = tenured;
    within = each_within tenures names tenured within;
  }

  pub found_spelled : SpellsAs ed db (found_vault ed m departments callers buckets notes contents settings tenures)
  found_spelled = spelled ed db m names callers buckets notes entries contents settings tenures parts

  same_items : (dept : List ℕ) → items_in dept tenures ≡ items_in dept (joined contents settings tenures)
  same_items dept = sym (joined_items contents settings tenures (are.contents_are.entries ∙ sym are.settings_are.0) (are.contents_are.entries ∙ sym are.tenures_are.0) dept)

  same_rows : (ns : List (List ℕ)) → map (λ n. department_row (department_with tenures n)) ns ≡ map (λ n. department_row (department_in (found_vault ed m departments callers buckets notes contents settings tenures) n)) ns
  same_rows [] = refl
  same_rows (n ∷ ns) =
      let here : department_row (department_with tenures n) ≡ department_row (department_in (found_vault ed m departments callers buckets notes contents settings tenures) n) =
      ap (λ (items : List Item). department_row (record { name = n; sums = sums_over items })) (same_items n) in
      let there = same_rows ns in cc (here, there)

  pub found_sums : HaveSums ed db (found_vault ed m departments callers buckets notes contents settings tenures)
  found_sums =
      let rows = IsPermutation-map (λ n. department_row (department_with tenures n)) names summed reordered in
      subst (λ xs. IsPermutation xs (map (department_columns_as ed) (db.trees departments_tree))) (same_rows names) (IsPermutation-trans _ _ _ rows are.sums_are.0)
