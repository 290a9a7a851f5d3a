-- The vault that the passes find.
use Rattle.std.proofs.Common.{◌≡◌, ℕ, List, length, map, IsSome, Some, refl, sym, subst, ◌∙◌, arith, Bool}
use Rattle.std.specs.List.{AllByRecursion}
use Rattle.std.proofs.lemmas.List.{length-map}
use Rattle.std.proofs.lemmas.List.Sorted.{IsPermutation-sym, IsPermutation-trans, length_permutation}
use Rattle.sqlite_trees.proofs.ListLemmas.{all-permutation, all-map, all_from_map}
use Rattle.sqlite_value.specs.Order.{Row}
use Rattle.sqlite.specs.Effect.{Database}
use Rattle.vault_core_model.specs.declared.records.Entry.{Entry}
use Rattle.vault_core_model.specs.declared.records.History.{History}
use Rattle.vault_core_model.specs.Vault.{Vault, config_in}
use Rattle.vault_audit_model.specs.declared.schema.SchemaVersion.{SchemaVersion}
use Rattle.vault_audit_model.specs.declared.rows.MetaRow.{MetaRow}
use Rattle.vault_audit_model.specs.Relations.{AreEntries, IsPast}
use Rattle.vault_audit_model.specs.Rows.{entry_row, entry_columns}
use Rattle.vault_audit_model.specs.Spells.{AreSoundAs, entries_in}
use Rattle.vault_audit_model.specs.Tables.{schema_of, entries_tree}
use Rattle.vault_audit_model.proofs.SameRows.{same_entry}
use Rattle.vault_audit_records.specs.Entries.{IsEntryBy}
use Rattle.vault_audit_records.specs.Meta.{IsMetaOf}
use Rattle.vault_audit_laws.specs.Ties.{AreTied}
use Rattle.vault_audit_laws.proofs.RecordTies.{entries_placed}
use Rattle.vault_audit_laws.specs.Parts.{versions_at}
use Rattle.vault_audit_laws.proofs.JoinLemmas.{joined_entries}
use Rattle.vault_audit.specs.Found.{AreFound, found_vault}
use Rattle.vault_audit.proofs.FoundLemmas.{found_spelled, found_sums}
use Rattle.vault_audit.specs.Looks.{ArePast}
use Rattle.vault_audit.specs.Whole.{AllFound}
use Rattle.vault_audit_model.proofs.ListLemmas.{all_as}
use Rattle.vault_audit_model.specs.SchemaVersions.{is_external}

-- the row holds an entry that is past
abbrev ReportsPast : ℕ → Row → Type 0
ReportsPast last row = (e : Entry) × (row ≡ entry_row e) × IsPast last e

-- other entries of the same rows are past, too
past_too : (external : Bool) (db : Database) (last : ℕ) (es : List Entry) → ArePast external db last → AreEntries external db es → AllByRecursion (IsPast last) es
past_too external db last es past are =
    let xs = past.0 in
    let stated = all-map (ReportsPast last) entry_row xs (all_as {P = IsEntryBy external last} {Q = λ e. ReportsPast last (entry_row e)} (λ e its. (e, refl, its.1)) xs past.2) in
    let rows = all-permutation (ReportsPast last) _ _ (IsPermutation-trans _ _ _ past.1 (IsPermutation-sym _ _ are.0)) stated in
    all_as (λ (e : Entry) (its : ReportsPast last (entry_row e)). subst (IsPast last) (sym (same_entry e its.0 its.1)) its.2) es (all_from_map (ReportsPast last) entry_row es rows)

module _ (n : SchemaVersion) (db : Database) (m : MetaRow) (schema : db.schema ≡ schema_of n) (tied : AreTied n db) (meta : IsMetaOf n db (Some m)) (past : ArePast (is_external n) db m.last) (found : AllFound n db m) where
  -- they are sound for the vault that was found
  pub sound_vault : (v : Vault) × AreSoundAs n db v
  sound_vault =
      let es = found.held.entries.0 in
      let are = found.held.entries.1 in
      let versions = found.held.versions es are in
      let contents = versions.contents.0 in
      let contents_are = versions.contents.1 in
      let settings = versions.settings.0 in
      let settings_are = versions.settings.1 in
      let notes = versions.notes in
      let departments = found.departments.departments in
      let callers = found.names.callers in
      let buckets = found.names.buckets in
      let since = past_too (is_external n) db m.last es past are in
      let rows = length_permutation _ _ are.0 in
      let a : length (map entry_row es) ≡ length es = simp length-map in
      let b : length (map entry_columns (db.trees entries_tree)) ≡ length (db.trees entries_tree) = simp length-map in
      let next = found.departments.next in
      let Lies : Entry → Type 0 = λ e. IsSome (config_in buckets.0 e.bucket) in
      let places = subst (AllByRecursion Lies) (sym contents_are.entries) (entries_placed n db tied buckets.0 es buckets.1.0 are.0) in
      let tenured = found.tenures meta (versions_at m buckets.0 contents) refl refl buckets.1 (subst (AreEntries (is_external n) db) (sym contents_are.entries) are) (subst (AllByRecursion (IsPast m.last)) (sym contents_are.entries) since) (all_from_map Lies (λ (h : History). h.entry) contents places) in
      let tenures = tenured.0 in
      let tenured_entries : entries_in tenures ≡ es = tenured.1.0 ∙ contents_are.entries in
      let summed = found.departments.sums (versions_at m buckets.0 tenures) buckets.1 (subst (AreEntries (is_external n) db) (sym tenured_entries) are) (subst (AllByRecursion (IsPast m.last)) (sym tenured_entries) since) tenured.1.1 in
      let all : AreFound n db m departments.0 callers.0 buckets.0 notes.0 es contents settings tenures summed.0 = record {
        schema = schema;
        tied = tied;
        meta = (meta.0, meta.1.0, meta.1.1);
        next = omega (arith, next, rows, a, b);
        departments_are = departments.1;
        callers_are = callers.1;
        buckets_are = buckets.1;
        entries_are = are;
        past = since;
        contents_are = contents_are;
        settings_are = settings_are;
        notes_are = notes.1;
        tenures_are = (tenured_entries, tenured.1.1);
        sums_are = summed.1;
      } in
      let v = found_vault n m departments.0 callers.0 buckets.0 notes.0 contents settings tenures in
      let same : entries_in v.histories ≡ es = joined_entries contents settings tenures (contents_are.entries ∙ sym settings_are.0) (sym tenured.1.0) ∙ contents_are.entries in
      let sound : AreSoundAs n db v = record {
        spells = found_spelled n db m departments.0 callers.0 buckets.0 notes.0 es contents settings tenures summed.0 all;
        numbers = found_sums n db m departments.0 callers.0 buckets.0 notes.0 es contents settings tenures summed.0 all;
        heads = found.held.heads v (subst (AreEntries (is_external n) db) (sym same) are);
      } in
      (v, sound)
