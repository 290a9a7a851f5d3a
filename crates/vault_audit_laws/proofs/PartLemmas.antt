-- The vault of the parts is sound, in its limits, and spelled by the rows.
use Rattle.std.proofs.Common.{◌≡◌, ℕ, ◌+◌, ◌≤◌, ◌==◌, List, [], ◌∷◌, length, map, find, sum_by, Bool, true, false, Some, None, Option, IsSome, IsTrue, IfSome, IsPermutation, refl, sym, ap, subst, ◌∙◌, arith}
use Rattle.std.specs.List.{AllByRecursion}
use Rattle.std.proofs.lemmas.List.{length-map}
use Rattle.sqlite_trees.proofs.ListLemmas.{map-map}
use Rattle.sqlite.specs.Effect.{Database}
use Rattle.vault_base.specs.Limits.{most_ids}
use Rattle.vault_base.specs.Name.{is_version_id}
use Rattle.vault_lock.specs.declared.retention.Default.{Default}
use Rattle.vault_lock.specs.Retention.{is_period}
use Rattle.vault_rules.specs.Rules.{is_rule_set, passes_if_given}
use Rattle.vault_rules.specs.declared.rule.Rule.{Rule}
use Rattle.vault_tally.specs.Row.{Item, admitted_size, received_size, quota}
use Rattle.vault_base.specs.declared.content.Content.{Content}
use Rattle.vault_core_model.specs.declared.records.Bucket.{Bucket}
use Rattle.vault_core_model.specs.declared.records.Caller.{Caller}
use Rattle.vault_core_model.specs.declared.records.Entry.{Entry}
use Rattle.vault_core_model.specs.declared.records.History.{History}
use Rattle.vault_core_model.specs.declared.records.Note.{Note}
use Rattle.vault_core_model.specs.declared.records.Setting.{Setting}
use Rattle.vault_core_model.specs.declared.records.Tenure.{Tenure}
use Rattle.vault_core_model.specs.Checks.{has_period}
use Rattle.vault_core_model.specs.IntakeOutcome.{is_line}
use Rattle.vault_core_model.specs.Sound.{Sound, AreIdsFrom, AreInOrder, IsInTime, IsWhole, IsWholeAs, IsPlaced, IsNoted, NamesItsVersion, IsInNameOrder, LiesBetween}
use Rattle.vault_core_model.specs.Totals.{items_in}
use Rattle.vault_core_model.specs.Vault.{next_id, Vault, config_in}
use Rattle.vault_audit_model.specs.declared.schema.SchemaVersion.{SchemaVersion}
use Rattle.vault_audit_model.specs.SchemaVersions.{is_external}
use Rattle.vault_audit_model.specs.declared.rows.MetaRow.{MetaRow}
use Rattle.vault_audit_model.specs.Limits.{IsInLimits, IsHistory, IsEntry, IsSizedAs, IsBucket, AreRules, IsNote}
use Rattle.vault_audit_model.specs.Relations.{AreNumbered, IsPast, HasContent, HasContentAs, HasSettings, HasSettingsAs, NamesOneOf}
use Rattle.vault_audit_model.specs.Rows.{meta_row, meta_columns_as, entry_row, entry_columns, content_row, content_columns, setting_row, setting_columns}
use Rattle.vault_audit_model.specs.Spells.{SpellsAs, meta_stated, entries_in, tenure_rows_in, external_rows_in}
use Rattle.vault_audit_model.specs.Tables.{meta_tree, entries_tree, contents_tree, settings_tree}
use Rattle.vault_audit_model.proofs.ListLemmas.{all_as, all_both}
use Rattle.vault_audit_laws.specs.Parts.{AreParts, joined, vault_of}
use Rattle.vault_audit_laws.proofs.JoinLemmas.{joined_entries, joined_contents, joined_external_rows, joined_settings, joined_items, entry_found, joined_contents_are, joined_settings_are}
use Rattle.vault_audit_laws.proofs.TenureLemmas.{joined_tenured, joined_unmoved, joined_rows}

-- ---- lists

all_of_entries : (P : Entry → Type 0) (hs : List History) → AllByRecursion P (entries_in hs) → AllByRecursion (λ (h : History). P h.entry) hs
all_of_entries P [] all = tt
all_of_entries P (h ∷ hs) all = (all.0, all_of_entries P hs all.1)

-- ---- numbered entries

entries_are_in_limits : (external : Bool) (next low : ℕ) (es : List Entry) → AreNumbered external next low es → AllByRecursion (IsEntry external) es
entries_are_in_limits external next low [] are = tt
entries_are_in_limits external next low (e ∷ es) are = (are.0.0, entries_are_in_limits external (next + 1) e.admitted es are.1)

ids_from : (external : Bool) (next low : ℕ) (hs : List History) → AreNumbered external next low (entries_in hs) → AreIdsFrom next hs
ids_from external next low [] are = tt
ids_from external next low (h ∷ hs) are = (are.0.1.0, ids_from external (next + 1) h.entry.admitted hs are.1)

in_order : (external : Bool) (next low last : ℕ) (hs : List History) → low ≤ last → AreNumbered external next low (entries_in hs) → AllByRecursion (IsPast last) (entries_in hs) → AreInOrder low last hs
in_order external next low last [] below are past = below
in_order external next low last (h ∷ hs) below are past = (are.0.1.1, in_order external (next + 1) h.entry.admitted last hs past.0.0 are.1 past.1)

few_ids : (id : ℕ) → IsTrue (is_version_id id) → id ≤ most_ids
few_ids id is = grind (arith, is)

pub few_entries : (external : Bool) (next low : ℕ) (es : List Entry) → next ≤ most_ids + 1 → AreNumbered external next low es → next + length es ≤ most_ids + 1
few_entries external next low [] most are = omega (arith, most)
few_entries external next low (e ∷ es) most are =
    let same = are.0.1.0 in let here = few_ids e.id are.0.0.id in
    let there = few_entries external (next + 1) e.admitted es (omega (arith, same, here)) are.1 in omega (arith, there)

-- ---- whole histories

whole_as : (marker external : Bool) (e : Entry) (content : Option Content) (settings : List Setting) (tenures : List Tenure) → IsSizedAs marker external e.size e.digest → HasContentAs marker external (record { entry = e; content = content; settings = settings; tenures = tenures }) → HasSettingsAs marker (record { entry = e; content = content; settings = settings; tenures = tenures }) → IsWholeAs marker external e content settings
whole_as true external e content settings tenures is has sets = (is.0, is.1, has, sets)
whole_as false external e content settings tenures is has sets = (has.0, has.1, sets.0, sets.1)

whole : (external : Bool) (h : History) → (IsEntry external h.entry × HasContent external h) × HasSettings h → IsWhole external h
whole external h ((is, has), sets) = whole_as h.entry.marker external h.entry h.content h.settings h.tenures is.sized has sets.0

limited : (external : Bool) (h : History) → (IsEntry external h.entry × HasContent external h) × HasSettings h → IsHistory external h
limited external h ((is, has), sets) = record { entry = is; settings = sets.1 }

-- ---- buckets and notes

period : (default : Option Default) → IfSome default (λ d. IsTrue (is_period d.period)) → IsTrue (has_period default)
period None is = refl
period (Some d) is = is

rule_set : (rules : Option (List Rule)) → IfSome rules AreRules → IsTrue (passes_if_given is_rule_set rules)
rule_set None is = refl
rule_set (Some rules) is = is.0

line : (n : ℕ) → (1 ≤ n) × (n ≤ 4294967295) → IsTrue (is_line n)
line n (low, high) = grind (arith, low, high)

-- ---- the vault

module _ (ed : SchemaVersion) (db : Database) (m : MetaRow) (departments : List (List ℕ)) (callers : List Caller) (buckets : List Bucket) (notes : List Note) (entries : List Entry) (contents settings tenures : List History) (are : AreParts ed db m departments callers buckets notes entries contents settings tenures) where
  abbrev hs : List History
  hs = joined contents settings tenures

  abbrev v : Vault
  v = vault_of ed m departments callers buckets notes contents settings tenures

  same_entries : entries_in contents ≡ entries_in settings
  same_entries = are.contents_are.entries ∙ sym are.settings_are.0

  tenured_entries : entries_in contents ≡ entries_in tenures
  tenured_entries = are.contents_are.entries ∙ sym are.tenures_are.0

  hs_entries : entries_in hs ≡ entries
  hs_entries = joined_entries contents settings tenures same_entries tenured_entries ∙ are.contents_are.entries

  abbrev external : Bool
  external = is_external ed

  numbered : AreNumbered external 1 0 (entries_in hs)
  numbered = subst (AreNumbered external 1 0) (sym hs_entries) are.entries_are.1

  past : AllByRecursion (IsPast m.last) (entries_in hs)
  past = subst (AllByRecursion (IsPast m.last)) (sym hs_entries) are.past

  each : AllByRecursion (λ (h : History). (IsEntry external h.entry × HasContent external h) × HasSettings h) hs
  each =
      all_both (λ (h : History). IsEntry external h.entry × HasContent external h) HasSettings hs
      (all_both (λ (h : History). IsEntry external h.entry) (HasContent external) hs (all_of_entries (IsEntry external) hs (entries_are_in_limits external 1 0 (entries_in hs) numbered)) (joined_contents_are contents settings tenures same_entries tenured_entries external are.contents_are.each))
      (joined_settings_are contents settings tenures same_entries tenured_entries are.settings_are.2)

  within : (dept : List ℕ) → sum_by admitted_size (items_in dept hs) + sum_by received_size (items_in dept hs) ≤ quota
  within dept =
      subst (λ (is : List Item). sum_by admitted_size is + sum_by received_size is ≤ quota) (sym (joined_items contents settings tenures same_entries tenured_entries dept)) (are.within dept)

  many : length hs ≡ length entries
  many =
      let a : length (entries_in hs) ≡ length hs = simp length-map in
      sym a ∙ ap length hs_entries

  enough : length hs ≤ most_ids
  enough =
      let a : length (entries_in hs) ≡ length hs = simp length-map in
      let b = few_entries external 1 0 (entries_in hs) (omega arith) numbered in omega (arith, a, b)

  times : AllByRecursion (IsInTime m.last) hs
  times = all_of_entries (λ e. LiesBetween e.admitted m.last e.removal) hs (all_as (λ (e : Entry) (is : IsPast m.last e). is.1) (entries_in hs) past)

  places : AllByRecursion (IsPlaced v) hs
  places = all_of_entries (λ e. IsSome (config_in buckets e.bucket)) hs (subst (AllByRecursion (λ (e : Entry). IsSome (config_in buckets e.bucket))) (sym hs_entries) are.placed)

  named : (n : Note) → NamesOneOf entries n → NamesItsVersion v n
  named n is =
      let same = entry_found n.id hs ∙ ap (find (λ (e : Entry). e.id == n.id)) hs_entries in
      subst (IsNoted n) (sym same) is

  names : IsInNameOrder v
  names = record { departments = are.departments_are.1; callers = are.callers_are.1; buckets = are.buckets_are.2; notes = are.notes_are.1 }

  sound : Sound v
  sound = record {
    ids = ids_from external 1 0 hs numbered;
    enough_ids = enough;
    order = in_order external 1 0 m.last hs (omega arith) numbered past;
    in_time = times;
    whole = all_as (whole external) hs each;
    placed = places;
    within = within;
    tenured = joined_tenured m v contents settings tenures same_entries tenured_entries are.tenures_are.1.tenured are.tenured_departments;
    enough_moves = are.meta.1.moves;
    ordered = names;
    employed = are.employed;
    owned = are.owned;
    periods = all_as (λ (b : Bucket) (is : IsBucket b). period b.config.default is.config.default) buckets are.buckets_are.3;
    rule_sets = all_as (λ (b : Bucket) (is : IsBucket b). rule_set b.rules is.rules) buckets are.buckets_are.3;
    lines = all_as (λ (n : Note) (is : IsNote external n). line n.line is.line) notes are.notes_are.2;
    notes = all_as named notes are.notes_are.3;
  }

  limits : IsInLimits v
  limits = record {
    last = are.meta.1.last;
    departments = are.departments_are.2;
    callers = are.callers_are.2;
    buckets = are.buckets_are.3;
    notes = are.notes_are.2;
    histories = all_as (limited external) hs each;
  }

  meta_same : meta_row m ≡ meta_row (meta_stated ed v)
  meta_same =
      ap (λ n. meta_row (record { schema = m.schema; last = m.last; next = n; moves = m.moves })) (are.meta.2 ∙ ap (λ n. n + 1) (sym many))
      ∙ ap (λ n. meta_row (record { schema = n; last = m.last; next = next_id v; moves = m.moves })) are.meta.3

  entry_rows : IsPermutation (map (λ (h : History). entry_row h.entry) hs) (map entry_columns (db.trees entries_tree))
  entry_rows =
      subst (λ rows. IsPermutation rows (map entry_columns (db.trees entries_tree))) (sym (ap (map entry_row) hs_entries) ∙ map-map entry_row (λ (h : History). h.entry) hs) are.entries_are.0

  pub spelled : SpellsAs ed db v
  spelled = record {
    schema = are.schema;
    meta = subst (λ r. IsPermutation (r ∷ []) (map (meta_columns_as ed) (db.trees meta_tree))) meta_same are.meta.0;
    departments = are.departments_are.0;
    callers = are.callers_are.0;
    buckets = are.buckets_are.0;
    rules = are.buckets_are.1;
    entries = entry_rows;
    contents = subst (λ rows. IsPermutation (map content_row rows) (map content_columns (db.trees contents_tree))) (sym (joined_contents contents settings tenures same_entries tenured_entries)) are.contents_are.contents;
    settings = subst (λ rows. IsPermutation (map setting_row rows) (map setting_columns (db.trees settings_tree))) (sym (joined_settings contents settings tenures same_entries tenured_entries)) are.settings_are.1;
    intake = are.notes_are.0;
    tenures = subst (λ rows. IsPermutation rows (tenure_rows_in ed db)) (joined_rows m v contents settings tenures same_entries tenured_entries ed) are.tenures_are.1.rows;
    external = subst (λ rows. IsPermutation rows (external_rows_in ed db)) (sym (joined_external_rows ed contents settings tenures same_entries tenured_entries)) are.contents_are.external;
    kept = record { external = refl; limits = limits; sound = sound; unmoved = joined_unmoved m v contents settings tenures same_entries tenured_entries ed are.tenures_are.1.unmoved };
  }
