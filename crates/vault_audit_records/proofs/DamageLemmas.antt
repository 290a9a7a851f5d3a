-- Tables of which one look finds a fault are sound for no vault.
use Rattle.std.proofs.Common.{◌≡◌, ℕ, ◌≤◌, List, [], ◌∷◌, length, map, filter, flat_map, Bool, false, Some, None, Ok, Err, Result, IfOk, IsPermutation, refl, sym, subst, arith}
use Rattle.std.specs.List.{AllByRecursion}
use Rattle.std.proofs.lemmas.List.{length-map}
use Rattle.std.proofs.lemmas.List.Sorted.{IsPermutation-sym, IsPermutation-trans, length_permutation}
use Rattle.sqlite_trees.proofs.ListLemmas.{map-map}
use Rattle.sqlite.specs.Effect.{Database}
use Rattle.sqlite.specs.declared.error.Error.{Error}
use Rattle.vault_core_model.specs.Sound.{AreInOrder, IsInTime}
use Rattle.vault_core_model.specs.Places.{is_current}
use Rattle.vault_core_model.specs.Vault.{Vault, next_id}
use Rattle.vault_core_model.specs.declared.records.Bucket.{Bucket}
use Rattle.vault_core_model.specs.declared.records.Entry.{Entry}
use Rattle.vault_core_model.specs.declared.records.History.{History}
use Rattle.vault_audit_model.specs.Limits.{IsCaller, IsBucket, IsHistory, IsNote, IsDepartmentRow, IsBucketRow, IsRuleRow, IsContentRow, IsSettingRow, IsHeadRow, IsTenureRow, IsExternalRow}
use Rattle.vault_audit_model.specs.declared.rows.TenureRow.{TenureRow}
use Rattle.vault_audit_model.specs.declared.schema.SchemaVersion.{SchemaVersion}
use Rattle.vault_audit_model.specs.declared.schema.SchemaVersion.TheVariants.{First, Second, Third, Fourth}
use Rattle.vault_audit_model.specs.SchemaVersions.{is_external}
use Rattle.vault_audit_model.specs.Rows.{department_row, caller_row, bucket_row, rule_row, entry_row, content_row, setting_row, note_row, head_row, tenure_row, external_row, department_columns_as, caller_columns, bucket_columns, rule_columns_as, entry_columns, content_columns, setting_columns, note_columns, head_columns}
use Rattle.vault_audit_model.specs.Spells.{AreSoundAs, meta_stated, bucket_of, rules_in, contents_in, settings_in, IsKeptAs, tenures_in, tenure_rows_of, tenure_rows_in, external_in, external_rows_of, external_rows_in, department_in, head_in, heads_in}
use Rattle.vault_audit_model.specs.Tables.{departments_tree, callers_tree, buckets_tree, rules_tree, entries_tree, contents_tree, settings_tree, intake_tree, heads_tree}
use Rattle.vault_audit_rows.specs.Records.{AreRecords}
use Rattle.vault_audit_records.specs.Entries.{IsEntryBy}
use Rattle.vault_audit_records.specs.Meta.{IsMetaOf}
use Rattle.vault_audit_model.specs.Relations.{AreNumbered}
use Rattle.vault_audit_model.proofs.ListLemmas.{all_as, all_both}
use Rattle.vault_audit_records.specs.EntriesByNumber.{AreEntriesUpTo}
use Rattle.vault_audit_rows.proofs.LimitLemmas.{all_filtered, all_mapped, all_flat, rules_limited, contents_limited, settings_limited, tenures_limited, external_limited, numbers_of}

-- ---- the answer of a look

pub refused_if_ok : (Rec : Bool → Type 0) (P : Type 0) → (Rec false → P) → (r : Result Bool Error) → IfOk r Rec → IfOk r (λ stated. stated ≡ false → P)
refused_if_ok Rec P f (Ok b) h = λ e. f (subst Rec e h)
refused_if_ok Rec P f (Err x) h = tt

-- ---- what the records of a vault are

-- the rows of tenures state tenures in their limits, and where a schema version has no such rows, none
stated_tenures : (n : SchemaVersion) (v : Vault) → IsKeptAs n v → (xs : List TenureRow) × (map tenure_row xs ≡ tenure_rows_of n v) × AllByRecursion IsTenureRow xs
stated_tenures First v kept = ([], refl, tt)
stated_tenures Second v kept = ([], refl, tt)
stated_tenures Third v kept = (flat_map tenures_in v.histories, refl, all_flat IsTenureRow tenures_in v.histories (tenures_limited v kept))
stated_tenures Fourth v kept = (flat_map tenures_in v.histories, refl, all_flat IsTenureRow tenures_in v.histories (tenures_limited v kept))

-- the same of external
stated_external : (n : SchemaVersion) (v : Vault) → IsKeptAs n v → (xs : List ℕ) × (map external_row xs ≡ external_rows_of n v.histories) × AllByRecursion IsExternalRow xs
stated_external First v kept = ([], refl, tt)
stated_external Second v kept = ([], refl, tt)
stated_external Third v kept = ([], refl, tt)
stated_external Fourth v kept = (flat_map external_in v.histories, refl, external_limited v kept)

by_last : (from last : ℕ) (hs : List History) → AreInOrder from last hs → (from ≤ last) × AllByRecursion (λ h. h.entry.admitted ≤ last) hs
by_last from last [] order = (order, tt)
by_last from last (h ∷ hs) order =
    let more = by_last h.entry.admitted last hs order.1 in
    (let here = order.0 in let there = more.0 in omega (arith, here, there), (more.0, more.1))

-- ---- tables

module _ (n : SchemaVersion) (db : Database) (v : Vault) where
  abbrev external : Bool
  external = is_external n

  -- the values of the vault are in the limits that the schema version has
  histories_limited : AreSoundAs n db v → AllByRecursion (IsHistory external) v.histories
  histories_limited it = subst (λ b. AllByRecursion (IsHistory b) v.histories) it.spells.kept.external it.spells.kept.limits.histories

  abbrev entries_are : List Entry
  entries_are = map (λ h. h.entry) v.histories

  as_entries : AreSoundAs n db v → IsPermutation (map entry_row entries_are) (map entry_columns (db.trees entries_tree))
  as_entries it = subst (λ rows. IsPermutation rows (map entry_columns (db.trees entries_tree))) (sym (map-map entry_row (λ h. h.entry) v.histories)) it.spells.entries

  pub no_meta : IsMetaOf n db None → ¬ AreSoundAs n db v
  no_meta none it = none (meta_stated n v) it.spells.meta (record { last = it.spells.kept.limits.last; moves = it.spells.kept.sound.enough_moves }, refl)

  pub no_departments : AreRecords department_row IsDepartmentRow (map (department_columns_as n) (db.trees departments_tree)) false → ¬ AreSoundAs n db v
  no_departments none it =
      none (map (department_in v) v.departments) (subst (λ rows. IsPermutation rows (map (department_columns_as n) (db.trees departments_tree))) (sym (map-map department_row (department_in v) v.departments)) it.numbers)
      (all_mapped IsDepartmentRow (department_in v) v.departments it.spells.kept.limits.departments)

  pub no_callers : AreRecords caller_row IsCaller (map caller_columns (db.trees callers_tree)) false → ¬ AreSoundAs n db v
  no_callers none it = none v.callers it.spells.callers it.spells.kept.limits.callers

  pub no_buckets : AreRecords bucket_row IsBucketRow (map bucket_columns (db.trees buckets_tree)) false → ¬ AreSoundAs n db v
  no_buckets none it =
      none (map bucket_of v.buckets) (subst (λ rows. IsPermutation rows (map bucket_columns (db.trees buckets_tree))) (sym (map-map bucket_row bucket_of v.buckets)) it.spells.buckets)
      (all_mapped IsBucketRow bucket_of v.buckets (all_as (λ (b : Bucket) (is : IsBucket b). record { name = is.name; config = is.config }) v.buckets it.spells.kept.limits.buckets))

  pub no_rules : AreRecords rule_row IsRuleRow (map (rule_columns_as n) (db.trees rules_tree)) false → ¬ AreSoundAs n db v
  no_rules none it = none (flat_map rules_in v.buckets) it.spells.rules (all_flat IsRuleRow rules_in v.buckets (rules_limited v it.spells.kept))

  pub no_entries : (last : ℕ) → AreRecords entry_row (IsEntryBy external last) (map entry_columns (db.trees entries_tree)) false → v.last ≡ last → ¬ AreSoundAs n db v
  no_entries last none same it =
      let past = (by_last 0 v.last v.histories it.spells.kept.sound.order).1 in
      let all = all_both (IsHistory external) (λ (h : History). (h.entry.admitted ≤ v.last) × IsInTime v.last h) v.histories (histories_limited it) (all_both (λ (h : History). h.entry.admitted ≤ v.last) (IsInTime v.last) v.histories past it.spells.kept.sound.in_time) in
      let each : AllByRecursion (λ (h : History). IsEntryBy external v.last h.entry) v.histories = all_as (λ (h : History) (is : IsHistory external h × ((h.entry.admitted ≤ v.last) × IsInTime v.last h)). (is.0.entry, is.1)) v.histories all in
      none entries_are (as_entries it) (subst (λ l. AllByRecursion (IsEntryBy external l) entries_are) same (all_mapped (IsEntryBy external v.last) (λ h. h.entry) v.histories each))

  pub no_contents : AreRecords content_row IsContentRow (map content_columns (db.trees contents_tree)) false → ¬ AreSoundAs n db v
  no_contents none it = none (flat_map contents_in v.histories) it.spells.contents (contents_limited v it.spells.kept)

  pub no_settings : AreRecords setting_row IsSettingRow (map setting_columns (db.trees settings_tree)) false → ¬ AreSoundAs n db v
  no_settings none it = none (flat_map settings_in v.histories) it.spells.settings (all_flat IsSettingRow settings_in v.histories (settings_limited v it.spells.kept))

  pub no_intake : AreRecords note_row (IsNote external) (map note_columns (db.trees intake_tree)) false → ¬ AreSoundAs n db v
  no_intake none it = none v.notes it.spells.intake (subst (λ b. AllByRecursion (IsNote b) v.notes) it.spells.kept.external it.spells.kept.limits.notes)

  pub no_heads : AreRecords head_row IsHeadRow (map head_columns (db.trees heads_tree)) false → ¬ AreSoundAs n db v
  no_heads none it =
      let held = all_filtered (IsHistory external) (is_current v) v.histories (histories_limited it) in
      let each : AllByRecursion (λ (h : History). IsHeadRow (head_in v h)) (filter (is_current v) v.histories) = all_as (λ (h : History) (is : IsHistory external h). record { bucket = is.entry.bucket; key = is.entry.key; newest = is.entry.id }) (filter (is_current v) v.histories) held in
      none (heads_in v) it.heads (all_mapped IsHeadRow (head_in v) (filter (is_current v) v.histories) each)

  pub no_tenures : AreRecords tenure_row IsTenureRow (tenure_rows_in n db) false → ¬ AreSoundAs n db v
  no_tenures none it =
      let stated = stated_tenures n v it.spells.kept in
      none stated.0 (subst (λ rows. IsPermutation rows (tenure_rows_in n db)) (sym stated.1) it.spells.tenures) stated.2

  pub no_external : AreRecords external_row IsExternalRow (external_rows_in n db) false → ¬ AreSoundAs n db v
  no_external none it =
      let stated = stated_external n v it.spells.kept in
      none stated.0 (subst (λ rows. IsPermutation rows (external_rows_in n db)) (sym stated.1) it.spells.external) stated.2

  numbers_are : AreSoundAs n db v → AreNumbered external 1 0 entries_are
  numbers_are it = numbers_of external 1 0 v.last v.histories it.spells.kept.sound.ids it.spells.kept.sound.order (histories_limited it)

  pub no_numbers : AreEntriesUpTo external db None → ¬ AreSoundAs n db v
  no_numbers none it = none entries_are (as_entries it) (numbers_are it)

  pub next_of : (next : ℕ) → AreEntriesUpTo external db (Some next) → AreSoundAs n db v → next_id v ≡ next
  next_of next (es, are, numbers, count) it =
      let a = length_permutation _ _ (IsPermutation-trans _ _ _ (as_entries it) (IsPermutation-sym _ _ are)) in
      let b : length (map entry_row es) ≡ length es = simp length-map in
      let c : length (map entry_row entries_are) ≡ length entries_are = simp length-map in
      let d : length entries_are ≡ length v.histories = simp length-map in omega (arith, a, b, c, d, count)
