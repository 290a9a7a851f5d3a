-- The vault that the rows of a database spell, and when its tables are sound.
use Rattle.std.specs.Prelude.{◌≡◌, ℕ, ◌+◌, List, [], ◌∷◌, length, map, filter, flat_map, sum_by, Option, Some, None, IsPermutation}
use Rattle.sqlite_value.specs.declared.value.Value.TheVariants.{Text}
use Rattle.sqlite_value.specs.Order.{Row, column}
use Rattle.sqlite.specs.Effect.{Database}
use Rattle.vault_tally.specs.Row.{Item, admitted_size, received_size, held_size, removed_size, handed_size, weight, closed_byte_days}
use Rattle.vault_tally.specs.declared.row.Row.{Row as Sums}
use Rattle.vault_rules.specs.declared.rule.Rule.{Rule}
use Rattle.vault_base.specs.declared.content.Content.{Content}
use Rattle.vault_base.specs.declared.content.Content.TheVariants.{Inside, External}
use Rattle.vault_core_model.specs.declared.records.Bucket.{Bucket}
use Rattle.vault_core_model.specs.declared.records.Entry.{Entry}
use Rattle.vault_core_model.specs.declared.records.History.{History}
use Rattle.vault_core_model.specs.declared.records.Setting.{Setting}
use Rattle.vault_core_model.specs.declared.records.Tenure.{Tenure}
use Rattle.vault_core_model.specs.Places.{held_at, is_current}
use Rattle.vault_core_model.specs.Sound.{Sound}
use Rattle.vault_core_model.specs.Totals.{items_of}
use Rattle.vault_core_model.specs.Vault.{Vault, next_id}
use Rattle.vault_audit_model.specs.declared.rows.MetaRow.{MetaRow}
use Rattle.vault_audit_model.specs.declared.rows.DepartmentRow.{DepartmentRow}
use Rattle.vault_audit_model.specs.declared.rows.BucketRow.{BucketRow}
use Rattle.vault_audit_model.specs.declared.rows.RuleRow.{RuleRow}
use Rattle.vault_audit_model.specs.declared.rows.ContentRow.{ContentRow}
use Rattle.vault_audit_model.specs.declared.rows.SettingRow.{SettingRow}
use Rattle.vault_audit_model.specs.declared.rows.HeadRow.{HeadRow}
use Rattle.vault_audit_model.specs.declared.rows.TenureRow.{TenureRow}
use Rattle.vault_audit_model.specs.declared.schema.SchemaVersion.{SchemaVersion}
use Rattle.vault_audit_model.specs.declared.schema.SchemaVersion.TheVariants.{First, Second, Third, Fourth}
use Rattle.vault_audit_model.specs.SchemaVersions.{number_of, is_external, edition_of}
use Rattle.vault_audit_model.specs.Tables.{schema_of, meta_tree, departments_tree, callers_tree, buckets_tree, rules_tree, entries_tree, contents_tree, settings_tree, intake_tree, heads_tree, tenures_tree, external_tree}
use Rattle.vault_audit_model.specs.Rows.{meta_row, department_row, caller_row, bucket_row, rule_row, entry_row, content_row, setting_row, note_row, head_row, tenure_row, external_row, meta_columns_as, department_columns_as, caller_columns, bucket_columns, rule_columns_as, entry_columns, content_columns, setting_columns, note_columns, head_columns, tenure_columns, external_columns}
use Rattle.vault_audit_model.specs.Limits.{IsInLimits}
use Rattle.vault_audit_model.specs.Tenures.{IsUnmovedIn}

-- ---- the rows of a vault

abbrev pub meta_stated : SchemaVersion → Vault → MetaRow
meta_stated n v = record { schema = number_of n; last = v.last; next = next_id v; moves = v.moves }

abbrev pub meta_of : Vault → MetaRow
meta_of v = meta_stated (edition_of v.external) v

-- a bucket without its rules
abbrev pub bucket_of : Bucket → BucketRow
bucket_of b = record { name = b.name; config = b.config }

-- the rules of a bucket at their places, from this one on
abbrev pub rules_from : List ℕ → ℕ → List Rule → List RuleRow
rules_from bucket place [] = []
rules_from bucket place (r ∷ rs) = record { bucket = bucket; place = place; rule = r } ∷ rules_from bucket (place + 1) rs

abbrev pub rules_if_given : List ℕ → Option (List Rule) → List RuleRow
rules_if_given bucket None = []
rules_if_given bucket (Some rules) = rules_from bucket 1 rules

abbrev pub rules_in : Bucket → List RuleRow
rules_in b = rules_if_given b.name b.rules

-- the bytes of a version, while it has them in the tables
abbrev pub content_if_given : ℕ → Option Content → List ContentRow
content_if_given id None = []
content_if_given id (Some (Inside bytes)) = record { id = id; content = bytes } ∷ []
content_if_given id (Some (External r)) = []

abbrev pub contents_in : History → List ContentRow
contents_in h = content_if_given h.entry.id h.content

-- the id of a version, while its bytes are kept outside
abbrev pub external_if_given : ℕ → Option Content → List ℕ
external_if_given id None = []
external_if_given id (Some (Inside bytes)) = []
external_if_given id (Some (External r)) = id ∷ []

abbrev pub external_in : History → List ℕ
external_in h = external_if_given h.entry.id h.content

-- the settings of a version at their places, from this one on
abbrev pub settings_from : ℕ → ℕ → List Setting → List SettingRow
settings_from id place [] = []
settings_from id place (s ∷ ss) = record { id = id; place = place; setting = s } ∷ settings_from id (place + 1) ss

abbrev pub settings_in : History → List SettingRow
settings_in h = settings_from h.entry.id 1 h.settings

abbrev pub tenure_at : ℕ → Tenure → TenureRow
tenure_at id t = record { id = id; tenure = t }

-- the tenures of a version, in their order
abbrev pub tenures_in : History → List TenureRow
tenures_in h = map (tenure_at h.entry.id) h.tenures

-- the rows of tenures, of a vault and of a database; a schema version without that table has none
abbrev pub tenure_rows_of : SchemaVersion → Vault → List Row
tenure_rows_of First v = []
tenure_rows_of Second v = []
tenure_rows_of Third v = map tenure_row (flat_map tenures_in v.histories)
tenure_rows_of Fourth v = map tenure_row (flat_map tenures_in v.histories)

abbrev pub tenure_rows_in : SchemaVersion → Database → List Row
tenure_rows_in First db = []
tenure_rows_in Second db = []
tenure_rows_in Third db = map tenure_columns (db.trees tenures_tree)
tenure_rows_in Fourth db = map tenure_columns (db.trees tenures_tree)

-- the same of the rows of external
abbrev pub external_rows_of : SchemaVersion → List History → List Row
external_rows_of First hs = []
external_rows_of Second hs = []
external_rows_of Third hs = []
external_rows_of Fourth hs = map external_row (flat_map external_in hs)

abbrev pub external_rows_in : SchemaVersion → Database → List Row
external_rows_in First db = []
external_rows_in Second db = []
external_rows_in Third db = []
external_rows_in Fourth db = map external_columns (db.trees external_tree)

abbrev pub entries_in : List History → List Entry
entries_in hs = map (λ h. h.entry) hs

-- ---- the running numbers of a vault over its tenures, and its heads over its entries

-- the seven sums over these tenures
abbrev pub sums_over : List Item → Sums
sums_over items = record {
  admitted = sum_by admitted_size items;
  received = sum_by received_size items;
  held = sum_by held_size items;
  removed = sum_by removed_size items;
  handed = sum_by handed_size items;
  weighted = sum_by weight items;
  closed = sum_by closed_byte_days items;
}

-- a department with the sums over the tenures that it has, ended ones included
abbrev pub department_in : Vault → List ℕ → DepartmentRow
department_in v name = record { name = name; sums = sums_over (items_of v name) }

-- the head of the key whose current entry this is: its id, and how many entries the key holds
abbrev pub head_in : Vault → History → HeadRow
head_in v h = record {
  bucket = h.entry.bucket;
  key = h.entry.key;
  head = record { newest = h.entry.id; count = length (held_at v h.entry.bucket h.entry.key) };
}

-- a head for each key that has a held entry, which is then one entry that is current
abbrev pub heads_in : Vault → List HeadRow
heads_in v = map (head_in v) (filter (is_current v) v.histories)

-- ---- what holds beyond the limits of values

-- a vault as tables of that schema version may keep it: it registers contents that are kept outside if they do, and is in its limits, sound, and with no tenures but those that they can state
pub record IsKeptAs (n : SchemaVersion) (v : Vault) : Type 0 where
  pub external : v.external ≡ is_external n
  pub limits : IsInLimits v
  pub sound : Sound v
  pub unmoved : IsUnmovedIn n v

abbrev pub IsKept : Vault → Type 0
IsKept v = IsKeptAs (edition_of v.external) v

-- ---- the vault that the rows spell

-- The rows of each table of that schema version are those of the vault, in any order. The running numbers and the heads say nothing of a vault.
pub record SpellsAs (n : SchemaVersion) (db : Database) (v : Vault) : Type 0 where
  pub schema : db.schema ≡ schema_of n
  pub meta : IsPermutation (meta_row (meta_stated n v) ∷ []) (map (meta_columns_as n) (db.trees meta_tree))
  pub departments : IsPermutation (map (λ d. Text d) v.departments) (map (λ r. column r 1) (db.trees departments_tree))
  pub callers : IsPermutation (map caller_row v.callers) (map caller_columns (db.trees callers_tree))
  pub buckets : IsPermutation (map (λ b. bucket_row (bucket_of b)) v.buckets) (map bucket_columns (db.trees buckets_tree))
  pub rules : IsPermutation (map rule_row (flat_map rules_in v.buckets)) (map (rule_columns_as n) (db.trees rules_tree))
  pub entries : IsPermutation (map (λ h. entry_row h.entry) v.histories) (map entry_columns (db.trees entries_tree))
  pub contents : IsPermutation (map content_row (flat_map contents_in v.histories)) (map content_columns (db.trees contents_tree))
  pub settings : IsPermutation (map setting_row (flat_map settings_in v.histories)) (map setting_columns (db.trees settings_tree))
  pub intake : IsPermutation (map note_row v.notes) (map note_columns (db.trees intake_tree))
  pub tenures : IsPermutation (tenure_rows_of n v) (tenure_rows_in n db)
  pub external : IsPermutation (external_rows_of n v.histories) (external_rows_in n db)
  pub kept : IsKeptAs n v

abbrev pub Spells : Database → Vault → Type 0
Spells db v = SpellsAs (edition_of v.external) db v

-- The tables of that schema version are sound: they spell this vault, with the running numbers over its tenures and the heads over its entries.
pub record AreSoundAs (n : SchemaVersion) (db : Database) (v : Vault) : Type 0 where
  pub spells : SpellsAs n db v
  pub numbers : IsPermutation (map (λ d. department_row (department_in v d)) v.departments) (map (department_columns_as n) (db.trees departments_tree))
  pub heads : IsPermutation (map head_row (heads_in v)) (map head_columns (db.trees heads_tree))

-- the same of the one that such a vault's file has
abbrev pub AreSound : Database → Vault → Type 0
AreSound db v = AreSoundAs (edition_of v.external) db v
