-- What the rows of the tables are to each other, said of one table at a time.
use Rattle.std.specs.Prelude.{◌≡◌, ℕ, ◌+◌, ◌≤◌, Bool, true, false, ◌==◌, List, [], ◌∷◌, length, map, find, flat_map, sum_by, Option, None, IfSome, IsPermutation}
use Rattle.std.specs.List.{AllByRecursion}
use Rattle.std.specs.declared.cmp.Ordering.TheVariants.{Less}
use Rattle.sqlite.specs.Effect.{Database}
use Rattle.vault_base.specs.Limits.{most_settings}
use Rattle.vault_tally.specs.Row.{admitted_size, received_size, quota}
use Rattle.vault_core_model.specs.declared.records.Bucket.{Bucket}
use Rattle.vault_core_model.specs.declared.records.Caller.{Caller}
use Rattle.vault_core_model.specs.declared.records.Entry.{Entry}
use Rattle.vault_core_model.specs.declared.records.History.{History}
use Rattle.vault_core_model.specs.declared.records.Note.{Note}
use Rattle.vault_core_model.specs.Order.{IsAscending, name_cmp, caller_cmp, bucket_cmp, note_cmp}
use Rattle.vault_core_model.specs.Sound.{AreTenures, HasItsContent, HasRoom, IsNoted, IsWithBucket, LiesBetween}
use Rattle.vault_core_model.specs.Totals.{items_in}
use Rattle.vault_core_model.specs.Vault.{Vault}
use Rattle.vault_audit_model.specs.declared.rows.DepartmentRow.{DepartmentRow}
use Rattle.vault_audit_model.specs.declared.schema.SchemaVersion.{SchemaVersion}
use Rattle.vault_audit_model.specs.Limits.{IsCaller, IsBucket, IsEntry, IsNote, IsPlainName, IsSetting, IsTenure}
use Rattle.vault_audit_model.specs.Rows.{caller_row, bucket_row, rule_row, entry_row, content_row, setting_row, note_row, department_row, head_row, caller_columns, bucket_columns, rule_columns_as, entry_columns, content_columns, setting_columns, note_columns, department_columns_as, head_columns}
use Rattle.vault_audit_model.specs.SchemaVersions.{is_external}
use Rattle.vault_audit_model.specs.Spells.{bucket_of, rules_in, contents_in, external_rows_of, external_rows_in, settings_in, entries_in, tenure_rows_of, tenure_rows_in, sums_over, heads_in}
use Rattle.vault_audit_model.specs.Tenures.{IsUnmovedIn}
use Rattle.vault_audit_model.specs.Tables.{departments_tree, callers_tree, buckets_tree, rules_tree, entries_tree, contents_tree, settings_tree, intake_tree, heads_tree}

-- ---- names

-- the name comes after the one before it, if there is one
abbrev pub IsAfter : Option (List ℕ) → List ℕ → Type 0
IsAfter before name = IfSome before (λ n. name_cmp n name ≡ Less)

-- ---- callers

-- the rows of callers are these, in their limits and by rising name
abbrev pub AreCallers : Database → List Caller → Type 0
AreCallers db cs =
    IsPermutation (map caller_row cs) (map caller_columns (db.trees callers_tree)) × IsAscending caller_cmp cs × AllByRecursion IsCaller cs

-- ---- entries

-- the entry has the next id, and wasn't admitted before the one before it
abbrev pub IsNextEntry : ℕ → ℕ → Entry → Type 0
IsNextEntry next low e = (e.id ≡ next) × (low ≤ e.admitted)

-- the ids go on from `next` without a gap, and no admission goes back
abbrev pub AreNumbered : Bool → ℕ → ℕ → List Entry → Type 0
AreNumbered external next low [] = Unit {0}
AreNumbered external next low (e ∷ es) = (IsEntry external e × IsNextEntry next low e) × AreNumbered external (next + 1) e.admitted es

-- the rows of the entries are these, which have the ids 1, 2, 3 and so on
abbrev pub AreEntries : Bool → Database → List Entry → Type 0
AreEntries external db es = IsPermutation (map entry_row es) (map entry_columns (db.trees entries_tree)) × AreNumbered external 1 0 es

-- ---- contents

-- a held version has its content, which may be kept where it is; a removed one and a marker have none
abbrev pub HasContentAs : Bool → Bool → History → Type 0
HasContentAs true external h = h.content ≡ None
HasContentAs false external h = HasRoom external h.content h.entry.size × HasItsContent h.entry.removal h.content h.entry

abbrev pub HasContent : Bool → History → Type 0
HasContent external h = HasContentAs h.entry.marker external h

-- the rows of contents are the bytes of these histories of the entries, and those of external are the versions whose bytes are kept outside
pub record AreContents (n : SchemaVersion) (db : Database) (es : List Entry) (hs : List History) : Type 0 where
  pub entries : map (λ h. h.entry) hs ≡ es
  pub contents : IsPermutation (map content_row (flat_map contents_in hs)) (map content_columns (db.trees contents_tree))
  pub external : IsPermutation (external_rows_of n hs) (external_rows_in n db)
  pub each : AllByRecursion (HasContent (is_external n)) hs

-- whether there are such histories
abbrev pub DecidesContents : SchemaVersion → Database → List Entry → Bool → Type 0
DecidesContents n db es true = (hs : List History) × AreContents n db es hs
DecidesContents n db es false = (hs : List History) → ¬ AreContents n db es hs

-- ---- settings

-- a version has at least one setting, and no more than it may; a marker has none
abbrev pub HasSettingsAs : Bool → History → Type 0
HasSettingsAs true h = h.settings ≡ []
HasSettingsAs false h = (1 ≤ length h.settings) × (length h.settings ≤ most_settings)

abbrev pub HasSettings : History → Type 0
HasSettings h = HasSettingsAs h.entry.marker h × AllByRecursion IsSetting h.settings

-- the rows of settings are those of these histories of the entries, each at its place
abbrev pub AreSettings : Database → List Entry → List History → Type 0
AreSettings db es hs =
    (map (λ h. h.entry) hs ≡ es) × IsPermutation (map setting_row (flat_map settings_in hs)) (map setting_columns (db.trees settings_tree))
    × AllByRecursion HasSettings hs

abbrev pub DecidesSettings : Database → List Entry → Bool → Type 0
DecidesSettings db es true = (hs : List History) × AreSettings db es hs
DecidesSettings db es false = (hs : List History) → ¬ AreSettings db es hs

-- ---- intake

-- the note names the version among these entries that it is about
abbrev pub NamesOneOf : List Entry → Note → Type 0
NamesOneOf es n = IsNoted n (find (λ e. e.id == n.id) es)

-- the rows of intake are these notes, each of a version
abbrev pub AreNotes : Bool → Database → List Entry → List Note → Type 0
AreNotes external db es ns =
    IsPermutation (map note_row ns) (map note_columns (db.trees intake_tree)) × IsAscending note_cmp ns × AllByRecursion (IsNote external) ns
    × AllByRecursion (NamesOneOf es) ns

abbrev pub DecidesNotes : Bool → Database → List Entry → Bool → Type 0
DecidesNotes external db es true = (ns : List Note) × AreNotes external db es ns
DecidesNotes external db es false = (ns : List Note) → ¬ AreNotes external db es ns

-- ---- tenures

-- as in a sound vault, but for the departments being there: a version has tenures from its admission to its end, the last its bucket's while it is held; a marker has none
abbrev pub IsTenuredAs : Bool → Vault → History → Type 0
IsTenuredAs true v h = h.tenures ≡ []
IsTenuredAs false v h = AreTenures v h.entry h.tenures × IsWithBucket v h.entry.removal h

abbrev pub IsTenured : Vault → History → Type 0
IsTenured v h = IsTenuredAs h.entry.marker v h

abbrev pub AreTenuresInLimits : History → Type 0
AreTenuresInLimits h = AllByRecursion IsTenure h.tenures

-- The rows of tenures are those of the vault's versions. Of the vault this reads its last moment, its number of moves, its buckets and its histories.
pub record AreTenuresOf (n : SchemaVersion) (db : Database) (v : Vault) : Type 0 where
  pub rows : IsPermutation (tenure_rows_of n v) (tenure_rows_in n db)
  pub unmoved : IsUnmovedIn n v
  pub limits : AllByRecursion AreTenuresInLimits v.histories
  pub tenured : AllByRecursion (IsTenured v) v.histories

-- the same for a vault with these histories of the same entries
abbrev pub AreTenuresWith : SchemaVersion → Database → Vault → List History → Type 0
AreTenuresWith n db v hs = (entries_in hs ≡ entries_in v.histories) × AreTenuresOf n db (record v { histories = hs })

-- whether there are such histories
abbrev pub DecidesTenures : SchemaVersion → Database → Vault → Bool → Type 0
DecidesTenures n db v true = (hs : List History) × AreTenuresWith n db v hs
DecidesTenures n db v false = (hs : List History) → ¬ AreTenuresWith n db v hs

-- ---- buckets and rules

-- the rows of buckets and of rules are these buckets, each with no rules or with a set that it may have
abbrev pub AreBuckets : SchemaVersion → Database → List Bucket → Type 0
AreBuckets n db bs =
    IsPermutation (map (λ b. bucket_row (bucket_of b)) bs) (map bucket_columns (db.trees buckets_tree))
    × IsPermutation (map rule_row (flat_map rules_in bs)) (map (rule_columns_as n) (db.trees rules_tree)) × IsAscending bucket_cmp bs
    × AllByRecursion IsBucket bs

abbrev pub DecidesBuckets : SchemaVersion → Database → Bool → Type 0
DecidesBuckets n db true = (bs : List Bucket) × AreBuckets n db bs
DecidesBuckets n db false = (bs : List Bucket) → ¬ AreBuckets n db bs

-- ---- running numbers

-- admitted by the last moment, and removed, if it was, from then to the last moment
abbrev pub IsPast : ℕ → Entry → Type 0
IsPast last e = (e.admitted ≤ last) × LiesBetween e.admitted last e.removal

-- a department with the sums over the tenures that it has among these, ended ones included
abbrev pub department_with : List History → List ℕ → DepartmentRow
department_with hs name = record { name = name; sums = sums_over (items_in name hs) }

-- it didn't admit and receive more than it may
abbrev pub IsWithin : List History → List ℕ → Type 0
IsWithin hs name = sum_by admitted_size (items_in name hs) + sum_by received_size (items_in name hs) ≤ quota

-- the rows of departments are these departments with their sums
abbrev pub AreSums : SchemaVersion → Database → List History → List (List ℕ) → Type 0
AreSums n db hs ds =
    IsPermutation (map (λ d. department_row (department_with hs d)) ds) (map (department_columns_as n) (db.trees departments_tree))
    × AllByRecursion IsPlainName ds × AllByRecursion (IsWithin hs) ds

abbrev pub DecidesSums : SchemaVersion → Database → List History → Bool → Type 0
DecidesSums n db hs true = (ds : List (List ℕ)) × AreSums n db hs ds
DecidesSums n db hs false = (ds : List (List ℕ)) → ¬ AreSums n db hs ds

-- the rows of heads are those of the vault's keys
abbrev pub AreHeads : Database → Vault → Type 0
AreHeads db v = IsPermutation (map head_row (heads_in v)) (map head_columns (db.trees heads_tree))

abbrev pub DecidesHeads : Database → Vault → Bool → Type 0
DecidesHeads db v true = AreHeads db v
DecidesHeads db v false = ¬ AreHeads db v
