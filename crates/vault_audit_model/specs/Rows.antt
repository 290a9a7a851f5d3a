-- What stands in the columns of a row, for each record that a row holds.
use Rattle.std.specs.Prelude.{ℕ, Bool, true, false, List, [], ◌∷◌, Option, Some, None, option_map, option_and_then}
use Rattle.sqlite_value.specs.declared.value.Value.{Value}
use Rattle.sqlite_value.specs.declared.value.Value.TheVariants.{Null, Text, Blob}
use Rattle.sqlite_value.specs.Order.{Row, column}
use Rattle.vault_lock.specs.declared.retention.Mode.{Mode}
use Rattle.vault_lock.specs.declared.retention.Mode.TheVariants.{Governance, Compliance}
use Rattle.vault_lock.specs.declared.retention.Retention.{Retention}
use Rattle.vault_lock.specs.declared.retention.Period.{Period}
use Rattle.vault_lock.specs.declared.retention.Period.TheVariants.{Days, Years}
use Rattle.vault_lock.specs.declared.retention.Default.{Default}
use Rattle.vault_rules.specs.declared.rule.Noncurrent.{Noncurrent}
use Rattle.vault_core_model.specs.Rights.{rights_number}
use Rattle.vault_core_model.specs.declared.records.Author.{Author}
use Rattle.vault_core_model.specs.declared.records.Author.TheVariants as author
use Rattle.vault_core_model.specs.declared.records.Cause.{Cause}
use Rattle.vault_core_model.specs.declared.records.Cause.TheVariants as cause
use Rattle.vault_core_model.specs.declared.records.Removal.{Removal}
use Rattle.vault_core_model.specs.declared.records.Caller.{Caller}
use Rattle.vault_core_model.specs.declared.records.Entry.{Entry}
use Rattle.vault_core_model.specs.declared.records.Note.{Note}
use Rattle.vault_audit_model.specs.declared.rows.MetaRow.{MetaRow}
use Rattle.vault_audit_model.specs.declared.rows.DepartmentRow.{DepartmentRow}
use Rattle.vault_audit_model.specs.declared.rows.BucketRow.{BucketRow}
use Rattle.vault_audit_model.specs.declared.rows.RuleRow.{RuleRow}
use Rattle.vault_audit_model.specs.declared.rows.ContentRow.{ContentRow}
use Rattle.vault_audit_model.specs.declared.rows.SettingRow.{SettingRow}
use Rattle.vault_audit_model.specs.declared.rows.HeadRow.{HeadRow}
use Rattle.vault_audit_model.specs.declared.rows.TenureRow.{TenureRow}
use Rattle.vault_audit_model.specs.declared.schema.SchemaVersion.{SchemaVersion}
use Rattle.vault_audit_model.specs.declared.schema.SchemaVersion.TheVariants.{First, Second, Third, Fourth}
use Rattle.vault_audit_model.specs.SchemaVersions.{newest}
use Rattle.vault_audit_model.specs.Values.{number, number_or_null, text_or_null, bytes_or_null, flag, flag_or_null}

-- ---- parts of rows

-- the value of a binary digit that is set or not
abbrev pub bit : Bool → ℕ → ℕ
bit false n = 0
bit true n = n

-- an absent mode is 0
abbrev pub mode_number : Option Mode → ℕ
mode_number None = 0
mode_number (Some Governance) = 1
mode_number (Some Compliance) = 2

abbrev pub days_of : Period → Option ℕ
days_of (Days n) = Some n
days_of (Years n) = None

abbrev pub years_of : Period → Option ℕ
years_of (Days n) = None
years_of (Years n) = Some n

-- a bucket's default retention: the number of its mode, its days, its years
abbrev pub default_mode : Option Default → Value
default_mode default = number (mode_number (option_map (λ d. d.mode) default))

abbrev pub default_days : Option Default → Value
default_days default = number_or_null (option_and_then (λ d. days_of d.period) default)

abbrev pub default_years : Option Default → Value
default_years default = number_or_null (option_and_then (λ d. years_of d.period) default)

-- a retention: the number of its mode, and its end
abbrev pub retention_mode : Option Retention → Value
retention_mode retention = number (mode_number (option_map (λ r. r.mode) retention))

abbrev pub retention_until : Option Retention → Value
retention_until retention = number_or_null (option_map (λ r. r.until) retention)

-- who admitted an entry: whether it was a rule, and the rule's id or else the caller's name
abbrev pub author_kind : Author → Value
author_kind (author.Caller name) = flag false
author_kind (author.Rule id) = flag true

abbrev pub author_name : Author → Value
author_name (author.Caller name) = Text name
author_name (author.Rule id) = Text id

-- a cause: its number, and the caller's name or the rule's id
abbrev pub cause_number : Cause → ℕ
cause_number (cause.Request name) = 0
cause_number (cause.Bypass name) = 1
cause_number (cause.Rule id) = 2

abbrev pub cause_text : Cause → List ℕ
cause_text (cause.Request name) = name
cause_text (cause.Bypass name) = name
cause_text (cause.Rule id) = id

-- a removal: its moment, the number of its cause, and who caused it
abbrev pub removal_at : Option Removal → Value
removal_at removal = number_or_null (option_map (λ r. r.at) removal)

abbrev pub removal_cause : Option Removal → Value
removal_cause removal = number_or_null (option_map (λ r. cause_number r.cause) removal)

abbrev pub removal_by : Option Removal → Value
removal_by removal = text_or_null (option_map (λ r. cause_text r.cause) removal)

-- what a rule does to noncurrent entries: its days, and how many newer ones it keeps
abbrev pub noncurrent_days : Option Noncurrent → Value
noncurrent_days noncurrent = number_or_null (option_map (λ n. n.days) noncurrent)

abbrev pub noncurrent_newer : Option Noncurrent → Value
noncurrent_newer noncurrent = number_or_null (option_and_then (λ n. n.newer) noncurrent)

-- ---- rows

-- The first number distinguishes the one row, the second is that of the schema. The last two are those of a vault that doesn't follow a list of commands: it is at place 0, and that is done.
abbrev pub meta_row : MetaRow → Row
meta_row m = number 1 ∷ number m.schema ∷ number m.last ∷ number m.next ∷ number m.moves ∷ number 0 ∷ number 1 ∷ []

abbrev pub department_row : DepartmentRow → Row
department_row d =
    Text d.name ∷ number d.sums.admitted ∷ number d.sums.held ∷ number d.sums.removed ∷ number d.sums.weighted
    ∷ number d.sums.closed ∷ number d.sums.received ∷ number d.sums.handed ∷ []

abbrev pub caller_row : Caller → Row
caller_row c = Text c.name ∷ text_or_null c.dept ∷ number (rights_number c.rights) ∷ flag c.closed ∷ []

abbrev pub bucket_row : BucketRow → Row
bucket_row b =
    Text b.name ∷ Text b.config.dept ∷ default_mode b.config.default ∷ default_days b.config.default
    ∷ default_years b.config.default ∷ []

abbrev pub rule_row : RuleRow → Row
rule_row r =
    Text r.bucket ∷ number r.place ∷ Text r.rule.id ∷ Text r.rule.prefix ∷ flag r.rule.enabled
    ∷ number_or_null r.rule.days ∷ flag r.rule.lone_markers
    ∷ noncurrent_days r.rule.noncurrent ∷ noncurrent_newer r.rule.noncurrent
    ∷ number_or_null r.rule.larger ∷ number_or_null r.rule.smaller ∷ []

abbrev pub entry_row : Entry → Row
entry_row e =
    number e.id ∷ Text e.bucket ∷ Text e.key ∷ flag e.marker ∷ number e.size ∷ bytes_or_null e.digest
    ∷ number e.admitted ∷ author_kind e.by ∷ author_name e.by ∷ removal_at e.removal
    ∷ removal_cause e.removal ∷ removal_by e.removal ∷ []

abbrev pub content_row : ContentRow → Row
content_row c = number c.id ∷ Blob c.content ∷ []

abbrev pub setting_row : SettingRow → Row
setting_row s =
    number s.id ∷ number s.place ∷ number s.setting.at ∷ Text s.setting.by ∷ retention_mode s.setting.lock.retention
    ∷ retention_until s.setting.lock.retention ∷ flag s.setting.lock.hold ∷ flag s.setting.bypass ∷ []

abbrev pub note_row : Note → Row
note_row n =
    Text n.bucket ∷ Text n.batch ∷ number n.line ∷ Text n.key ∷ number n.size ∷ Blob n.digest
    ∷ retention_mode n.retention ∷ retention_until n.retention ∷ flag_or_null n.hold ∷ number n.id ∷ []

abbrev pub head_row : HeadRow → Row
head_row h = Text h.bucket ∷ Text h.key ∷ number h.head.newest ∷ number h.head.count ∷ []

abbrev pub tenure_row : TenureRow → Row
tenure_row t = number t.id ∷ number t.tenure.number ∷ Text t.tenure.dept ∷ number t.tenure.from ∷ []

-- the row of a version whose bytes are kept outside: its id
abbrev pub external_row : ℕ → Row
external_row id = number id ∷ []

-- ---- the columns of a row as it is stored: its number in the file and then each column, where the number is the key of a table whose key is a number

-- in a schema version without columns for them, no bucket was moved, and no list is followed
abbrev pub later_in_meta : SchemaVersion → Row → Row
later_in_meta First r = number 0 ∷ number 0 ∷ number 1 ∷ []
later_in_meta Second r = number 0 ∷ number 0 ∷ number 1 ∷ []
later_in_meta Third r = column r 5 ∷ number 0 ∷ number 1 ∷ []
later_in_meta Fourth r = column r 5 ∷ column r 6 ∷ column r 7 ∷ []

abbrev pub meta_columns_as : SchemaVersion → Row → Row
meta_columns_as n r = column r 0 ∷ column r 2 ∷ column r 3 ∷ column r 4 ∷ later_in_meta n r

abbrev pub meta_columns : Row → Row
meta_columns = meta_columns_as newest

-- in a schema version without columns for them, no bytes came or went with a bucket
abbrev pub exchanged_in : SchemaVersion → Row → Row
exchanged_in First r = number 0 ∷ number 0 ∷ []
exchanged_in Second r = number 0 ∷ number 0 ∷ []
exchanged_in Third r = column r 7 ∷ column r 8 ∷ []
exchanged_in Fourth r = column r 7 ∷ column r 8 ∷ []

abbrev pub department_columns_as : SchemaVersion → Row → Row
department_columns_as n r =
    column r 1 ∷ column r 2 ∷ column r 3 ∷ column r 4 ∷ column r 5 ∷ column r 6 ∷ exchanged_in n r

abbrev pub department_columns : Row → Row
department_columns = department_columns_as newest

abbrev pub caller_columns : Row → Row
caller_columns r = column r 1 ∷ column r 2 ∷ column r 3 ∷ column r 4 ∷ []

abbrev pub bucket_columns : Row → Row
bucket_columns r = column r 1 ∷ column r 2 ∷ column r 3 ∷ column r 4 ∷ column r 5 ∷ []

-- what a schema version has no column for is NULL
abbrev pub bounds_in : SchemaVersion → Row → Row
bounds_in First r = Null ∷ Null ∷ []
bounds_in Second r = column r 10 ∷ column r 11 ∷ []
bounds_in Third r = column r 10 ∷ column r 11 ∷ []
bounds_in Fourth r = column r 10 ∷ column r 11 ∷ []

abbrev pub rule_columns_as : SchemaVersion → Row → Row
rule_columns_as n r =
    column r 1 ∷ column r 2 ∷ column r 3 ∷ column r 4 ∷ column r 5 ∷ column r 6 ∷ column r 7 ∷ column r 8 ∷ column r 9
    ∷ bounds_in n r

abbrev pub rule_columns : Row → Row
rule_columns = rule_columns_as newest

abbrev pub entry_columns : Row → Row
entry_columns r =
    column r 0 ∷ column r 2 ∷ column r 3 ∷ column r 4 ∷ column r 5 ∷ column r 6 ∷ column r 7 ∷ column r 8 ∷ column r 9
    ∷ column r 10 ∷ column r 11 ∷ column r 12 ∷ []

abbrev pub content_columns : Row → Row
content_columns r = column r 0 ∷ column r 2 ∷ []

abbrev pub setting_columns : Row → Row
setting_columns r =
    column r 1 ∷ column r 2 ∷ column r 3 ∷ column r 4 ∷ column r 5 ∷ column r 6 ∷ column r 7 ∷ column r 8 ∷ []

abbrev pub note_columns : Row → Row
note_columns r =
    column r 1 ∷ column r 2 ∷ column r 3 ∷ column r 4 ∷ column r 5 ∷ column r 6 ∷ column r 7 ∷ column r 8 ∷ column r 9
    ∷ column r 10 ∷ []

abbrev pub head_columns : Row → Row
head_columns r = column r 1 ∷ column r 2 ∷ column r 3 ∷ column r 4 ∷ []

abbrev pub tenure_columns : Row → Row
tenure_columns r = column r 1 ∷ column r 2 ∷ column r 3 ∷ column r 4 ∷ []

abbrev pub external_columns : Row → Row
external_columns r = column r 0 ∷ []
