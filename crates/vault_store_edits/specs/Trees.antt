-- The columns of each table, where its rows are kept, and how a row as it is kept states its columns: in a vault that registers contents which are kept outside, or doesn't.
use Rattle.std.specs.Prelude.{ℕ, Bool, true}
use Rattle.sqlite_value.specs.Order.{Row}
use Rattle.sqlite_schema.specs.declared.schema.Table.{Table as Columns}
use Rattle.vault_base.specs.declared.refusal.Table.{Table}
use Rattle.vault_base.specs.declared.refusal.Table.TheVariants as table
use Rattle.vault_audit_model.specs.SchemaVersions.{edition_of}
use Rattle.vault_audit_model.specs.Tables.{meta_as, departments, callers, buckets, rules, entries, contents, settings, intake, heads, tenures, external as kept_outside, meta_tree, departments_tree, callers_tree, buckets_tree, rules_tree, entries_tree, contents_tree, settings_tree, intake_tree, heads_tree, tenures_tree, external_tree}
use Rattle.vault_audit_model.specs.Rows.{meta_columns_as, department_columns, caller_columns, bucket_columns, rule_columns, entry_columns, content_columns, setting_columns, note_columns, head_columns, tenure_columns, external_columns}

-- each vault has all tables but external, which is there if it registers such contents
abbrev pub has_table : Bool → Table → Bool
has_table external table.Meta = true
has_table external table.Departments = true
has_table external table.Callers = true
has_table external table.Buckets = true
has_table external table.Rules = true
has_table external table.Entries = true
has_table external table.Contents = true
has_table external table.Settings = true
has_table external table.Intake = true
has_table external table.Heads = true
has_table external table.Tenures = true
has_table external table.External = external

abbrev pub made_as : Bool → Table → Columns
made_as external table.Meta = meta_as (edition_of external)
made_as external table.Departments = departments
made_as external table.Callers = callers
made_as external table.Buckets = buckets
made_as external table.Rules = rules
made_as external table.Entries = entries
made_as external table.Contents = contents
made_as external table.Settings = settings
made_as external table.Intake = intake
made_as external table.Heads = heads
made_as external table.Tenures = tenures
made_as external table.External = kept_outside

abbrev pub tree_of : Table → ℕ
tree_of table.Meta = meta_tree
tree_of table.Departments = departments_tree
tree_of table.Callers = callers_tree
tree_of table.Buckets = buckets_tree
tree_of table.Rules = rules_tree
tree_of table.Entries = entries_tree
tree_of table.Contents = contents_tree
tree_of table.Settings = settings_tree
tree_of table.Intake = intake_tree
tree_of table.Heads = heads_tree
tree_of table.Tenures = tenures_tree
tree_of table.External = external_tree

abbrev pub columns_of : Bool → Table → Row → Row
columns_of external table.Meta = meta_columns_as (edition_of external)
columns_of external table.Departments = department_columns
columns_of external table.Callers = caller_columns
columns_of external table.Buckets = bucket_columns
columns_of external table.Rules = rule_columns
columns_of external table.Entries = entry_columns
columns_of external table.Contents = content_columns
columns_of external table.Settings = setting_columns
columns_of external table.Intake = note_columns
columns_of external table.Heads = head_columns
columns_of external table.Tenures = tenure_columns
columns_of external table.External = external_columns
