-- Rows that state a record of their table.
use Rattle.std.specs.Prelude.{◌≡◌, Bool, true, false, take}
use Rattle.sqlite_value.specs.Order.{Row}
use Rattle.vault_base.specs.declared.refusal.Table.{Table}
use Rattle.vault_base.specs.declared.refusal.Table.TheVariants as table
use Rattle.vault_audit_model.specs.Rows.{meta_row, department_row, caller_row, bucket_row, rule_row, entry_row, content_row, setting_row, note_row, head_row, tenure_row, external_row}

-- it is the row of this item
abbrev pub IsOf : {X : Type 0} → (X → Row) → Row → Type 0
IsOf {X} row_of row = (x : X) × (row ≡ row_of x)

-- the row states a record of the table
abbrev pub IsRowOf : Table → Row → Type 0
IsRowOf table.Meta = IsOf meta_row
IsRowOf table.Departments = IsOf department_row
IsRowOf table.Callers = IsOf caller_row
IsRowOf table.Buckets = IsOf bucket_row
IsRowOf table.Rules = IsOf rule_row
IsRowOf table.Entries = IsOf entry_row
IsRowOf table.Contents = IsOf content_row
IsRowOf table.Settings = IsOf setting_row
IsRowOf table.Intake = IsOf note_row
IsRowOf table.Heads = IsOf head_row
IsRowOf table.Tenures = IsOf tenure_row
IsRowOf table.External = IsOf external_row

-- the columns of it that are put in: the file of a vault that registers no contents which are kept outside lacks the last two of meta
abbrev pub put_of : Table → Bool → Row → Row
put_of table.Meta false row = take 5 row
put_of table.Meta true row = row
put_of table.Departments external row = row
put_of table.Callers external row = row
put_of table.Buckets external row = row
put_of table.Rules external row = row
put_of table.Entries external row = row
put_of table.Contents external row = row
put_of table.Settings external row = row
put_of table.Intake external row = row
put_of table.Heads external row = row
put_of table.Tenures external row = row
put_of table.External external row = row
