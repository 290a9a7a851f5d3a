-- The schema version of tables, by the columns of their rules, and whether they have tenures.
use Rattle.std.specs.Prelude.{◌&&◌, Bool, true, false, codes}
use Rattle.std.specs.List.{list_any}
use Rattle.std.specs.Str.{bytes_eq}
use Rattle.sqlite.specs.Table.{Table}
use Rattle.vault_audit_model.specs.declared.schema.SchemaVersion.{SchemaVersion}
use Rattle.vault_audit_model.specs.declared.schema.SchemaVersion.TheVariants.{First, Second, Third}

-- a table has the column by which the rules of the first schema version differ from those of the later ones
abbrev pub has_bounds : Table → Bool
has_bounds table = list_any (λ column. bytes_eq column.name (codes "larger")) table.columns

-- a table is that of the rules, and these may have bounds of sizes
abbrev pub has_bounded_rules : Table → Bool
has_bounded_rules table = bytes_eq table.name (codes "rules") && has_bounds table

-- a table is that of the tenures
abbrev pub has_tenures : Table → Bool
has_tenures table = bytes_eq table.name (codes "tenures")

-- the schema version that is taken by these two, the third only for a copy that registers contents which are kept outside
abbrev pub version_by : Bool → Bool → Bool → SchemaVersion
version_by false tenures external = First
version_by true false external = Second
version_by true true false = Second
version_by true true true = Third
