-- By which columns tables are those of a vault that registers contents which are kept outside.
use Rattle.std.specs.Prelude.{Bool, codes}
use Rattle.std.specs.List.{list_any}
use Rattle.std.specs.Str.{bytes_eq}
use Rattle.sqlite_schema.specs.declared.schema.Column.{Column}
use Rattle.sqlite.specs.Table.{Table}

-- a column is the place in a list of commands
abbrev pub is_place : Column → Bool
is_place column = bytes_eq column.name (codes "place")

abbrev pub has_place : Table → Bool
has_place table = list_any is_place table.columns
