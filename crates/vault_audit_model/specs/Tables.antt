-- The tables, as a database knows them once they are made. A schema version has columns more at the end of a table than the one before it, or a table or an index more after the others.
use Rattle.std.specs.Prelude.{ℕ, Bool, true, false, List, [], ◌∷◌, None, Some, Option, codes}
use Rattle.sqlite_value.specs.Keys.{plain}
use Rattle.sqlite_value.specs.declared.keys.Order.{Order}
use Rattle.sqlite.specs.Collation.TheVariants.{Binary}
use Rattle.sqlite.specs.declared.types.Value.TheVariants.{Null}
use Rattle.sqlite.specs.Table.{Table}
use Rattle.sqlite.specs.Schema.{Schema}
use Rattle.sqlite_schema.specs.declared.schema.Index.{Index}
use Rattle.sqlite_schema.specs.declared.schema.Column.{Column}
use Rattle.sqlite_schema.specs.declared.schema.Kind.{Kind}
use Rattle.sqlite_schema.specs.declared.schema.Reference.{Reference}
use Rattle.sqlite_schema.specs.declared.schema.Action.TheVariants.{NoAction}
use Rattle.sqlite.specs.Kind.TheVariants.{Integer, Text, Blob}
use Rattle.sqlite_catalog.specs.Listing.{automatic}
use Rattle.vault_audit_model.specs.declared.schema.SchemaVersion.{SchemaVersion}
use Rattle.vault_audit_model.specs.declared.schema.SchemaVersion.TheVariants.{First, Second, Third, Fourth}
use Rattle.vault_audit_model.specs.SchemaVersions.{edition_of, newest}

-- a column of a STRICT table, with no default
abbrev pub column_as : Bool → List ℕ → Kind → Column
column_as not_null name kind =
    record { name = name; kind = kind; is_strict = true; not_null = not_null; default = Null; collation = Binary }

-- one that is never NULL, and one that may be; the key of a table by numbers counts to the second
abbrev pub has : List ℕ → Kind → Column
has name kind = column_as true name kind

abbrev pub may_have : List ℕ → Kind → Column
may_have name kind = column_as false name kind

-- a column whose value stands in a column of another table
abbrev pub refers : ℕ → List ℕ → List ℕ → Reference
refers at parent column =
    record { columns = at ∷ []; parent = parent; parent_columns = column ∷ []; on_delete = NoAction; on_update = NoAction; is_deferred = false }

-- a table with no CHECK, no computed default and no count
abbrev pub table : List ℕ → ℕ → List Column → Option ℕ → List ℕ → List (List ℕ) → List Order → List Reference → Table
table name tree columns key primary uniques orders references = record {
  name = name;
  tree = tree;
  columns = columns;
  key = key;
  primary = primary;
  uniques = uniques;
  orders = orders;
  checks = [];
  references = references;
  computed = [];
  stamps = record { places = []; terms = []; formats = [] };
  is_counted = false;
}

-- a table whose first column is a number that distinguishes its rows
abbrev pub table_by_number : List ℕ → ℕ → List Column → List Reference → Table
table_by_number name tree columns references = table name tree columns (Some 0) (0 ∷ []) [] [] references

-- one that also finds its rows by the columns at these places, counted from 1, and 0 for the number
abbrev pub table_by_number_and : List ℕ → List ℕ → ℕ → List Column → List Reference → Table
table_by_number_and places name tree columns references = table name tree columns (Some 0) (0 ∷ []) (places ∷ []) (plain ∷ []) references

-- a table whose rows are distinguished by the columns at these places, counted from 1; an index follows its tree
abbrev pub table_by : List ℕ → List ℕ → ℕ → List Column → List Reference → Table
table_by key name tree columns references = table name tree columns None key (key ∷ []) (plain ∷ []) references

-- ---- where the rows of each table are kept

abbrev pub meta_tree : ℕ
meta_tree = 0

abbrev pub departments_tree : ℕ
departments_tree = 1

abbrev pub callers_tree : ℕ
callers_tree = 3

abbrev pub buckets_tree : ℕ
buckets_tree = 5

abbrev pub rules_tree : ℕ
rules_tree = 7

abbrev pub entries_tree : ℕ
entries_tree = 9

abbrev pub contents_tree : ℕ
contents_tree = 11

abbrev pub settings_tree : ℕ
settings_tree = 12

abbrev pub intake_tree : ℕ
intake_tree = 14

abbrev pub heads_tree : ℕ
heads_tree = 16

abbrev pub tenures_tree : ℕ
tenures_tree = 18

abbrev pub external_tree : ℕ
external_tree = 21

-- ---- the tables

-- how often a bucket was moved; then, for a vault that follows a list of commands, the place up to which it does, and whether that is done
abbrev pub meta_columns_later : SchemaVersion → List Column
meta_columns_later First = []
meta_columns_later Second = []
meta_columns_later Third = has (codes "moves") Integer ∷ []
meta_columns_later Fourth = has (codes "moves") Integer ∷ has (codes "place") Integer ∷ has (codes "done") Integer ∷ []

abbrev pub meta_as : SchemaVersion → Table
meta_as n =
    table_by_number (codes "meta") meta_tree
    (may_have (codes "one") Integer ∷ has (codes "schema") Integer ∷ has (codes "last") Integer ∷ has (codes "next") Integer
    ∷ meta_columns_later n)
    []

abbrev pub meta : Table
meta = meta_as newest

-- the bytes that came and went with buckets
abbrev pub exchange_columns : SchemaVersion → List Column
exchange_columns First = []
exchange_columns Second = []
exchange_columns Third = has (codes "received") Integer ∷ has (codes "handed") Integer ∷ []
exchange_columns Fourth = has (codes "received") Integer ∷ has (codes "handed") Integer ∷ []

abbrev pub departments_as : SchemaVersion → Table
departments_as n =
    table_by (1 ∷ []) (codes "departments") departments_tree
    (has (codes "name") Text ∷ has (codes "admitted") Integer ∷ has (codes "held") Integer ∷ has (codes "removed") Integer
    ∷ has (codes "weighted") Integer ∷ has (codes "closed") Integer ∷ exchange_columns n)
    []

abbrev pub departments : Table
departments = departments_as newest

abbrev pub callers : Table
callers =
    table_by (1 ∷ []) (codes "callers") callers_tree
    (has (codes "name") Text ∷ may_have (codes "dept") Text ∷ has (codes "rights") Integer ∷ has (codes "closed") Integer ∷ [])
    (refers 2 (codes "departments") (codes "name") ∷ [])

abbrev pub buckets : Table
buckets =
    table_by (1 ∷ []) (codes "buckets") buckets_tree
    (has (codes "name") Text ∷ has (codes "dept") Text ∷ has (codes "mode") Integer ∷ may_have (codes "days") Integer
    ∷ may_have (codes "years") Integer ∷ [])
    (refers 2 (codes "departments") (codes "name") ∷ [])

-- the bounds of sizes
abbrev pub bound_columns : SchemaVersion → List Column
bound_columns First = []
bound_columns Second = may_have (codes "larger") Integer ∷ may_have (codes "smaller") Integer ∷ []
bound_columns Third = may_have (codes "larger") Integer ∷ may_have (codes "smaller") Integer ∷ []
bound_columns Fourth = may_have (codes "larger") Integer ∷ may_have (codes "smaller") Integer ∷ []

abbrev pub rules_as : SchemaVersion → Table
rules_as n =
    table_by (1 ∷ 2 ∷ []) (codes "rules") rules_tree
    (has (codes "bucket") Text ∷ has (codes "n") Integer ∷ has (codes "id") Text ∷ has (codes "prefix") Text
    ∷ has (codes "enabled") Integer ∷ may_have (codes "days") Integer ∷ has (codes "lone") Integer
    ∷ may_have (codes "nc_days") Integer ∷ may_have (codes "nc_keep") Integer ∷ bound_columns n)
    (refers 1 (codes "buckets") (codes "name") ∷ [])

abbrev pub rules : Table
rules = rules_as newest

abbrev pub entries : Table
entries =
    table_by_number_and (2 ∷ 3 ∷ 0 ∷ []) (codes "entries") entries_tree
    (may_have (codes "id") Integer ∷ has (codes "bucket") Text ∷ has (codes "key") Text ∷ has (codes "marker") Integer
    ∷ has (codes "size") Integer ∷ may_have (codes "digest") Blob ∷ has (codes "admitted") Integer
    ∷ has (codes "by_rule") Integer ∷ has (codes "admitted_by") Text ∷ may_have (codes "removed") Integer
    ∷ may_have (codes "cause") Integer ∷ may_have (codes "cause_by") Text ∷ [])
    (refers 2 (codes "buckets") (codes "name") ∷ [])

abbrev pub contents : Table
contents =
    table_by_number (codes "contents") contents_tree
    (may_have (codes "id") Integer ∷ has (codes "bytes") Blob ∷ [])
    (refers 0 (codes "entries") (codes "id") ∷ [])

abbrev pub settings : Table
settings =
    table_by (1 ∷ 2 ∷ []) (codes "settings") settings_tree
    (has (codes "id") Integer ∷ has (codes "n") Integer ∷ has (codes "moment") Integer ∷ has (codes "caller") Text
    ∷ has (codes "mode") Integer ∷ may_have (codes "until") Integer ∷ has (codes "hold") Integer
    ∷ has (codes "bypass") Integer ∷ [])
    (refers 1 (codes "entries") (codes "id") ∷ [])

abbrev pub intake : Table
intake =
    table_by (1 ∷ 2 ∷ 3 ∷ []) (codes "intake") intake_tree
    (has (codes "bucket") Text ∷ has (codes "batch") Text ∷ has (codes "line") Integer ∷ has (codes "key") Text
    ∷ has (codes "size") Integer ∷ has (codes "digest") Blob ∷ has (codes "mode") Integer ∷ may_have (codes "until") Integer
    ∷ may_have (codes "hold") Integer ∷ has (codes "id") Integer ∷ [])
    (refers 1 (codes "buckets") (codes "name") ∷ refers 10 (codes "entries") (codes "id") ∷ [])

abbrev pub heads : Table
heads =
    table_by (1 ∷ 2 ∷ []) (codes "heads") heads_tree
    (has (codes "bucket") Text ∷ has (codes "key") Text ∷ has (codes "newest") Integer ∷ has (codes "count") Integer ∷ [])
    (refers 1 (codes "buckets") (codes "name") ∷ refers 3 (codes "entries") (codes "id") ∷ [])

abbrev pub tenures : Table
tenures =
    table_by (1 ∷ 2 ∷ []) (codes "tenures") tenures_tree
    (has (codes "id") Integer ∷ has (codes "n") Integer ∷ has (codes "dept") Text ∷ has (codes "moment") Integer ∷ [])
    (refers 1 (codes "entries") (codes "id") ∷ refers 3 (codes "departments") (codes "name") ∷ [])

-- the held versions whose bytes are kept outside
abbrev pub external : Table
external = table_by_number (codes "external") external_tree (may_have (codes "id") Integer ∷ []) (refers 0 (codes "entries") (codes "id") ∷ [])

-- the tables that a schema version has besides those of the first
abbrev pub later_tables : SchemaVersion → List Table
later_tables First = []
later_tables Second = []
later_tables Third = tenures ∷ []
later_tables Fourth = tenures ∷ external ∷ []

-- The entries by bucket, key and removal, the latest first. NULL is the least of all values, so those that a key holds stand last, by their ids.
abbrev pub entries_held : Index
entries_held =
    record { name = codes "entries_held"; tree = 20; table = entries_tree; columns = 2 ∷ 3 ∷ 10 ∷ []; order = record { digits = 64 }; is_unique = false }

-- the indexes that a schema version has besides those of the first
abbrev pub later_indexes : SchemaVersion → List Index
later_indexes First = []
later_indexes Second = []
later_indexes Third = automatic tenures 0 (1 ∷ 2 ∷ []) 19 ∷ entries_held ∷ []
later_indexes Fourth = automatic tenures 0 (1 ∷ 2 ∷ []) 19 ∷ entries_held ∷ []

-- a store without tables
abbrev pub no_schema : Schema
no_schema = record { tables = []; indexes = []; views = [] }

-- the schema of a vault's file, and no table, index or view beside it
abbrev pub schema_of : SchemaVersion → Schema
schema_of n = record {
  tables = meta_as n ∷ departments_as n ∷ callers ∷ buckets ∷ rules_as n ∷ entries ∷ contents ∷ settings ∷ intake ∷ heads ∷ later_tables n;
  indexes = automatic (departments_as n) 0 (1 ∷ []) 2 ∷ automatic callers 0 (1 ∷ []) 4 ∷ automatic buckets 0 (1 ∷ []) 6
      ∷ automatic (rules_as n) 0 (1 ∷ 2 ∷ []) 8 ∷ automatic entries 0 (2 ∷ 3 ∷ 0 ∷ []) 10 ∷ automatic settings 0 (1 ∷ 2 ∷ []) 13
      ∷ automatic intake 0 (1 ∷ 2 ∷ 3 ∷ []) 15 ∷ automatic heads 0 (1 ∷ 2 ∷ []) 17 ∷ later_indexes n;
  views = [];
}

-- the schema of every vault that is opened, by whether it registers contents that are kept outside
abbrev pub vault_schema : Bool → Schema
vault_schema external = schema_of (edition_of external)
