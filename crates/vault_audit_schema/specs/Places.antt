-- The tables in their places.
use Rattle.std.specs.Prelude.{◌+◌, ◌<◌, ◌⊎◌, List, length, slice_get, take, ◌≡◌}
use Rattle.vault_base.specs.declared.refusal.Table.{Table}
use Rattle.sqlite.specs.Schema.{Schema}
use Rattle.sqlite.specs.Table.{Table as Made}
use Rattle.vault_audit_model.specs.declared.schema.SchemaVersion.{SchemaVersion}
use Rattle.vault_audit_model.specs.Order.{place_of}
use Rattle.vault_audit_model.specs.Tables.{schema_of}

-- the schema version has the table
abbrev pub HasTable : SchemaVersion → Table → Type 0
HasTable n t = place_of t < length (schema_of n).tables

-- the table stands in its place, in the vault's form, where the schema version has it
abbrev pub IsInPlace : SchemaVersion → List Made → Table → Type 0
IsInPlace n tables t = HasTable n t → slice_get tables (place_of t) ≡ slice_get (schema_of n).tables (place_of t)

-- each of the schema version's tables does, whatever stands after them
abbrev pub AreInPlace : SchemaVersion → List Made → Type 0
AreInPlace n tables = (t : Table) → IsInPlace n tables t

-- the tables begin with the vault's, up to this one
abbrev pub BeginTo : SchemaVersion → List Made → Table → Type 0
BeginTo n tables t = take (place_of t + 1) tables ≡ take (place_of t + 1) (schema_of n).tables

-- the tables differ from the vault's, and this one is reported: all before it stand in their places, and it doesn't, or all do
pub record IsReportedOf (n : SchemaVersion) (tables : List Made) (stated : Table) : Type 0 where
  pub differs : ¬ (tables ≡ (schema_of n).tables)
  pub begin : (t : Table) → place_of t < place_of stated → BeginTo n tables t
  pub here : ¬ IsInPlace n tables stated ⊎ AreInPlace n tables
  -- if they differ at one of its tables, then this is the first such
  pub first : (t : Table) → ((u : Table) → place_of u < place_of t → IsInPlace n tables u) → ¬ IsInPlace n tables t → stated ≡ t

-- the schema differs from the vault's, and this table is reported: all before it stand in their places, and it doesn't, or all do
pub record IsReportedIn (n : SchemaVersion) (schema : Schema) (stated : Table) : Type 0 where
  pub differs : ¬ (schema ≡ schema_of n)
  pub begin : (t : Table) → place_of t < place_of stated → BeginTo n schema.tables t
  pub here : ¬ IsInPlace n schema.tables stated ⊎ AreInPlace n schema.tables
