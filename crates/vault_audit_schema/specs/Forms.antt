-- What the forms mean.
use Rattle.std.specs.Prelude.{ℕ, List, [], ◌∷◌, Option, Some, None, map}
use Rattle.vault_base.specs.Refusal.{table_name}
use Rattle.sqlite_value.specs.Keys.{plain}
use Rattle.sqlite_value.specs.declared.keys.Order.{Order}
use Rattle.sqlite.specs.Table.{Table}
use Rattle.sqlite_schema.specs.declared.schema.Column.{Column}
use Rattle.sqlite_schema.specs.declared.schema.Index.{Index}
use Rattle.sqlite_schema.specs.declared.schema.Reference.{Reference}
use Rattle.vault_audit_model.specs.Tables.{has, may_have, refers, table}
use Rattle.vault_audit_schema.specs.declared.column.ColumnForm.{ColumnForm}
use Rattle.vault_audit_schema.specs.declared.column.ColumnForm.TheVariants.{Has, MayHave}
use Rattle.vault_audit_schema.specs.declared.column.ReferenceForm.{ReferenceForm}
use Rattle.vault_audit_schema.specs.declared.index.IndexForm.{IndexForm}
use Rattle.vault_audit_schema.specs.declared.table.KeyForm.{KeyForm}
use Rattle.vault_audit_schema.specs.declared.table.KeyForm.TheVariants.{Number, Places, NumberAnd}
use Rattle.vault_audit_schema.specs.declared.table.TableForm.{TableForm}

-- the column of a form
abbrev pub column_of : ColumnForm → Column
column_of (Has name kind) = has name.now kind
column_of (MayHave name kind) = may_have name.now kind

-- the reference of a form
abbrev pub reference_of : ReferenceForm → Reference
reference_of form = refers form.at (table_name form.parent) form.column.now

-- the number column of a key
abbrev pub key_of : KeyForm → Option ℕ
key_of Number = Some 0
key_of (Places places) = None
key_of (NumberAnd places) = Some 0

-- the places of a key
abbrev pub primary_of : KeyForm → List ℕ
primary_of Number = 0 ∷ []
primary_of (Places places) = places.now
primary_of (NumberAnd places) = 0 ∷ []

-- the places that an index distinguishes
abbrev pub uniques_of : KeyForm → List (List ℕ)
uniques_of Number = []
uniques_of (Places places) = places.now ∷ []
uniques_of (NumberAnd places) = places.now ∷ []

-- the orders of those indexes
abbrev pub orders_of : KeyForm → List Order
orders_of Number = []
orders_of (Places places) = plain ∷ []
orders_of (NumberAnd places) = plain ∷ []

-- the table of a form
abbrev pub table_of : TableForm → Table
table_of form =
    table (table_name form.table) form.tree (map column_of form.columns.now)
    (key_of form.key) (primary_of form.key) (uniques_of form.key) (orders_of form.key)
    (map reference_of form.references.now)

-- the index of a form
abbrev pub index_of : IndexForm → Index
index_of form =
    record { name = form.name.now; tree = form.tree; table = form.of.tree; columns = form.places.now; order = form.order; is_unique = form.is_unique }
