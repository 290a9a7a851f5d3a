-- Queries for the rowids of the rows of one table that pass a test.
use Rattle.std.specs.Prelude.{◌≡◌, ◌⊎◌, ℕ, ℤ, Err, List, [], ◌∷◌, ◌++◌, length, filter, codes}
use Rattle.sqlite_value.specs.declared.value.Value.TheVariants.{Int}
use Rattle.sqlite_value.specs.declared.keys.Collation.TheVariants.{Binary}
use Rattle.sqlite_value.specs.Order.{Row, column}
use Rattle.sqlite_sql.specs.declared.ops.BinaryOp.TheVariants.{Compare}
use Rattle.sqlite_sql.specs.declared.ops.CompareOp.TheVariants.{Eq}
use Rattle.sqlite_sql.specs.Query.{Query}
use Rattle.sqlite_sql.specs.Term.{Term, col, op2}
use Rattle.sqlite_schema.specs.declared.schema.Schema.{Schema}
use Rattle.sqlite_resolve.specs.declared.error.CompileError.{CompileError}
use Rattle.sqlite.specs.Listing.{understood}
use Rattle.vault_base.specs.declared.refusal.Table.{Table}
use Rattle.vault_base.specs.Refusal.{table_name}
use Rattle.vault_audit_model.specs.Queries.{table_scan, Selects}
use Rattle.vault_store_model.specs.Scans.{passes}

-- the value at this place of a row is the parameter at that place
abbrev pub equals : ℕ → ℕ → Term
equals place parameter = op2 (Compare Eq Binary) (col 1 place) (col 0 parameter)

-- the rowid is the first parameter
abbrev pub by_rowid : List Term
by_rowid = equals 0 0 ∷ []

-- the rowids of the rows that pass the tests
abbrev pub rowids_where : ℕ → List Term → Query
rowids_where t tests = table_scan t tests (col 1 0 ∷ [])

-- over tables of that schema the text isn't understood, as where it names a table that isn't there
abbrev pub IsUnknown : Schema → List ℕ → Type 0
IsUnknown schema sql = (fault : CompileError) × (understood schema sql ≡ Err fault)

-- it asks for this and does nothing else, where it is understood
abbrev pub SelectsIfKnown : Schema → List ℕ → Query → Type 0
SelectsIfKnown schema sql q = Selects schema sql q ⊎ IsUnknown schema sql

-- the row shows a rowid that is whole, and one row has it
abbrev pub Stands : List Row → Row → Type 0
Stands rows shown = (id : ℤ) × (column shown 0 ≡ Int id) × (length (filter (passes by_rowid (Int id ∷ [])) rows) ≡ 1)

-- the text of the query for the rows of a table with a rowid
abbrev pub rowid_text : Table → List ℕ
rowid_text t = codes "SELECT rowid FROM " ++ table_name t ++ codes " WHERE rowid = ?1"
