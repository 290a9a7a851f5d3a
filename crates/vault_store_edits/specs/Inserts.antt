-- What the statement means that puts one row into a table.
use Rattle.std.proofs.Common.{◌≡◌, ℕ, ◌+◌, ◌/◌, Bool, List, [], ◌∷◌, length, drop, false, None, Some, Option, Result, IsTrue}
use Rattle.sqlite_trees.specs.Tree.{Trees}
use Rattle.sqlite_value.specs.Order.{Row}
use Rattle.sqlite_value.specs.declared.value.Value.TheVariants.{Null}
use Rattle.sqlite_sql.specs.Term.{Term, lit, col}
use Rattle.sqlite_schema.specs.declared.schema.Column.{Column}
use Rattle.sqlite_schema.specs.declared.schema.Table.{Table as Columns}
use Rattle.sqlite_schema.specs.declared.command.Command.TheVariants.{Insert}
use Rattle.sqlite_schema.specs.declared.command.Source.{Source}
use Rattle.sqlite_schema.specs.declared.command.Source.TheVariants.{Values}
use Rattle.sqlite_rules.specs.declared.error.Rowids.TheVariants.{Chosen}
use Rattle.sqlite_rules.specs.Cast.{cast_row}
use Rattle.sqlite_rules.specs.Edit.{with_rowid}
use Rattle.sqlite.specs.declared.error.Error.{Error}
use Rattle.sqlite.specs.declared.run.Mode.{Mode}
use Rattle.sqlite.specs.Effect.{Database, value_rows}
use Rattle.sqlite.specs.Rows.{Task, stamped}
use Rattle.sqlite.specs.Does.{Tally, Does, OnRows}
use Rattle.sqlite.specs.Listing.{understood}
use Rattle.sqlite.proofs.Callers.{IsPlain, command_of}
use Rattle.vault_base.specs.declared.refusal.Table.{Table}
use Rattle.vault_audit_model.specs.Order.{place_of}
use Rattle.vault_audit_model.specs.Tables.{vault_schema}
use Rattle.vault_audit_schema.specs.Texts.{insert_text}
use Rattle.vault_store_edits.specs.Trees.{has_table, tree_of, columns_of}

-- a statement on the rows of a table of a vault, which registers contents that are kept outside, or doesn't
abbrev pub task_on : Bool → Option ℕ → Mode → Columns → Row → Task
task_on external limit mode base params = record { limit = limit; keys = mode.keys; schema = vault_schema external; table = record base { is_counted = false }; params = params }

-- ---- a row, as it is put in: with its number in the file, which is that of the key or is chosen by the store

-- the parameters from this one on
abbrev pub params_from : ℕ → List Column → List Term
params_from at [] = []
params_from at (c ∷ cs) = col 0 at ∷ params_from (at + 1) cs

abbrev pub terms_by : Option ℕ → List Column → List Term
terms_by None columns = lit Null ∷ params_from 0 columns
terms_by (Some at) columns = col 0 0 ∷ lit Null ∷ params_from 1 (drop 1 columns)

abbrev pub source_by : Option ℕ → Row → Row
source_by None row = Null ∷ row
source_by (Some at) [] = []
source_by (Some at) (id ∷ row) = id ∷ Null ∷ row

-- ---- the statement

-- of these columns, with this row as its parameters
abbrev pub insert_of : Columns → Source
insert_of made = Values (terms_by made.key made.columns) (length made.columns + 1)

-- over the tables of such a vault the text of the statement is understood as this insertion into the table
pub record IsInsertion (external : Bool) (t : Table) (made : Columns) : Type 0 where
  pub there : IsTrue (has_table external t)
  pub command : command_of (understood (vault_schema external) (insert_text made)) ≡ Insert (place_of t) (insert_of made)
  pub plain : IsPlain (understood (vault_schema external) (insert_text made))
  pub places : (limit : Option ℕ) (mode : Mode) (row : Row) (text : List ℕ) (db : Trees) (out : Result (Tally × Database) (Option Error)) → Does limit mode row (record { schema = vault_schema external; trees = db }) text None (Insert (place_of t) (insert_of made)) out
      → OnRows (task_on external limit mode made row) mode None (Insert (place_of t) (insert_of made)) db out

-- it puts the row into the table
pub record Inserts (external : Bool) (t : Table) (made : Columns) (row : Row) : Type 0 where
  pub text : IsInsertion external t made
  pub one : value_rows (stamped made row) (length made.columns + 1) (length (terms_by made.key made.columns) / (length made.columns + 1)) (terms_by made.key made.columns) ≡ source_by made.key row ∷ []
  pub here : made.tree ≡ tree_of t
  pub reads_so : (rows : List Row) → columns_of external t (with_rowid Chosen rows (cast_row made (drop 0 (source_by made.key row)))) ≡ row
