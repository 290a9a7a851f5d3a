-- Rows that are put into one table for rows of another.
use Rattle.std.specs.Prelude.{ℕ, ◌==◌, ◌&&◌, Bool, true, cond, List, [], ◌∷◌, ◌++◌, map, filter}
use Rattle.sqlite_value.specs.declared.value.Value.TheVariants.{Null, Text}
use Rattle.sqlite_value.specs.declared.keys.Collation.TheVariants.{Binary}
use Rattle.sqlite_value.specs.Order.{Row, column}
use Rattle.sqlite_schema.specs.declared.schema.Kind.TheVariants as kind
use Rattle.sqlite_rules.specs.Cast.{cast}
use Rattle.sqlite_sql.specs.declared.ops.BinaryOp.TheVariants.{Compare, Is}
use Rattle.sqlite_sql.specs.declared.ops.CompareOp.TheVariants.{Eq}
use Rattle.sqlite_sql.specs.Ops.{binary, is_true}
use Rattle.vault_base.specs.declared.refusal.Table.{Table}
use Rattle.vault_base.specs.declared.refusal.Table.TheVariants as table
use Rattle.vault_audit_model.specs.Order.{place_of}
use Rattle.vault_audit_model.specs.Values.{number}
use Rattle.vault_store_model.specs.Rows.{Rows}

-- for each row of one table that passes the test, a row more in another
abbrev pub with_copies : Table → Table → (Row → Bool) → (Row → Row) → Rows → Rows
with_copies t from test made xs s = cond (place_of t == place_of s) (map made (filter test (xs from)) ++ xs s) (xs s)

-- the row of an entry states a held version of that bucket, as SQL compares
abbrev pub is_held_version : List ℕ → Row → Bool
is_held_version bucket row =
    is_true (binary (Compare Eq Binary) (column row 1) (Text bucket))
    && (is_true (binary (Compare Eq Binary) (column row 3) (number 0)) && (is_true (binary (Is Binary) (column row 9) Null) && true))

-- the row of the tenure that an entry gets: its id, the number of the move, the department, the moment
abbrev pub moved_row : ℕ → List ℕ → ℕ → Row → Row
moved_row n dept at row = cast kind.Integer (column row 0) ∷ number n ∷ Text dept ∷ number at ∷ []

-- each held version of a bucket has a tenure more
abbrev pub with_tenures : List ℕ → ℕ → List ℕ → ℕ → Rows → Rows
with_tenures bucket n dept at = with_copies table.Tenures table.Entries (is_held_version bucket) (moved_row n dept at)
