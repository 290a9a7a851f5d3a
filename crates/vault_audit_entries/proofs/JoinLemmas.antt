-- A query that shows each row of a table beside the entry that it names, or beside NULLs.
use Rattle.std.proofs.Common.{◌≡◌, ℕ, List, [], ◌∷◌, map, filter, flat_map, false, Ordering, IsPermutation, IsSorted, refl}
use Rattle.sqlite_trees.specs.Tree.{Trees}
use Rattle.sqlite_value.specs.declared.keys.Key.{Key}
use Rattle.sqlite_value.specs.Order.{Row, column}
use Rattle.sqlite_sql.specs.Term.{Term, eval_all}
use Rattle.sqlite_sql.specs.Query.{Query, or_nulls}
use Rattle.sqlite_sql.specs.Program.{overlay}
use Rattle.sqlite_schema.specs.declared.schema.Schema.{Schema}
use Rattle.sqlite_schema.specs.declared.command.Command.TheVariants.{Select}
use Rattle.sqlite.specs.Listing.{understood, reads_listing}
use Rattle.sqlite.specs.State.{State, Shown}
use Rattle.sqlite.proofs.Callers.{IsPlain, command_of}
use Rattle.vault_audit_rows.proofs.JoinLemmas.{joined_of, joined_with, IsOrderOf}
use Rattle.vault_audit_entries.proofs.BesideLemmas.{is_of}

-- SELECT columns FROM t AS a LEFT JOIN entries AS e ON e.id = a.(at) ORDER BY order
abbrev pub beside_of : ℕ → ℕ → List Term → List (Term × Key) → Query
beside_of t at columns order = joined_of t 9 0 at columns order

-- what it shows for one row
abbrev pub shown_beside : ℕ → List Term → Trees → Row → List Row
shown_beside at columns db r = map (λ e. eval_all columns ([] ∷ r ∷ e ∷ [])) (or_nulls (filter (is_of (column r at)) (db 9)))

abbrev pub join_rows : ℕ → ℕ → List Term → Trees → List Row
join_rows t at columns db = flat_map (shown_beside at columns db) (db t)

-- the answer of such a statement
pub joined : (sql : List ℕ) (old new : State) (schema : Schema) → old.now.schema ≡ schema → IsPlain (understood schema sql) → reads_listing schema sql ≡ false → (t at : ℕ) (columns : List Term) (order : List (Term × Key)) (by : Row → Row → Ordering) (names : List (List ℕ))
    → command_of (understood schema sql) ≡ Select (record { lets = []; body = beside_of t at columns order }) names → IsOrderOf (beside_of t at columns order) by → overlay old.now.trees [] t ≡ old.now.trees t → (rows : List Row) → Shown sql [] old new rows
    → IsPermutation (join_rows t at columns old.now.trees) rows × IsSorted by rows
joined sql old new schema has plain unlisted t at columns order by names is same bare rows h =
    joined_with sql old new schema has plain unlisted t 9 0 at columns order by names is same bare refl rows h
