-- Queries over one table that keep no order.
use Rattle.std.specs.Prelude.{Bool, List, [], ◌∷◌, ℕ}
use Rattle.std.specs.List.{list_all}
use Rattle.sqlite_value.specs.declared.keys.Collation.{Collation}
use Rattle.sqlite_value.specs.Order.{Row}
use Rattle.sqlite.specs.Term.{Term, eval_all, holds}
use Rattle.sqlite.specs.Query.{Query}
use Rattle.vault_audit_model.specs.Queries.{table_scan}

-- SELECT project FROM t WHERE tests, of rows that are to be put into a table, which have a collation for each column
abbrev pub scan_as : List Collation → ℕ → List Term → List Term → Query
scan_as collations t tests project = record (table_scan t tests project) { collations = collations }

-- the row passes WHERE, with these parameters
abbrev pub passes : List Term → Row → Row → Bool
passes tests params r = list_all (holds (params ∷ r ∷ [])) tests

-- what is shown of the row
abbrev pub shows : List Term → Row → Row → Row
shows project params r = eval_all project (params ∷ r ∷ [])
