-- Texts of SQL that are one query over tables of a schema.
use Rattle.std.specs.Prelude.{◌≡◌, ℕ, pos, negsuc, false, List, [], None}
use Rattle.sqlite_value.specs.declared.value.Value.TheVariants.{Int}
use Rattle.sqlite_value.specs.declared.keys.Key.{Key}
use Rattle.sqlite_sql.specs.Term.{Term, lit}
use Rattle.sqlite_sql.specs.Query.{Query, inner, end}
use Rattle.sqlite_schema.specs.declared.schema.Schema.{Schema}
use Rattle.sqlite_schema.specs.declared.command.Command.TheVariants.{Select}
use Rattle.sqlite.specs.Given.{IsPlain}
use Rattle.sqlite.specs.Listing.{understood, reads_listing}
use Rattle.vault_audit_model.specs.Commands.{commanded}

-- SELECT project FROM t WHERE tests ORDER BY order
abbrev pub select_from : ℕ → List Term → List Term → List (Term × Key) → Query
select_from t tests project order = record {
  from = inner t end;
  filter = tests;
  group = None;
  project = project;
  distinct = false;
  collations = [];
  order = order;
  limit = lit (Int (negsuc 0));
  offset = lit (Int (pos 0));
}

-- the same in any order
abbrev pub table_scan : ℕ → List Term → List Term → Query
table_scan t tests project = select_from t tests project []

-- over tables of that schema the text asks for this and does nothing else, and doesn't ask for the list of the tables
pub record Selects (schema : Schema) (sql : List ℕ) (q : Query) : Type 0 where
  pub names : List (List ℕ)
  pub is : commanded (understood schema sql) ≡ Select (record { lets = []; body = q }) names
  pub plain : IsPlain (understood schema sql)
  pub unlisted : reads_listing schema sql ≡ false
