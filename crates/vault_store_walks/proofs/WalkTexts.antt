-- What the texts of the walks mean, and that the tables of a vault answer them.
use Rattle.std.proofs.Common.{◌≡◌, ℕ, pos, List, [], ◌∷◌, codes, Bool, true, false, None, refl, arith}
use Rattle.sqlite_tied.specs.Compute.{everything}
use Rattle.sqlite_value.specs.declared.value.Value.TheVariants.{Null, Int, Text}
use Rattle.sqlite_value.specs.declared.keys.Collation.TheVariants.{Binary}
use Rattle.sqlite_sql.specs.declared.ops.BinaryOp.TheVariants.{Compare, Is}
use Rattle.sqlite_sql.specs.declared.ops.UnaryOp.TheVariants.{Not}
use Rattle.sqlite_sql.specs.declared.ops.CompareOp.TheVariants.{Eq, Lt}
use Rattle.sqlite_sql.specs.Term.{Term, lit, col, op1, op2}
use Rattle.sqlite_sql.specs.Query.{Query, inner, counted, end}
use Rattle.sqlite_schema.specs.declared.command.Command.TheVariants.{Select}
use Rattle.sqlite.specs.Listing.{understood}
use Rattle.sqlite.proofs.Callers.{command_of}
use Rattle.vault_audit_model.specs.Tables.{vault_schema, entries, entries_tree, tenures_tree}
use Rattle.vault_audit_schema.specs.Texts.{names_of, select_text, terms_of}
use Rattle.vault_store_reads.specs.Queries.{SelectsInBoth}
use Rattle.vault_store_reads.specs.Wants.{IsAskedWith}
use Rattle.vault_store_reads.proofs.OrderedTextLemmas.{entries_order, no_limit}
use Rattle.vault_store_reads.proofs.SelectLemmas.{select_of}

-- ---- the held versions of a bucket, each with its last tenure

abbrev pub sized_text : List ℕ
sized_text = codes "SELECT e.size, t.moment FROM entries AS e JOIN tenures AS t ON t.id = e.id WHERE e.bucket = ?1 AND e.marker = 0 AND e.removed IS NULL AND NOT EXISTS (SELECT 1 FROM tenures AS u WHERE u.id = t.id AND t.n < u.n)"

-- a tenure of the same version that comes after it
abbrev pub later_tests : List Term
later_tests = op2 (Compare Eq Binary) (col 3 1) (col 2 1) ∷ op2 (Compare Lt Binary) (col 2 2) (col 3 2) ∷ []

abbrev pub sized_tests : List Term
sized_tests =
    op2 (Compare Eq Binary) (col 2 1) (col 1 0) ∷ op2 (Compare Eq Binary) (col 1 2) (col 0 0) ∷ op2 (Compare Eq Binary) (col 1 4) (lit (Int (pos 0))) ∷ op2 (Is Binary) (col 1 10) (lit Null)
    ∷ op1 Not (col 3 0) ∷ []

abbrev pub sized_query : Query
sized_query = record {
  from = inner entries_tree (inner tenures_tree (counted 1 (inner tenures_tree end) later_tests end));
  filter = sized_tests;
  group = None;
  project = col 1 5 ∷ col 2 4 ∷ [];
  distinct = false;
  collations = [];
  order = [];
  limit = no_limit;
  offset = lit (Int (pos 0));
}

pub sized_is : SelectsInBoth sized_text sized_query
unfolding understood everything
sized_is false = record { names = codes "size" ∷ codes "moment" ∷ []; is = refl; plain = (refl, refl); unlisted = refl }
sized_is true = record { names = codes "size" ∷ codes "moment" ∷ []; is = refl; plain = (refl, refl); unlisted = refl }

pub sized_asked : (bucket : List ℕ) → IsAskedWith sized_text (Text bucket ∷ [])
unfolding understood everything
sized_asked bucket false = (omega (arith), refl, (refl, refl, refl, refl))
sized_asked bucket true = (omega (arith), refl, (refl, refl, refl, refl))

-- ---- the removed entries

abbrev pub removed_text : List ℕ
removed_text = select_text entries (codes " WHERE removed IS NOT NULL ORDER BY id")

abbrev pub removed_tests : List Term
removed_tests = op1 Not (op2 (Is Binary) (col 1 10) (lit Null)) ∷ []

abbrev pub removed_shown : List Term
removed_shown = terms_of entries

abbrev pub removed_names : List (List ℕ)
removed_names = names_of entries

pub removed_is : SelectsInBoth removed_text (select_of entries_tree removed_tests removed_shown entries_order no_limit)
unfolding understood everything
removed_is false = record { names = removed_names; is = refl; plain = (refl, refl); unlisted = refl }
removed_is true = record { names = removed_names; is = refl; plain = (refl, refl); unlisted = refl }

pub removed_command : (external : Bool) → command_of (understood (vault_schema external) removed_text) ≡ Select (record { lets = []; body = select_of entries_tree removed_tests removed_shown entries_order no_limit }) removed_names
unfolding understood everything
removed_command false = refl
removed_command true = refl

pub removed_asked : IsAskedWith removed_text []
unfolding understood everything
removed_asked false = (omega (arith), refl, (refl, refl, refl, refl))
removed_asked true = (omega (arith), refl, (refl, refl, refl, refl))
