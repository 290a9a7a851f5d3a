-- What the statements of `Listings` show of the tables of a schema version, and what they put in.
use Rattle.std.proofs.Common.{◌≡◌, ℕ, pos, negsuc, List, [], ◌∷◌, Bool, None, true, false, codes, refl, IsTrue, sym, true≢false}
use Rattle.sqlite_tied.specs.Compute.{everything}
use Rattle.sqlite_value.specs.declared.value.Value.TheVariants.{Int}
use Rattle.sqlite_value.specs.declared.keys.Collation.TheVariants.{Binary}
use Rattle.sqlite_sql.specs.declared.ops.BinaryOp.TheVariants.{Compare}
use Rattle.sqlite_sql.specs.declared.ops.CompareOp.TheVariants.{Eq}
use Rattle.sqlite_sql.specs.Term.{Term, lit, col, op2}
use Rattle.sqlite_sql.specs.Query.{Query, inner, end}
use Rattle.sqlite.specs.Command.TheVariants.{Select}
use Rattle.sqlite.specs.Listing.{understood, reads_listing}
use Rattle.sqlite.proofs.Callers.{IsPlain, command_of}
use Rattle.vault_base.specs.declared.refusal.Table.{Table}
use Rattle.vault_base.specs.declared.refusal.Table.TheVariants as table
use Rattle.vault_audit_model.specs.declared.schema.SchemaVersion.{SchemaVersion}
use Rattle.vault_audit_model.specs.declared.schema.SchemaVersion.TheVariants.{First, Second, Third, Fourth}
use Rattle.vault_audit_model.specs.SchemaVersions.{number_of, edition_of, newest}
use Rattle.vault_audit_model.specs.Queries.{table_scan, Selects}
use Rattle.vault_audit_model.specs.Tables.{schema_of, entries_tree, buckets_tree}
use Rattle.vault_audit_schema.specs.Selects.{department_terms, rule_terms, table_as}
use Rattle.vault_audit_schema.specs.Texts.{names_of as all_names, terms_of as all_terms}
use Rattle.vault_store_edits.specs.Trees.{has_table, tree_of}
use Rattle.vault_store_create.specs.Listings.{listing_of, number_shown, moves_shown, tenures_listing, first_tenures_listing}

-- ---- queries

-- how often a bucket was moved
abbrev pub move_term : SchemaVersion → Term
move_term First = lit (Int (pos 0))
move_term Second = lit (Int (pos 0))
move_term Third = col 1 5
move_term Fourth = col 1 5

-- what is shown of each row
abbrev pub terms_of : Bool → SchemaVersion → Table → List Term
terms_of external n table.Meta =
    col 1 0 ∷ lit (Int (pos (number_of (edition_of external)))) ∷ col 1 3 ∷ col 1 4 ∷ move_term n ∷ lit (Int (pos 0)) ∷ lit (Int (pos 1)) ∷ []
terms_of external n table.Departments = department_terms n
terms_of external n table.Rules = rule_terms n
terms_of external n t = all_terms (table_as n t)

abbrev pub names_of : Bool → SchemaVersion → Table → List (List ℕ)
names_of external n table.Meta = codes "one" ∷ number_shown external ∷ codes "last" ∷ codes "next" ∷ moves_shown n ∷ codes "0" ∷ codes "1" ∷ []
names_of external n t = all_names (table_as newest t)

abbrev pub Reads : Bool → SchemaVersion → Table → Type 0
Reads external n t = Selects (schema_of n) (listing_of external n t) (table_scan (tree_of t) [] (terms_of external n t))

pub reads_meta : (external : Bool) (n : SchemaVersion) → Reads external n table.Meta
unfolding understood everything
reads_meta false First = record { names = names_of false First table.Meta; is = refl; plain = (refl, refl); unlisted = refl }
reads_meta false Second = record { names = names_of false Second table.Meta; is = refl; plain = (refl, refl); unlisted = refl }
reads_meta false Third = record { names = names_of false Third table.Meta; is = refl; plain = (refl, refl); unlisted = refl }
reads_meta false Fourth = record { names = names_of false Fourth table.Meta; is = refl; plain = (refl, refl); unlisted = refl }
reads_meta true First = record { names = names_of true First table.Meta; is = refl; plain = (refl, refl); unlisted = refl }
reads_meta true Second = record { names = names_of true Second table.Meta; is = refl; plain = (refl, refl); unlisted = refl }
reads_meta true Third = record { names = names_of true Third table.Meta; is = refl; plain = (refl, refl); unlisted = refl }
reads_meta true Fourth = record { names = names_of true Fourth table.Meta; is = refl; plain = (refl, refl); unlisted = refl }

pub reads_departments : (external : Bool) (n : SchemaVersion) → Reads external n table.Departments
unfolding understood everything
reads_departments external First = record { names = names_of external First table.Departments; is = refl; plain = (refl, refl); unlisted = refl }
reads_departments external Second = record { names = names_of external Second table.Departments; is = refl; plain = (refl, refl); unlisted = refl }
reads_departments external Third = record { names = names_of external Third table.Departments; is = refl; plain = (refl, refl); unlisted = refl }
reads_departments external Fourth = record { names = names_of external Fourth table.Departments; is = refl; plain = (refl, refl); unlisted = refl }

pub reads_callers : (external : Bool) (n : SchemaVersion) → Reads external n table.Callers
unfolding understood everything
reads_callers external n = record { names = names_of external n table.Callers; is = refl; plain = (refl, refl); unlisted = refl }

pub reads_buckets : (external : Bool) (n : SchemaVersion) → Reads external n table.Buckets
unfolding understood everything
reads_buckets external n = record { names = names_of external n table.Buckets; is = refl; plain = (refl, refl); unlisted = refl }

pub reads_rules : (external : Bool) (n : SchemaVersion) → Reads external n table.Rules
unfolding understood everything
reads_rules external First = record { names = names_of external First table.Rules; is = refl; plain = (refl, refl); unlisted = refl }
reads_rules external Second = record { names = names_of external Second table.Rules; is = refl; plain = (refl, refl); unlisted = refl }
reads_rules external Third = record { names = names_of external Third table.Rules; is = refl; plain = (refl, refl); unlisted = refl }
reads_rules external Fourth = record { names = names_of external Fourth table.Rules; is = refl; plain = (refl, refl); unlisted = refl }

pub reads_entries : (external : Bool) (n : SchemaVersion) → Reads external n table.Entries
unfolding understood everything
reads_entries external n = record { names = names_of external n table.Entries; is = refl; plain = (refl, refl); unlisted = refl }

pub reads_contents : (external : Bool) (n : SchemaVersion) → Reads external n table.Contents
unfolding understood everything
reads_contents external n = record { names = names_of external n table.Contents; is = refl; plain = (refl, refl); unlisted = refl }

pub reads_settings : (external : Bool) (n : SchemaVersion) → Reads external n table.Settings
unfolding understood everything
reads_settings external n = record { names = names_of external n table.Settings; is = refl; plain = (refl, refl); unlisted = refl }

pub reads_intake : (external : Bool) (n : SchemaVersion) → Reads external n table.Intake
unfolding understood everything
reads_intake external n = record { names = names_of external n table.Intake; is = refl; plain = (refl, refl); unlisted = refl }

pub reads_heads : (external : Bool) (n : SchemaVersion) → Reads external n table.Heads
unfolding understood everything
reads_heads external n = record { names = names_of external n table.Heads; is = refl; plain = (refl, refl); unlisted = refl }

pub reads_tenures : (external : Bool) → Reads external Third table.Tenures
unfolding understood everything
reads_tenures external = record { names = names_of external Third table.Tenures; is = refl; plain = (refl, refl); unlisted = refl }

pub reads_tenures_later : (external : Bool) → Reads external Fourth table.Tenures
unfolding understood everything
reads_tenures_later external = record { names = names_of external Fourth table.Tenures; is = refl; plain = (refl, refl); unlisted = refl }

-- ---- tenures of a schema version that has no table for them

-- each entry beside the bucket of its name, if it is no marker
abbrev pub pairs : Query
pairs = record {
  from = inner entries_tree (inner buckets_tree end);
  filter = op2 (Compare Eq Binary) (col 2 1) (col 1 2) ∷ op2 (Compare Eq Binary) (col 1 4) (lit (Int (pos 0))) ∷ [];
  group = None;
  project = col 1 0 ∷ lit (Int (pos 0)) ∷ col 2 2 ∷ col 1 7 ∷ [];
  distinct = false;
  collations = [];
  order = [];
  limit = lit (Int (negsuc 0));
  offset = lit (Int (pos 0));
}

pub pairs_are : (n : SchemaVersion) → command_of (understood (schema_of n) first_tenures_listing) ≡ Select (record { lets = []; body = pairs }) (codes "id" ∷ codes "0" ∷ codes "dept" ∷ codes "admitted" ∷ [])
unfolding understood everything
pairs_are n = refl

pub pairs_unlisted : (n : SchemaVersion) → reads_listing (schema_of n) first_tenures_listing ≡ false
unfolding understood everything
pairs_unlisted n = refl

pub pairs_plain : (n : SchemaVersion) → IsPlain (understood (schema_of n) first_tenures_listing)
unfolding understood everything
pairs_plain n = (refl, refl)

tenures_plain : (n : SchemaVersion) → IsPlain (understood (schema_of n) (tenures_listing n))
tenures_plain First = pairs_plain First
tenures_plain Second = pairs_plain Second
tenures_plain Third = (reads_tenures false).plain
tenures_plain Fourth = (reads_tenures_later false).plain

-- ---- no query writes

-- of a table that each vault has
pub reads_only : (external : Bool) (n : SchemaVersion) (t : Table) → IsTrue (has_table false t) → IsPlain (understood (schema_of n) (listing_of external n t))
reads_only external n table.Meta there = (reads_meta external n).plain
reads_only external n table.Departments there = (reads_departments external n).plain
reads_only external n table.Callers there = (reads_callers external n).plain
reads_only external n table.Buckets there = (reads_buckets external n).plain
reads_only external n table.Rules there = (reads_rules external n).plain
reads_only external n table.Entries there = (reads_entries external n).plain
reads_only external n table.Contents there = (reads_contents external n).plain
reads_only external n table.Settings there = (reads_settings external n).plain
reads_only external n table.Intake there = (reads_intake external n).plain
reads_only external n table.Heads there = (reads_heads external n).plain
reads_only external n table.Tenures there = tenures_plain n
reads_only external n table.External there = absurd (true≢false (sym there))
