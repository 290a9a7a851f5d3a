-- What the statements on entries, contents, external, settings, tenures, intake and heads mean.
use Rattle.std.proofs.Common.{inl, inr, Bool, true, false, ℕ, pos, List, [], ◌∷◌, codes, refl}
use Rattle.sqlite_tied.specs.Compute.{everything}
use Rattle.sqlite_value.specs.declared.keys.Collation.{Collation}
use Rattle.sqlite_value.specs.declared.keys.Collation.TheVariants.{Binary}
use Rattle.sqlite_sql.specs.declared.ops.BinaryOp.TheVariants.{Compare, Is}
use Rattle.sqlite_sql.specs.declared.ops.CompareOp.TheVariants.{Eq}
use Rattle.sqlite_sql.specs.Term.{op2}
use Rattle.sqlite_resolve.specs.declared.error.CompileError.TheVariants.{NoSuchTable}
use Rattle.sqlite.specs.declared.types.Value.TheVariants.{Null, Int}
use Rattle.sqlite.specs.Term.{Term, lit, col}
use Rattle.sqlite.specs.Source.TheVariants.{Query}
use Rattle.sqlite.specs.Command.TheVariants.{Insert, Update, Delete}
use Rattle.sqlite.specs.Listing.{listing_schema, understood}
use Rattle.vault_audit_model.specs.Queries.{table_scan}
use Rattle.vault_audit_model.specs.Tables.{entries_tree, contents_tree, external_tree, heads_tree, tenures, vault_schema}
use Rattle.vault_audit_schema.specs.Texts.{insert_into_text}
use Rattle.vault_store_model.specs.Scans.{scan_as}
use Rattle.vault_store_edits.specs.Queries.{IsUnknown, SelectsIfKnown, equals, rowids_where}
use Rattle.vault_store_edits.proofs.StatementLemmas.{Means}

-- ---- entries

-- the rowid, which is the id, is the first parameter
abbrev pub by_id : List Term
by_id = equals 0 0 ∷ []

abbrev pub removed_text : List ℕ
removed_text = codes "UPDATE entries SET removed = ?2, cause = ?3, cause_by = ?4 WHERE id = ?1"

abbrev pub removed_project : List Term
removed_project =
    col 1 0 ∷ lit Null ∷ col 1 2 ∷ col 1 3 ∷ col 1 4 ∷ col 1 5 ∷ col 1 6 ∷ col 1 7 ∷ col 1 8 ∷ col 1 9 ∷ col 0 1 ∷ col 0 2 ∷ col 0 3 ∷ []

pub removed_is : (external : Bool) → Means external removed_text (Update 5 (record { lets = []; body = table_scan entries_tree by_id (col 1 0 ∷ removed_project) }))
unfolding understood everything
removed_is false = record { command = refl; plain = (refl, refl) }
removed_is true = record { command = refl; plain = (refl, refl) }

pub finds_entry : (external : Bool) → SelectsIfKnown (vault_schema external) (codes "SELECT id FROM entries WHERE id = ?1") (rowids_where entries_tree by_id)
unfolding understood everything
finds_entry false = inl (record { names = codes "id" ∷ []; is = refl; plain = (refl, refl); unlisted = refl })
finds_entry true = inl (record { names = codes "id" ∷ []; is = refl; plain = (refl, refl); unlisted = refl })

-- ---- contents

abbrev pub no_content_text : List ℕ
no_content_text = codes "DELETE FROM contents WHERE id = ?1"

pub no_content_is : (external : Bool) → Means external no_content_text (Delete 6 (record { lets = []; body = table_scan contents_tree by_id (col 1 0 ∷ []) }))
unfolding understood everything
no_content_is false = record { command = refl; plain = (refl, refl) }
no_content_is true = record { command = refl; plain = (refl, refl) }

pub finds_content : (external : Bool) → SelectsIfKnown (vault_schema external) (codes "SELECT id FROM contents WHERE id = ?1") (rowids_where contents_tree by_id)
unfolding understood everything
finds_content false = inl (record { names = codes "id" ∷ []; is = refl; plain = (refl, refl); unlisted = refl })
finds_content true = inl (record { names = codes "id" ∷ []; is = refl; plain = (refl, refl); unlisted = refl })

-- ---- external

abbrev pub no_external_text : List ℕ
no_external_text = codes "DELETE FROM external WHERE id = ?1"

pub no_external_is : Means true no_external_text (Delete 11 (record { lets = []; body = table_scan external_tree by_id (col 1 0 ∷ []) }))
unfolding understood everything
no_external_is = record { command = refl; plain = (refl, refl) }

pub no_external_unknown : IsUnknown (vault_schema false) no_external_text
unfolding understood listing_schema everything
no_external_unknown = (NoSuchTable, refl)

pub finds_external : (external : Bool) → SelectsIfKnown (vault_schema external) (codes "SELECT id FROM external WHERE id = ?1") (rowids_where external_tree by_id)
unfolding understood listing_schema everything
finds_external false = inr (NoSuchTable, refl)
finds_external true = inl (record { names = codes "id" ∷ []; is = refl; plain = (refl, refl); unlisted = refl })

-- ---- settings, tenures and intake

abbrev pub moved_text : List ℕ
moved_text = insert_into_text tenures (codes " SELECT id, ?2, ?3, ?4 FROM entries WHERE bucket = ?1 AND marker = 0 AND removed IS NULL")

-- the bucket is the first parameter, and the entry is a version that isn't removed
abbrev pub moved_tests : List Term
moved_tests = op2 (Compare Eq Binary) (col 1 2) (col 0 0) ∷ op2 (Compare Eq Binary) (col 1 4) (lit (Int (pos 0))) ∷ op2 (Is Binary) (col 1 10) (lit Null) ∷ []

abbrev pub moved_project : List Term
moved_project = lit Null ∷ col 1 0 ∷ col 0 1 ∷ col 0 2 ∷ col 0 3 ∷ []

abbrev pub moved_collations : List Collation
moved_collations = Binary ∷ Binary ∷ Binary ∷ Binary ∷ Binary ∷ []

pub moved_is : (external : Bool) → Means external moved_text (Insert 10 (Query (record { lets = []; body = scan_as moved_collations entries_tree moved_tests moved_project })))
unfolding understood everything
moved_is false = record { command = refl; plain = (refl, refl) }
moved_is true = record { command = refl; plain = (refl, refl) }

-- ---- heads

-- the first two columns are the first two parameters
abbrev pub by_key : List Term
by_key = equals 1 0 ∷ equals 2 1 ∷ []

abbrev pub newer_text : List ℕ
newer_text = codes "UPDATE heads SET newest = ?3, count = ?4 WHERE bucket = ?1 AND key = ?2"

abbrev pub newer_project : List Term
newer_project = col 1 0 ∷ col 1 1 ∷ col 1 2 ∷ col 0 2 ∷ col 0 3 ∷ []

pub newer_is : (external : Bool) → Means external newer_text (Update 9 (record { lets = []; body = table_scan heads_tree by_key (col 1 0 ∷ newer_project) }))
unfolding understood everything
newer_is false = record { command = refl; plain = (refl, refl) }
newer_is true = record { command = refl; plain = (refl, refl) }

abbrev pub no_head_text : List ℕ
no_head_text = codes "DELETE FROM heads WHERE bucket = ?1 AND key = ?2"

pub no_head_is : (external : Bool) → Means external no_head_text (Delete 9 (record { lets = []; body = table_scan heads_tree by_key (col 1 0 ∷ []) }))
unfolding understood everything
no_head_is false = record { command = refl; plain = (refl, refl) }
no_head_is true = record { command = refl; plain = (refl, refl) }

pub finds_head : (external : Bool) → SelectsIfKnown (vault_schema external) (codes "SELECT rowid FROM heads WHERE bucket = ?1 AND key = ?2") (rowids_where heads_tree by_key)
unfolding understood everything
finds_head false = inl (record { names = codes "rowid" ∷ []; is = refl; plain = (refl, refl); unlisted = refl })
finds_head true = inl (record { names = codes "rowid" ∷ []; is = refl; plain = (refl, refl); unlisted = refl })
