-- What the texts of the reads mean.
use Rattle.std.proofs.Common.{ℕ, List, [], ◌∷◌, codes, true, false, refl}
use Rattle.sqlite_tied.specs.Compute.{everything}
use Rattle.sqlite_value.specs.declared.keys.Collation.TheVariants.{Binary}
use Rattle.sqlite_sql.specs.Term.{Term, col, op2}
use Rattle.sqlite_sql.specs.declared.ops.BinaryOp.TheVariants.{Compare}
use Rattle.sqlite_sql.specs.declared.ops.CompareOp.TheVariants.{Eq}
use Rattle.sqlite.specs.Listing.{understood}
use Rattle.vault_audit_model.specs.Queries.{select_from}
use Rattle.vault_audit_model.specs.Tables.{meta, departments, callers, buckets, entries, contents, intake, heads, meta_tree, departments_tree, callers_tree, buckets_tree, entries_tree, contents_tree, intake_tree, heads_tree}
use Rattle.vault_audit_model.specs.declared.schema.SchemaVersion.TheVariants.{Third}
use Rattle.vault_audit_schema.specs.Selects.{meta_select, meta_terms}
use Rattle.vault_audit_schema.specs.Texts.{names_of, select_text, terms_of}
use Rattle.vault_store_reads.specs.Queries.{SelectsInBoth}

-- the column at this place is the parameter at that one, each counted from 0
abbrev pub where_is : ℕ → ℕ → Term
where_is at n = op2 (Compare Eq Binary) (col 1 at) (col 0 n)

-- ---- meta, as the third schema version has it: the fourth has its columns too

abbrev pub meta_text : List ℕ
meta_text = meta_select Third []

abbrev pub meta_shown : List Term
meta_shown = meta_terms Third

pub meta_selects : SelectsInBoth meta_text (select_from meta_tree [] meta_shown [])
unfolding understood everything
meta_selects false = record { names = names_of meta; is = refl; plain = (refl, refl); unlisted = refl }
meta_selects true = record { names = names_of meta; is = refl; plain = (refl, refl); unlisted = refl }

-- ---- departments

abbrev pub department_text : List ℕ
department_text = select_text departments (codes " WHERE name = ?1")

abbrev pub department_shown : List Term
department_shown = terms_of departments

pub department_selects : SelectsInBoth department_text (select_from departments_tree (where_is 1 0 ∷ []) department_shown [])
unfolding understood everything
department_selects false = record { names = names_of departments; is = refl; plain = (refl, refl); unlisted = refl }
department_selects true = record { names = names_of departments; is = refl; plain = (refl, refl); unlisted = refl }

-- ---- callers

abbrev pub caller_text : List ℕ
caller_text = select_text callers (codes " WHERE name = ?1")

abbrev pub caller_shown : List Term
caller_shown = terms_of callers

pub caller_selects : SelectsInBoth caller_text (select_from callers_tree (where_is 1 0 ∷ []) caller_shown [])
unfolding understood everything
caller_selects false = record { names = names_of callers; is = refl; plain = (refl, refl); unlisted = refl }
caller_selects true = record { names = names_of callers; is = refl; plain = (refl, refl); unlisted = refl }

-- ---- buckets

abbrev pub bucket_text : List ℕ
bucket_text = select_text buckets (codes " WHERE name = ?1")

abbrev pub bucket_shown : List Term
bucket_shown = terms_of buckets

pub bucket_selects : SelectsInBoth bucket_text (select_from buckets_tree (where_is 1 0 ∷ []) bucket_shown [])
unfolding understood everything
bucket_selects false = record { names = names_of buckets; is = refl; plain = (refl, refl); unlisted = refl }
bucket_selects true = record { names = names_of buckets; is = refl; plain = (refl, refl); unlisted = refl }

-- ---- entries

abbrev pub entry_text : List ℕ
entry_text = select_text entries (codes " WHERE id = ?1")

abbrev pub entry_shown : List Term
entry_shown = terms_of entries

pub entry_selects : SelectsInBoth entry_text (select_from entries_tree (where_is 0 0 ∷ []) entry_shown [])
unfolding understood everything
entry_selects false = record { names = names_of entries; is = refl; plain = (refl, refl); unlisted = refl }
entry_selects true = record { names = names_of entries; is = refl; plain = (refl, refl); unlisted = refl }

-- ---- contents

abbrev pub content_text : List ℕ
content_text = select_text contents (codes " WHERE id = ?1")

abbrev pub content_shown : List Term
content_shown = terms_of contents

pub content_selects : SelectsInBoth content_text (select_from contents_tree (where_is 0 0 ∷ []) content_shown [])
unfolding understood everything
content_selects false = record { names = names_of contents; is = refl; plain = (refl, refl); unlisted = refl }
content_selects true = record { names = names_of contents; is = refl; plain = (refl, refl); unlisted = refl }

-- ---- intake

abbrev pub note_text : List ℕ
note_text = select_text intake (codes " WHERE bucket = ?1 AND batch = ?2 AND line = ?3")

abbrev pub note_shown : List Term
note_shown = terms_of intake

pub note_selects : SelectsInBoth note_text (select_from intake_tree (where_is 1 0 ∷ where_is 2 1 ∷ where_is 3 2 ∷ []) note_shown [])
unfolding understood everything
note_selects false = record { names = names_of intake; is = refl; plain = (refl, refl); unlisted = refl }
note_selects true = record { names = names_of intake; is = refl; plain = (refl, refl); unlisted = refl }

-- ---- heads

abbrev pub head_text : List ℕ
head_text = select_text heads (codes " WHERE bucket = ?1 AND key = ?2")

abbrev pub head_shown : List Term
head_shown = terms_of heads

pub head_selects : SelectsInBoth head_text (select_from heads_tree (where_is 1 0 ∷ where_is 2 1 ∷ []) head_shown [])
unfolding understood everything
head_selects false = record { names = names_of heads; is = refl; plain = (refl, refl); unlisted = refl }
head_selects true = record { names = names_of heads; is = refl; plain = (refl, refl); unlisted = refl }
