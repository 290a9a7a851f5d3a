-- What the first looks at entries and at meta read, where the tables up to that one are known and others may stand after them.
use Rattle.std.proofs.Common.{List, ℕ, [], codes, drop, refl, arith}
use Rattle.sqlite_tied.specs.Compute.{everything}
use Rattle.sqlite.specs.Schema.{Schema}
use Rattle.sqlite.specs.Listing.{understood}
use Rattle.vault_base.specs.declared.refusal.Table.TheVariants as table
use Rattle.vault_audit_model.specs.declared.schema.SchemaVersion.{SchemaVersion}
use Rattle.vault_audit_model.specs.declared.schema.SchemaVersion.TheVariants.{First, Second, Third, Fourth}
use Rattle.vault_audit_model.specs.Queries.{table_scan, Selects}
use Rattle.vault_audit_model.specs.Tables.{meta, meta_tree, entries, entries_tree}
use Rattle.vault_audit_schema.specs.Places.{BeginTo}
use Rattle.vault_audit_schema.specs.Selects.{meta_select, meta_terms}
use Rattle.vault_audit_schema.specs.Texts.{names_of, select_text, terms_of}
use Rattle.vault_audit_rows.proofs.ScanLemmas.{walk_of}
use Rattle.vault_audit_rows.specs.Health.{Asks}
use Rattle.vault_audit.specs.Begun.{as_begun}

-- ---- entries

abbrev pub entries_text : List ℕ
entries_text = select_text entries []

abbrev pub EntriesScan : Schema → Type 0
EntriesScan s = Selects s entries_text (table_scan entries_tree [] (terms_of entries))

pub entries_scan : (n : SchemaVersion) (s : Schema) → BeginTo n s.tables table.Entries → EntriesScan s
unfolding understood everything
entries_scan n s begin = as_begun EntriesScan n s table.Entries begin (record { names = names_of entries; is = refl; plain = (refl, refl); unlisted = refl })

pub entries_asks : (n : SchemaVersion) (s : Schema) → BeginTo n s.tables table.Entries → Asks s entries_text
unfolding understood everything
entries_asks n s begin = as_begun (λ x. Asks x entries_text) n s table.Entries begin (record { is = (omega (arith), refl, (refl, refl, refl, refl)); unlisted = refl })

-- ---- the walk over meta

abbrev pub meta_query : SchemaVersion → List ℕ
meta_query n = meta_select n (codes " ORDER BY one")

-- what it is in such a schema
abbrev pub WalksMeta : SchemaVersion → Schema → Type 0
WalksMeta n s = Selects s (meta_query n) (walk_of meta_tree 0 (drop 1 (meta_terms n)))

pub meta_walks : (n : SchemaVersion) (s : Schema) → BeginTo n s.tables table.Meta → WalksMeta n s
unfolding understood everything
meta_walks First s begin = as_begun (WalksMeta First) First s table.Meta begin (record { names = names_of meta; is = refl; plain = (refl, refl); unlisted = refl })
meta_walks Second s begin = as_begun (WalksMeta Second) Second s table.Meta begin (record { names = names_of meta; is = refl; plain = (refl, refl); unlisted = refl })
meta_walks Third s begin = as_begun (WalksMeta Third) Third s table.Meta begin (record { names = names_of meta; is = refl; plain = (refl, refl); unlisted = refl })
meta_walks Fourth s begin = as_begun (WalksMeta Fourth) Fourth s table.Meta begin (record { names = names_of meta; is = refl; plain = (refl, refl); unlisted = refl })

pub meta_asks : (n : SchemaVersion) (s : Schema) → BeginTo n s.tables table.Meta → Asks s (meta_query n)
unfolding understood everything
meta_asks First s begin = as_begun (λ x. Asks x (meta_query First)) First s table.Meta begin (record { is = (omega (arith), refl, (refl, refl, refl, refl)); unlisted = refl })
meta_asks Second s begin = as_begun (λ x. Asks x (meta_query Second)) Second s table.Meta begin (record { is = (omega (arith), refl, (refl, refl, refl, refl)); unlisted = refl })
meta_asks Third s begin = as_begun (λ x. Asks x (meta_query Third)) Third s table.Meta begin (record { is = (omega (arith), refl, (refl, refl, refl, refl)); unlisted = refl })
meta_asks Fourth s begin = as_begun (λ x. Asks x (meta_query Fourth)) Fourth s table.Meta begin (record { is = (omega (arith), refl, (refl, refl, refl, refl)); unlisted = refl })
