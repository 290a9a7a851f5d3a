-- What the query for all rows of external shows, and what they have to be.
use Rattle.std.specs.Prelude.{⊤}
use Rattle.std.proofs.Common.{[], map, false, refl, arith}
use Rattle.sqlite_tied.specs.Compute.{everything}
use Rattle.sqlite.specs.Effect.{Database}
use Rattle.sqlite.specs.Listing.{understood}
use Rattle.sqlite.specs.Schema.{Schema}
use Rattle.vault_base.specs.declared.refusal.Table.TheVariants as table
use Rattle.vault_core_model.specs.Vault.{Vault}
use Rattle.vault_audit_model.specs.declared.schema.SchemaVersion.{SchemaVersion}
use Rattle.vault_audit_model.specs.declared.schema.SchemaVersion.TheVariants.{First, Second, Third, Fourth}
use Rattle.vault_audit_model.specs.Limits.{IsExternalRow}
use Rattle.vault_audit_model.specs.Rows.{external_row, external_columns}
use Rattle.vault_audit_model.specs.Spells.{AreSoundAs}
use Rattle.vault_audit_model.specs.Tables.{external, external_tree}
use Rattle.vault_audit_schema.specs.Places.{BeginTo}
use Rattle.vault_audit_schema.specs.Texts.{names_of, select_text, terms_of}
use Rattle.vault_audit_rows.specs.Records.{AreRecords}
use Rattle.vault_audit_records.proofs.DamageLemmas.{no_external}
use Rattle.vault_audit.specs.Begun.{as_begun}
use Rattle.vault_audit.specs.ShowsAll.{ShowsAll}

-- the schema version has the table
abbrev pub HasExternalTable : SchemaVersion → Type 0
HasExternalTable First = ⊥
HasExternalTable Second = ⊥
HasExternalTable Third = ⊥
HasExternalTable Fourth = ⊤

abbrev Shows : Schema → Type 0
Shows s = ShowsAll s (select_text external []) external_tree external_columns

pub external_shows_all : (n : SchemaVersion) (s : Schema) → HasExternalTable n → BeginTo n s.tables table.External → Shows s
unfolding understood everything
external_shows_all First s has begin = absurd has
external_shows_all Second s has begin = absurd has
external_shows_all Third s has begin = absurd has
external_shows_all Fourth s has begin = as_begun Shows Fourth s table.External begin (record {
  terms = terms_of external;
  scans = record { names = names_of external; is = refl; plain = (refl, refl); unlisted = refl };
  asks = record { is = (omega (arith), refl, (refl, refl, refl, refl)); unlisted = refl };
  alike = λ rows. refl;
})

pub external_unsound : (n : SchemaVersion) (db : Database) (v : Vault) → HasExternalTable n → AreRecords external_row IsExternalRow (map external_columns (db.trees external_tree)) false → ¬ AreSoundAs n db v
external_unsound First db v has none = absurd has
external_unsound Second db v has none = absurd has
external_unsound Third db v has none = absurd has
external_unsound Fourth db v has none = no_external Fourth db v none
