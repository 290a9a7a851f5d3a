-- What the query for all rows of tenures shows, and what they have to be.
use Rattle.std.proofs.Common.{[], map, false, refl, arith}
use Rattle.sqlite_tied.specs.Compute.{everything}
use Rattle.sqlite.specs.Effect.{Database}
use Rattle.sqlite.specs.Listing.{understood}
use Rattle.sqlite.specs.Schema.{Schema}
use Rattle.vault_base.specs.declared.refusal.Table.TheVariants as table
use Rattle.vault_core_model.specs.Vault.{Vault}
use Rattle.vault_audit_model.specs.declared.schema.SchemaVersion.{SchemaVersion}
use Rattle.vault_audit_model.specs.declared.schema.SchemaVersion.TheVariants.{First, Second, Third, Fourth}
use Rattle.vault_audit_model.specs.Limits.{IsTenureRow}
use Rattle.vault_audit_model.specs.Rows.{tenure_row, tenure_columns}
use Rattle.vault_audit_model.specs.Spells.{AreSoundAs}
use Rattle.vault_audit_model.specs.Tables.{tenures, tenures_tree}
use Rattle.vault_audit_schema.specs.Places.{BeginTo}
use Rattle.vault_audit_schema.specs.Texts.{names_of, select_text, terms_of}
use Rattle.vault_audit_rows.specs.Records.{AreRecords}
use Rattle.vault_audit_records.proofs.DamageLemmas.{no_tenures}
use Rattle.vault_audit_tenures.specs.Decided.{HasTenuresTable}
use Rattle.vault_audit.specs.Begun.{as_begun}
use Rattle.vault_audit.specs.ShowsAll.{ShowsAll}

abbrev Shows : Schema → Type 0
Shows s = ShowsAll s (select_text tenures []) tenures_tree tenure_columns

pub tenure_shows_all : (n : SchemaVersion) (s : Schema) → HasTenuresTable n → BeginTo n s.tables table.Tenures → Shows s
unfolding understood everything
tenure_shows_all First s has begin = absurd has
tenure_shows_all Second s has begin = absurd has
tenure_shows_all Third s has begin = as_begun Shows Third s table.Tenures begin (record {
  terms = terms_of tenures;
  scans = record { names = names_of tenures; is = refl; plain = (refl, refl); unlisted = refl };
  asks = record { is = (omega (arith), refl, (refl, refl, refl, refl)); unlisted = refl };
  alike = λ rows. refl;
})
tenure_shows_all Fourth s has begin = as_begun Shows Fourth s table.Tenures begin (record {
  terms = terms_of tenures;
  scans = record { names = names_of tenures; is = refl; plain = (refl, refl); unlisted = refl };
  asks = record { is = (omega (arith), refl, (refl, refl, refl, refl)); unlisted = refl };
  alike = λ rows. refl;
})

pub tenure_unsound : (n : SchemaVersion) (db : Database) (v : Vault) → HasTenuresTable n → AreRecords tenure_row IsTenureRow (map tenure_columns (db.trees tenures_tree)) false → ¬ AreSoundAs n db v
tenure_unsound First db v has none = absurd has
tenure_unsound Second db v has none = absurd has
tenure_unsound Third db v has none = no_tenures Third db v none
tenure_unsound Fourth db v has none = no_tenures Fourth db v none
