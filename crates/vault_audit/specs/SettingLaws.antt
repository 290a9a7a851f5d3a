-- What the query for all rows of settings shows, and what they have to be.
use Rattle.std.specs.Prelude.{⊤}
use Rattle.std.proofs.Common.{[], map, false, refl, arith}
use Rattle.sqlite_tied.specs.Compute.{everything}
use Rattle.sqlite.specs.Effect.{Database}
use Rattle.sqlite.specs.Listing.{understood}
use Rattle.sqlite.specs.Schema.{Schema}
use Rattle.vault_base.specs.declared.refusal.Table.TheVariants as table
use Rattle.vault_core_model.specs.Vault.{Vault}
use Rattle.vault_audit_model.specs.declared.schema.SchemaVersion.{SchemaVersion}
use Rattle.vault_audit_model.specs.Limits.{IsSettingRow}
use Rattle.vault_audit_model.specs.Rows.{setting_row, setting_columns}
use Rattle.vault_audit_model.specs.Spells.{AreSoundAs}
use Rattle.vault_audit_model.specs.Tables.{settings, settings_tree}
use Rattle.vault_audit_schema.specs.Places.{BeginTo}
use Rattle.vault_audit_schema.specs.Texts.{names_of, select_text, terms_of}
use Rattle.vault_audit_rows.specs.Records.{AreRecords}
use Rattle.vault_audit_records.proofs.DamageLemmas.{no_settings}
use Rattle.vault_audit.specs.Begun.{as_begun}
use Rattle.vault_audit.specs.ShowsAll.{ShowsAll}

abbrev Shows : Schema → Type 0
Shows s = ShowsAll s (select_text settings []) settings_tree setting_columns

pub setting_shows_all : (n : SchemaVersion) (s : Schema) → ⊤ → BeginTo n s.tables table.Settings → Shows s
unfolding understood everything
setting_shows_all n s has begin = as_begun Shows n s table.Settings begin (record {
  terms = terms_of settings;
  scans = record { names = names_of settings; is = refl; plain = (refl, refl); unlisted = refl };
  asks = record { is = (omega (arith), refl, (refl, refl, refl, refl)); unlisted = refl };
  alike = λ rows. refl;
})

pub setting_unsound : (n : SchemaVersion) (db : Database) (v : Vault) → ⊤ → AreRecords setting_row IsSettingRow (map setting_columns (db.trees settings_tree)) false → ¬ AreSoundAs n db v
setting_unsound n db v has none = no_settings n db v none
