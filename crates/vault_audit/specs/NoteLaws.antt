-- What the query for all rows of intake shows, and what they have to be.
use Rattle.std.specs.Prelude.{⊤}
use Rattle.std.proofs.Common.{[], map, false, refl, arith}
use Rattle.sqlite_tied.specs.Compute.{everything}
use Rattle.sqlite.specs.Effect.{Database}
use Rattle.sqlite.specs.Listing.{understood}
use Rattle.sqlite.specs.Schema.{Schema}
use Rattle.vault_base.specs.declared.refusal.Table.TheVariants as table
use Rattle.vault_core_model.specs.Vault.{Vault}
use Rattle.vault_audit_model.specs.declared.schema.SchemaVersion.{SchemaVersion}
use Rattle.vault_audit_model.specs.Limits.{IsNote}
use Rattle.vault_audit_model.specs.Rows.{note_row, note_columns}
use Rattle.vault_audit_model.specs.Spells.{AreSoundAs}
use Rattle.vault_audit_model.specs.Tables.{intake, intake_tree}
use Rattle.vault_audit_schema.specs.Places.{BeginTo}
use Rattle.vault_audit_schema.specs.Texts.{names_of, select_text, terms_of}
use Rattle.vault_audit_rows.specs.Records.{AreRecords}
use Rattle.vault_audit_records.proofs.DamageLemmas.{no_intake}
use Rattle.vault_audit.specs.Begun.{as_begun}
use Rattle.vault_audit.specs.ShowsAll.{ShowsAll}
use Rattle.vault_audit_model.specs.SchemaVersions.{is_external}

abbrev Shows : Schema → Type 0
Shows s = ShowsAll s (select_text intake []) intake_tree note_columns

pub note_shows_all : (n : SchemaVersion) (s : Schema) → ⊤ → BeginTo n s.tables table.Intake → Shows s
unfolding understood everything
note_shows_all n s has begin = as_begun Shows n s table.Intake begin (record {
  terms = terms_of intake;
  scans = record { names = names_of intake; is = refl; plain = (refl, refl); unlisted = refl };
  asks = record { is = (omega (arith), refl, (refl, refl, refl, refl)); unlisted = refl };
  alike = λ rows. refl;
})

pub note_unsound : (n : SchemaVersion) (db : Database) (v : Vault) → ⊤ → AreRecords note_row (IsNote (is_external n)) (map note_columns (db.trees intake_tree)) false → ¬ AreSoundAs n db v
note_unsound n db v has none = no_intake n db v none
