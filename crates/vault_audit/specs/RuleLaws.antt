-- What the query for all rows of rules shows, and what they have to be.
use Rattle.std.specs.Prelude.{⊤}
use Rattle.std.proofs.Common.{[], map, false, refl, arith}
use Rattle.sqlite_tied.specs.Compute.{everything}
use Rattle.sqlite.specs.Effect.{Database}
use Rattle.sqlite.specs.Listing.{understood}
use Rattle.sqlite.specs.Schema.{Schema}
use Rattle.vault_base.specs.declared.refusal.Table.TheVariants as table
use Rattle.vault_core_model.specs.Vault.{Vault}
use Rattle.vault_audit_model.specs.declared.schema.SchemaVersion.{SchemaVersion}
use Rattle.vault_audit_model.specs.declared.schema.SchemaVersion.TheVariants.{First, Second, Third, Fourth}
use Rattle.vault_audit_model.specs.Limits.{IsRuleRow}
use Rattle.vault_audit_model.specs.Rows.{rule_row, rule_columns_as}
use Rattle.vault_audit_model.specs.Spells.{AreSoundAs}
use Rattle.vault_audit_model.specs.Tables.{rules, rules_tree}
use Rattle.vault_audit_schema.specs.Places.{BeginTo}
use Rattle.vault_audit_schema.specs.Selects.{rules_select, rule_terms}
use Rattle.vault_audit_schema.specs.Texts.{names_of}
use Rattle.vault_audit_rows.specs.Records.{AreRecords}
use Rattle.vault_audit_records.proofs.DamageLemmas.{no_rules}
use Rattle.vault_audit.specs.Begun.{as_begun}
use Rattle.vault_audit.specs.ShowsAll.{ShowsAll}

abbrev Shows : SchemaVersion → Schema → Type 0
Shows n s = ShowsAll s (rules_select n []) rules_tree (rule_columns_as n)

pub rule_shows_all : (n : SchemaVersion) (s : Schema) → ⊤ → BeginTo n s.tables table.Rules → Shows n s
unfolding understood everything
rule_shows_all First s has begin = as_begun (Shows First) First s table.Rules begin (record {
  terms = rule_terms First;
  scans = record { names = names_of rules; is = refl; plain = (refl, refl); unlisted = refl };
  asks = record { is = (omega (arith), refl, (refl, refl, refl, refl)); unlisted = refl };
  alike = λ rows. refl;
})
rule_shows_all Second s has begin = as_begun (Shows Second) Second s table.Rules begin (record {
  terms = rule_terms Second;
  scans = record { names = names_of rules; is = refl; plain = (refl, refl); unlisted = refl };
  asks = record { is = (omega (arith), refl, (refl, refl, refl, refl)); unlisted = refl };
  alike = λ rows. refl;
})
rule_shows_all Third s has begin = as_begun (Shows Third) Third s table.Rules begin (record {
  terms = rule_terms Third;
  scans = record { names = names_of rules; is = refl; plain = (refl, refl); unlisted = refl };
  asks = record { is = (omega (arith), refl, (refl, refl, refl, refl)); unlisted = refl };
  alike = λ rows. refl;
})
rule_shows_all Fourth s has begin = as_begun (Shows Fourth) Fourth s table.Rules begin (record {
  terms = rule_terms Fourth;
  scans = record { names = names_of rules; is = refl; plain = (refl, refl); unlisted = refl };
  asks = record { is = (omega (arith), refl, (refl, refl, refl, refl)); unlisted = refl };
  alike = λ rows. refl;
})

pub rule_unsound : (n : SchemaVersion) (db : Database) (v : Vault) → ⊤ → AreRecords rule_row IsRuleRow (map (rule_columns_as n) (db.trees rules_tree)) false → ¬ AreSoundAs n db v
rule_unsound n db v has none = no_rules n db v none
