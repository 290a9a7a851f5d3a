-- What the statement that puts a row of rules in does.
use Rattle.std.proofs.Common.{◌≡◌, Bool, refl}
use Rattle.sqlite_tied.specs.Compute.{everything}
use Rattle.sqlite_schema.specs.declared.schema.Kind.TheVariants as kind
use Rattle.sqlite_rules.specs.Cast.{cast}
use Rattle.vault_base.specs.declared.refusal.Table.TheVariants as table
use Rattle.vault_audit_model.specs.declared.rows.RuleRow.{RuleRow}
use Rattle.vault_audit_model.specs.Rows.{rule_row, noncurrent_days, noncurrent_newer}
use Rattle.vault_audit_model.specs.Tables.{rules}
use Rattle.vault_audit_model.specs.Values.{number_or_null}
use Rattle.vault_audit_model.proofs.ValueLemmas.{cast_null}
use Rattle.vault_store_edits.specs.Casts.{cast_number, cast_number_or_null, cast_flag}
use Rattle.vault_store_edits.specs.Insertions.{insertion}
use Rattle.vault_store_edits.specs.Inserts.{Inserts}

pub rule_inserts : (external : Bool) (r : RuleRow) → Inserts external table.Rules rules (rule_row r)
unfolding everything
rule_inserts external r = record {
  text = insertion external table.Rules refl;
  one = refl;
  here = refl;
  reads_so = λ rows.
      let days : cast kind.Integer (number_or_null r.rule.days) ≡ number_or_null r.rule.days = cast_number_or_null _ in
      let old : cast kind.Integer (noncurrent_days r.rule.noncurrent) ≡ noncurrent_days r.rule.noncurrent = cast_number_or_null _ in
      let newer : cast kind.Integer (noncurrent_newer r.rule.noncurrent) ≡ noncurrent_newer r.rule.noncurrent = cast_number_or_null _ in
      let larger : cast kind.Integer (number_or_null r.rule.larger) ≡ number_or_null r.rule.larger = cast_number_or_null _ in
      let smaller : cast kind.Integer (number_or_null r.rule.smaller) ≡ number_or_null r.rule.smaller = cast_number_or_null _ in
      rw (cast_null, cast_number r.place, cast_flag r.rule.enabled, days, cast_flag r.rule.lone_markers, old, newer, larger, smaller) refl;
}
