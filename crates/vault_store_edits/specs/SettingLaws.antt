-- What the statement that puts a row of settings in does.
use Rattle.std.proofs.Common.{◌≡◌, Bool, refl}
use Rattle.sqlite_tied.specs.Compute.{everything}
use Rattle.sqlite_schema.specs.declared.schema.Kind.TheVariants as kind
use Rattle.sqlite_rules.specs.Cast.{cast}
use Rattle.vault_base.specs.declared.refusal.Table.TheVariants as table
use Rattle.vault_audit_model.specs.declared.rows.SettingRow.{SettingRow}
use Rattle.vault_audit_model.specs.Rows.{setting_row, retention_mode, retention_until}
use Rattle.vault_audit_model.specs.Tables.{settings}
use Rattle.vault_audit_model.proofs.ValueLemmas.{cast_null}
use Rattle.vault_store_edits.specs.Casts.{cast_number, cast_number_or_null, cast_flag}
use Rattle.vault_store_edits.specs.Insertions.{insertion}
use Rattle.vault_store_edits.specs.Inserts.{Inserts}

pub setting_inserts : (external : Bool) (s : SettingRow) → Inserts external table.Settings settings (setting_row s)
unfolding everything
setting_inserts external s = record {
  text = insertion external table.Settings refl;
  one = refl;
  here = refl;
  reads_so = λ rows.
      let mode : cast kind.Integer (retention_mode s.setting.lock.retention) ≡ retention_mode s.setting.lock.retention = cast_number _ in
      let until : cast kind.Integer (retention_until s.setting.lock.retention) ≡ retention_until s.setting.lock.retention = cast_number_or_null _ in
      rw (cast_null, cast_number s.id, cast_number s.place, cast_number s.setting.at, mode, until, cast_flag s.setting.lock.hold, cast_flag s.setting.bypass) refl;
}
