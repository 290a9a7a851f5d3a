-- What the statement that puts a row of intake in does.
use Rattle.std.proofs.Common.{◌≡◌, Bool, refl}
use Rattle.sqlite_tied.specs.Compute.{everything}
use Rattle.sqlite_schema.specs.declared.schema.Kind.TheVariants as kind
use Rattle.sqlite_rules.specs.Cast.{cast}
use Rattle.vault_base.specs.declared.refusal.Table.TheVariants as table
use Rattle.vault_core_model.specs.declared.records.Note.{Note}
use Rattle.vault_audit_model.specs.Rows.{note_row, retention_mode, retention_until}
use Rattle.vault_audit_model.specs.Tables.{intake}
use Rattle.vault_audit_model.proofs.ValueLemmas.{cast_null}
use Rattle.vault_store_edits.specs.Casts.{cast_number, cast_number_or_null, cast_flag_or_null}
use Rattle.vault_store_edits.specs.Insertions.{insertion}
use Rattle.vault_store_edits.specs.Inserts.{Inserts}

pub note_inserts : (external : Bool) (n : Note) → Inserts external table.Intake intake (note_row n)
unfolding everything
note_inserts external n = record {
  text = insertion external table.Intake refl;
  one = refl;
  here = refl;
  reads_so = λ rows.
      let mode : cast kind.Integer (retention_mode n.retention) ≡ retention_mode n.retention = cast_number _ in
      let until : cast kind.Integer (retention_until n.retention) ≡ retention_until n.retention = cast_number_or_null _ in
      rw (cast_null, cast_number n.line, cast_number n.size, mode, until, cast_flag_or_null n.hold, cast_number n.id) refl;
}
