-- What the statement that puts a row of tenures in does.
use Rattle.std.proofs.Common.{Bool, refl}
use Rattle.sqlite_tied.specs.Compute.{everything}
use Rattle.vault_base.specs.declared.refusal.Table.TheVariants as table
use Rattle.vault_audit_model.specs.declared.rows.TenureRow.{TenureRow}
use Rattle.vault_audit_model.specs.Rows.{tenure_row}
use Rattle.vault_audit_model.specs.Tables.{tenures}
use Rattle.vault_audit_model.proofs.ValueLemmas.{cast_null}
use Rattle.vault_store_edits.specs.Casts.{cast_number}
use Rattle.vault_store_edits.specs.Insertions.{insertion}
use Rattle.vault_store_edits.specs.Inserts.{Inserts}

pub tenure_inserts : (external : Bool) (t : TenureRow) → Inserts external table.Tenures tenures (tenure_row t)
unfolding everything
tenure_inserts external t = record {
  text = insertion external table.Tenures refl;
  one = refl;
  here = refl;
  reads_so = λ rows. rw (cast_null, cast_number t.id, cast_number t.tenure.number, cast_number t.tenure.from) refl;
}
