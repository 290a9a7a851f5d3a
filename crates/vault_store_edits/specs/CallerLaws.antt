-- What the statement that puts a row of callers in does.
use Rattle.std.proofs.Common.{Bool, refl}
use Rattle.sqlite_tied.specs.Compute.{everything}
use Rattle.vault_base.specs.declared.refusal.Table.TheVariants as table
use Rattle.vault_core_model.specs.declared.records.Caller.{Caller}
use Rattle.vault_core_model.specs.Rights.{rights_number}
use Rattle.vault_audit_model.specs.Rows.{caller_row}
use Rattle.vault_audit_model.specs.Tables.{callers}
use Rattle.vault_audit_model.proofs.ValueLemmas.{cast_null}
use Rattle.vault_store_edits.specs.Casts.{cast_number, cast_flag, cast_text_or_null}
use Rattle.vault_store_edits.specs.Insertions.{insertion}
use Rattle.vault_store_edits.specs.Inserts.{Inserts}

pub caller_inserts : (external : Bool) (c : Caller) → Inserts external table.Callers callers (caller_row c)
unfolding everything
caller_inserts external c = record {
  text = insertion external table.Callers refl;
  one = refl;
  here = refl;
  reads_so = λ rows. rw (cast_null, cast_text_or_null c.dept, cast_number (rights_number c.rights), cast_flag c.closed) refl;
}
