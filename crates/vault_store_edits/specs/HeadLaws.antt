-- What the statement that puts a row of heads in does.
use Rattle.std.proofs.Common.{Bool, refl}
use Rattle.sqlite_tied.specs.Compute.{everything}
use Rattle.vault_base.specs.declared.refusal.Table.TheVariants as table
use Rattle.vault_audit_model.specs.declared.rows.HeadRow.{HeadRow}
use Rattle.vault_audit_model.specs.Rows.{head_row}
use Rattle.vault_audit_model.specs.Tables.{heads}
use Rattle.vault_audit_model.proofs.ValueLemmas.{cast_null}
use Rattle.vault_store_edits.specs.Casts.{cast_number}
use Rattle.vault_store_edits.specs.Insertions.{insertion}
use Rattle.vault_store_edits.specs.Inserts.{Inserts}

pub head_inserts : (external : Bool) (h : HeadRow) → Inserts external table.Heads heads (head_row h)
unfolding everything
head_inserts external h = record {
  text = insertion external table.Heads refl;
  one = refl;
  here = refl;
  reads_so = λ rows. rw (cast_null, cast_number h.head.newest, cast_number h.head.count) refl;
}
