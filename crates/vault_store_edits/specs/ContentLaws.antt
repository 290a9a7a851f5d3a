-- What the statement that puts a row of contents in does.
use Rattle.std.proofs.Common.{Bool, refl}
use Rattle.sqlite_tied.specs.Compute.{everything}
use Rattle.vault_base.specs.declared.refusal.Table.TheVariants as table
use Rattle.vault_audit_model.specs.declared.rows.ContentRow.{ContentRow}
use Rattle.vault_audit_model.specs.Rows.{content_row}
use Rattle.vault_audit_model.specs.Tables.{contents}
use Rattle.vault_store_edits.specs.Casts.{cast_number}
use Rattle.vault_store_edits.specs.Insertions.{insertion}
use Rattle.vault_store_edits.specs.Inserts.{Inserts}

pub content_inserts : (external : Bool) (c : ContentRow) → Inserts external table.Contents contents (content_row c)
unfolding everything
content_inserts external c = record {
  text = insertion external table.Contents refl;
  one = refl;
  here = refl;
  reads_so = λ rows. rw (cast_number c.id) refl;
}
