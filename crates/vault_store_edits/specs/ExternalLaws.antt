-- What the statement that puts a row of external in does.
use Rattle.std.proofs.Common.{ℕ, Bool, IsTrue, refl}
use Rattle.sqlite_tied.specs.Compute.{everything}
use Rattle.vault_base.specs.declared.refusal.Table.TheVariants as table
use Rattle.vault_audit_model.specs.Rows.{external_row}
use Rattle.vault_audit_model.specs.Tables.{external as kept_outside}
use Rattle.vault_store_edits.specs.Casts.{cast_number}
use Rattle.vault_store_edits.specs.Insertions.{insertion}
use Rattle.vault_store_edits.specs.Inserts.{Inserts}

pub external_inserts : (external : Bool) → IsTrue external → (id : ℕ) → Inserts external table.External kept_outside (external_row id)
unfolding everything
external_inserts external there id = record {
  text = insertion external table.External there;
  one = refl;
  here = refl;
  reads_so = λ rows. rw (cast_number id) refl;
}
