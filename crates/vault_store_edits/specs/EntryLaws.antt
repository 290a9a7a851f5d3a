-- What the statement that puts a row of entries in does.
use Rattle.std.proofs.Common.{◌≡◌, Bool, refl}
use Rattle.sqlite_tied.specs.Compute.{everything}
use Rattle.sqlite_schema.specs.declared.schema.Kind.TheVariants as kind
use Rattle.sqlite_rules.specs.Cast.{cast}
use Rattle.vault_base.specs.declared.refusal.Table.TheVariants as table
use Rattle.vault_core_model.specs.declared.records.Entry.{Entry}
use Rattle.vault_audit_model.specs.Rows.{entry_row, removal_at, removal_cause, removal_by}
use Rattle.vault_audit_model.specs.Tables.{entries}
use Rattle.vault_store_edits.specs.Casts.{cast_number, cast_number_or_null, cast_flag, cast_text_or_null, cast_kind, cast_name}
use Rattle.vault_store_edits.specs.Insertions.{insertion}
use Rattle.vault_store_edits.specs.Inserts.{Inserts}

pub entry_inserts : (external : Bool) (e : Entry) → Inserts external table.Entries entries (entry_row e)
unfolding everything
entry_inserts external e = record {
  text = insertion external table.Entries refl;
  one = refl;
  here = refl;
  reads_so = λ rows.
      let at : cast kind.Integer (removal_at e.removal) ≡ removal_at e.removal = cast_number_or_null _ in
      let cause : cast kind.Integer (removal_cause e.removal) ≡ removal_cause e.removal = cast_number_or_null _ in
      let by : cast kind.Text (removal_by e.removal) ≡ removal_by e.removal = cast_text_or_null _ in
      rw (cast_number e.id, cast_flag e.marker, cast_number e.size, cast_number e.admitted, cast_kind e.by, cast_name e.by, at, cause, by) refl;
}
