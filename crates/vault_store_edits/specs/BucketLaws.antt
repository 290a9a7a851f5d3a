-- What the statement that puts a row of buckets in does.
use Rattle.std.proofs.Common.{◌≡◌, Bool, refl}
use Rattle.sqlite_tied.specs.Compute.{everything}
use Rattle.sqlite_schema.specs.declared.schema.Kind.TheVariants as kind
use Rattle.sqlite_rules.specs.Cast.{cast}
use Rattle.vault_base.specs.declared.refusal.Table.TheVariants as table
use Rattle.vault_audit_model.specs.declared.rows.BucketRow.{BucketRow}
use Rattle.vault_audit_model.specs.Rows.{bucket_row, default_mode, default_days, default_years}
use Rattle.vault_audit_model.specs.Tables.{buckets}
use Rattle.vault_audit_model.proofs.ValueLemmas.{cast_null}
use Rattle.vault_store_edits.specs.Casts.{cast_number, cast_number_or_null}
use Rattle.vault_store_edits.specs.Insertions.{insertion}
use Rattle.vault_store_edits.specs.Inserts.{Inserts}

pub bucket_inserts : (external : Bool) (b : BucketRow) → Inserts external table.Buckets buckets (bucket_row b)
unfolding everything
bucket_inserts external b = record {
  text = insertion external table.Buckets refl;
  one = refl;
  here = refl;
  reads_so = λ rows.
      let mode : cast kind.Integer (default_mode b.config.default) ≡ default_mode b.config.default = cast_number _ in
      let days : cast kind.Integer (default_days b.config.default) ≡ default_days b.config.default = cast_number_or_null _ in
      let years : cast kind.Integer (default_years b.config.default) ≡ default_years b.config.default = cast_number_or_null _ in
      rw (cast_null, mode, days, years) refl;
}
