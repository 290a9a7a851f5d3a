use Rattle.std.proofs.Common.{refl, arith}
use Rattle.sqlite_trees.specs.Sound.{fits_kind, begins, is_free_name, same_name}
use Rattle.sqlite.specs.Listing.{understood}
use Rattle.sqlite_tied.specs.Compute.{everything}
use Rattle.sqlite_value.specs.Order.{value_cmp}
use Rattle.vault_audit_model.specs.declared.schema.SchemaVersion.TheVariants.{Third, Fourth}
use Rattle.vault_audit_model.specs.Tables.{meta_as}
use Rattle.vault_audit_schema.proofs.TakenLemmas.{ascii}
use Rattle.vault_audit_schema.proofs.statements.meta_creation.Goals as goal

pub returns-then-external : goal.returns-then-external
unfolding understood everything fits_kind begins is_free_name same_name value_cmp lib.Ieee.is_nan lib.Ieee.lt lib.Utf8.encode
returns-then-external c = rw c.if-external.true (record {
  command = refl;
  whole = refl;
  plain = (refl, refl);
  alone = (omega (arith), refl);
  made = record (meta_as Fourth) { tree = 0 };
  defined = refl;
  next = refl;
  taken = record { utf8 = ascii _ refl refl; named = ascii _ refl refl; free = refl; apart = refl; own = refl; low = refl; reals = refl; keys = refl; formed = refl; fit = refl; short = refl };
})

pub returns-else-external : goal.returns-else-external
unfolding understood everything fits_kind begins is_free_name same_name value_cmp lib.Ieee.is_nan lib.Ieee.lt lib.Utf8.encode
returns-else-external c = rw c.if-external.false (record {
  command = refl;
  whole = refl;
  plain = (refl, refl);
  alone = (omega (arith), refl);
  made = record (meta_as Third) { tree = 0 };
  defined = refl;
  next = refl;
  taken = record { utf8 = ascii _ refl refl; named = ascii _ refl refl; free = refl; apart = refl; own = refl; low = refl; reals = refl; keys = refl; formed = refl; fit = refl; short = refl };
})
