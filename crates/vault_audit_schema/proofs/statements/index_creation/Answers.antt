use Rattle.std.proofs.Common.{refl, arith}
use Rattle.sqlite_trees.specs.Sound.{fits_kind, begins, is_free_name, same_name}
use Rattle.sqlite.specs.Listing.{understood}
use Rattle.sqlite_tied.specs.Compute.{everything}
use Rattle.sqlite_value.specs.Order.{value_cmp}
use Rattle.vault_audit_model.specs.Tables.{entries_held}
use Rattle.vault_audit_schema.proofs.TakenLemmas.{ascii}
use Rattle.vault_audit_schema.proofs.statements.index_creation.Goals as goal

pub returns : goal.returns
unfolding understood everything fits_kind begins is_free_name same_name value_cmp lib.Ieee.is_nan lib.Ieee.lt lib.Utf8.encode
returns c external = record {
  command = refl;
  whole = refl;
  plain = (refl, refl);
  alone = (omega (arith), refl);
  made = record entries_held { tree = 0 };
  defined = refl;
  next = refl;
  taken = record { utf8 = ascii _ refl refl; named = ascii _ refl refl; owned = ascii _ refl refl; free = refl; own = refl; low = refl; reals = refl; key = refl; fit = refl; short = refl };
}
