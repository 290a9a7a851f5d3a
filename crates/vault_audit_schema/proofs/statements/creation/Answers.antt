use Rattle.std.proofs.Common.{refl, arith}
use Rattle.sqlite_trees.specs.Sound.{fits_kind, begins, is_free_name, same_name}
use Rattle.sqlite.specs.Listing.{understood}
use Rattle.sqlite_tied.specs.Compute.{everything}
use Rattle.sqlite_value.specs.Order.{value_cmp}
use Rattle.vault_audit_model.specs.Tables.{departments, callers, buckets, rules, entries, contents, settings, intake, heads, tenures, external}
use Rattle.vault_audit_schema.proofs.TakenLemmas.{ascii}
use Rattle.vault_audit_schema.proofs.statements.creation.Goals as goal

pub returns-in-Departments : goal.returns-in-Departments
unfolding understood everything fits_kind begins is_free_name same_name value_cmp lib.Ieee.is_nan lib.Ieee.lt lib.Utf8.encode
returns-in-Departments c = rw c.in-Departments.is (record {
  command = refl;
  whole = refl;
  plain = (refl, refl);
  alone = (omega (arith), refl);
  made = record departments { tree = 0 };
  defined = refl;
  next = refl;
  taken = record { utf8 = ascii _ refl refl; named = ascii _ refl refl; free = refl; apart = refl; own = refl; low = refl; reals = refl; keys = refl; formed = refl; fit = refl; short = refl };
})

pub returns-in-Callers : goal.returns-in-Callers
unfolding understood everything fits_kind begins is_free_name same_name value_cmp lib.Ieee.is_nan lib.Ieee.lt lib.Utf8.encode
returns-in-Callers c = rw c.in-Callers.is (record {
  command = refl;
  whole = refl;
  plain = (refl, refl);
  alone = (omega (arith), refl);
  made = record callers { tree = 0 };
  defined = refl;
  next = refl;
  taken = record { utf8 = ascii _ refl refl; named = ascii _ refl refl; free = refl; apart = refl; own = refl; low = refl; reals = refl; keys = refl; formed = refl; fit = refl; short = refl };
})

pub returns-in-Buckets : goal.returns-in-Buckets
unfolding understood everything fits_kind begins is_free_name same_name value_cmp lib.Ieee.is_nan lib.Ieee.lt lib.Utf8.encode
returns-in-Buckets c = rw c.in-Buckets.is (record {
  command = refl;
  whole = refl;
  plain = (refl, refl);
  alone = (omega (arith), refl);
  made = record buckets { tree = 0 };
  defined = refl;
  next = refl;
  taken = record { utf8 = ascii _ refl refl; named = ascii _ refl refl; free = refl; apart = refl; own = refl; low = refl; reals = refl; keys = refl; formed = refl; fit = refl; short = refl };
})

pub returns-in-Rules : goal.returns-in-Rules
unfolding understood everything fits_kind begins is_free_name same_name value_cmp lib.Ieee.is_nan lib.Ieee.lt lib.Utf8.encode
returns-in-Rules c = rw c.in-Rules.is (record {
  command = refl;
  whole = refl;
  plain = (refl, refl);
  alone = (omega (arith), refl);
  made = record rules { tree = 0 };
  defined = refl;
  next = refl;
  taken = record { utf8 = ascii _ refl refl; named = ascii _ refl refl; free = refl; apart = refl; own = refl; low = refl; reals = refl; keys = refl; formed = refl; fit = refl; short = refl };
})

pub returns-in-Entries : goal.returns-in-Entries
unfolding understood everything fits_kind begins is_free_name same_name value_cmp lib.Ieee.is_nan lib.Ieee.lt lib.Utf8.encode
returns-in-Entries c = rw c.in-Entries.is (record {
  command = refl;
  whole = refl;
  plain = (refl, refl);
  alone = (omega (arith), refl);
  made = record entries { tree = 0 };
  defined = refl;
  next = refl;
  taken = record { utf8 = ascii _ refl refl; named = ascii _ refl refl; free = refl; apart = refl; own = refl; low = refl; reals = refl; keys = refl; formed = refl; fit = refl; short = refl };
})

pub returns-in-Contents : goal.returns-in-Contents
unfolding understood everything fits_kind begins is_free_name same_name value_cmp lib.Ieee.is_nan lib.Ieee.lt lib.Utf8.encode
returns-in-Contents c = rw c.in-Contents.is (record {
  command = refl;
  whole = refl;
  plain = (refl, refl);
  alone = (omega (arith), refl);
  made = record contents { tree = 0 };
  defined = refl;
  next = refl;
  taken = record { utf8 = ascii _ refl refl; named = ascii _ refl refl; free = refl; apart = refl; own = refl; low = refl; reals = refl; keys = refl; formed = refl; fit = refl; short = refl };
})

pub returns-in-Settings : goal.returns-in-Settings
unfolding understood everything fits_kind begins is_free_name same_name value_cmp lib.Ieee.is_nan lib.Ieee.lt lib.Utf8.encode
returns-in-Settings c = rw c.in-Settings.is (record {
  command = refl;
  whole = refl;
  plain = (refl, refl);
  alone = (omega (arith), refl);
  made = record settings { tree = 0 };
  defined = refl;
  next = refl;
  taken = record { utf8 = ascii _ refl refl; named = ascii _ refl refl; free = refl; apart = refl; own = refl; low = refl; reals = refl; keys = refl; formed = refl; fit = refl; short = refl };
})

pub returns-in-Intake : goal.returns-in-Intake
unfolding understood everything fits_kind begins is_free_name same_name value_cmp lib.Ieee.is_nan lib.Ieee.lt lib.Utf8.encode
returns-in-Intake c = rw c.in-Intake.is (record {
  command = refl;
  whole = refl;
  plain = (refl, refl);
  alone = (omega (arith), refl);
  made = record intake { tree = 0 };
  defined = refl;
  next = refl;
  taken = record { utf8 = ascii _ refl refl; named = ascii _ refl refl; free = refl; apart = refl; own = refl; low = refl; reals = refl; keys = refl; formed = refl; fit = refl; short = refl };
})

pub returns-in-Heads : goal.returns-in-Heads
unfolding understood everything fits_kind begins is_free_name same_name value_cmp lib.Ieee.is_nan lib.Ieee.lt lib.Utf8.encode
returns-in-Heads c = rw c.in-Heads.is (record {
  command = refl;
  whole = refl;
  plain = (refl, refl);
  alone = (omega (arith), refl);
  made = record heads { tree = 0 };
  defined = refl;
  next = refl;
  taken = record { utf8 = ascii _ refl refl; named = ascii _ refl refl; free = refl; apart = refl; own = refl; low = refl; reals = refl; keys = refl; formed = refl; fit = refl; short = refl };
})

pub returns-in-Tenures : goal.returns-in-Tenures
unfolding understood everything fits_kind begins is_free_name same_name value_cmp lib.Ieee.is_nan lib.Ieee.lt lib.Utf8.encode
returns-in-Tenures c = rw c.in-Tenures.is (record {
  command = refl;
  whole = refl;
  plain = (refl, refl);
  alone = (omega (arith), refl);
  made = record tenures { tree = 0 };
  defined = refl;
  next = refl;
  taken = record { utf8 = ascii _ refl refl; named = ascii _ refl refl; free = refl; apart = refl; own = refl; low = refl; reals = refl; keys = refl; formed = refl; fit = refl; short = refl };
})

pub returns-in-External : goal.returns-in-External
unfolding understood everything fits_kind begins is_free_name same_name value_cmp lib.Ieee.is_nan lib.Ieee.lt lib.Utf8.encode
returns-in-External c = rw c.in-External.is (record {
  command = refl;
  whole = refl;
  plain = (refl, refl);
  alone = (omega (arith), refl);
  made = record external { tree = 0 };
  defined = refl;
  next = refl;
  taken = record { utf8 = ascii _ refl refl; named = ascii _ refl refl; free = refl; apart = refl; own = refl; low = refl; reals = refl; keys = refl; formed = refl; fit = refl; short = refl };
})
