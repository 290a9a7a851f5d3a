-- What is in the limits of a vault is in those of one that registers contents which are kept outside.
use Rattle.std.proofs.Common.{ℕ, ◌≤◌, Bool, true, false, List, Option, Some, None, arith}
use Rattle.vault_base.specs.Limits.{most_external}
use Rattle.vault_core_model.specs.declared.records.Entry.{Entry}
use Rattle.vault_core_model.specs.declared.records.History.{History}
use Rattle.vault_core_model.specs.declared.records.Note.{Note}
use Rattle.vault_core_model.specs.Sound.{most_bytes}
use Rattle.vault_audit_model.specs.Limits.{IsEntry, IsHistory, IsNote, IsSizedAs}

most_at_all : (external : Bool) → most_bytes external None ≤ most_external
most_at_all true = omega arith
most_at_all false = omega arith

wider_sized : (external marker : Bool) (size : ℕ) (digest : Option (List ℕ)) → IsSizedAs marker external size digest → IsSizedAs marker true size digest
wider_sized external true size digest is = is
wider_sized external false size None is = absurd is
wider_sized external false size (Some d) is = let most = most_at_all external in let low = is.0 in (omega (arith, low, most), is.1)

pub wider_entry : (external : Bool) (e : Entry) → IsEntry external e → IsEntry true e
wider_entry external e is = record {
  id = is.id;
  bucket = is.bucket;
  key = is.key;
  sized = wider_sized external e.marker e.size e.digest is.sized;
  admitted = is.admitted;
  by = is.by;
  removal = is.removal;
}

pub wider_note : (external : Bool) (n : Note) → IsNote external n → IsNote true n
wider_note external n is = record {
  bucket = is.bucket;
  batch = is.batch;
  line = is.line;
  key = is.key;
  size = let most = most_at_all external in let low = is.size in omega (arith, low, most);
  digest = is.digest;
  retention = is.retention;
  id = is.id;
}

within : (marker : Bool) (size : ℕ) (digest : Option (List ℕ)) → IsSizedAs marker true size digest → size ≤ most_external
within true size digest is = omega (arith, is.0)
within false size None is = absurd is
within false size (Some d) is = is.0

pub small : (external : Bool) (h : History) → IsHistory external h → h.entry.size ≤ most_external
small external h is = within h.entry.marker h.entry.size h.entry.digest (wider_entry external h.entry is.entry).sized
