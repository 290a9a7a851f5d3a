use Rattle.std.proofs.Common.{refl, ◌∙◌}
use Rattle.vault_store_reads.proofs.QueryLemmas.{if_shown}
use Rattle.vault_store_reads.proofs.OpenLemmas.{quiet_then}
use Rattle.vault_store_reads.proofs.StatedLemmas.{locked_entries}
use Rattle.vault_store_reads.proofs.rows_in_order.find.find_entries.Goals as goal

pub returns-clause-value : goal.returns-clause-value
returns-clause-value g c clean = if_shown c.with_locks.result (c.with_locks.ensures.value clean) (λ locked stated v was.
    let mid = c.with_locks.ensures.read.honest clean in
    let bare = c.in_ok-entries.ensures.value mid v was in
    (rw c.deref.ensures.value at (stated v (c.find_bare.ensures.read.same mid v was)))
    ∙ locked_entries v c.args.bucket.now c.args.key.now _ _ (refl, bare.1) bare.0)

pub returns-clause-read : goal.returns-clause-read
returns-clause-read g c = record {
  same = λ clean v was. c.with_locks.ensures.read.same clean v (c.find_bare.ensures.read.same (c.with_locks.ensures.read.honest clean) v was);
  honest = λ clean. c.find_bare.ensures.read.honest (c.with_locks.ensures.read.honest clean);
  mode = λ alone. c.with_locks.ensures.read.mode (c.find_bare.ensures.read.mode alone);
  survives = quiet_then _ _ _ c.find_bare.ensures.read.same (λ clean _. c.in_ok-entries.ensures.open clean) c.find_bare.ensures.read.survives c.with_locks.ensures.read.survives;
}

pub returns-clause-memory : goal.returns-clause-memory
returns-clause-memory g c well v was = c.with_locks.ensures.memory well v (c.find_bare.ensures.read.same (c.with_locks.ensures.read.honest well.clean) v was)
