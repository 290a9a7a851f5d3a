use Rattle.std.proofs.Common.{◌∙◌}
use Rattle.vault_store_reads.proofs.QueryLemmas.{if_shown}
use Rattle.vault_store_reads.proofs.IdLemmas.{by_count}
use Rattle.vault_store_reads.proofs.OpenLemmas.{quiet_then}
use Rattle.vault_store_reads.proofs.rows_in_order.ids.find_counted.Goals as goal

pub returns-clause-value : goal.returns-clause-value
returns-clause-value g c clean = if_shown c.find_newest.result (c.find_newest.ensures.value clean) (λ ids stated v was.
    let mid = c.find_newest.ensures.read.honest clean in
    let counts = (c.in_ok-count.ensures.value mid v was).0 in
    (rw c.min.ensures at (stated v (c.find_count.ensures.read.same mid v was))) ∙ by_count v c.args.bucket.now c.args.key.now c.in_ok-count.count c.args.most counts)

pub returns-clause-read : goal.returns-clause-read
returns-clause-read g c = record {
  same = λ clean v was. c.find_newest.ensures.read.same clean v (c.find_count.ensures.read.same (c.find_newest.ensures.read.honest clean) v was);
  honest = λ clean. c.find_count.ensures.read.honest (c.find_newest.ensures.read.honest clean);
  mode = λ alone. c.find_newest.ensures.read.mode (c.find_count.ensures.read.mode alone);
  survives = quiet_then _ _ _ c.find_count.ensures.read.same (λ clean _. c.in_ok-count.ensures.open clean) c.find_count.ensures.read.survives c.find_newest.ensures.read.survives;
}

pub returns-clause-memory : goal.returns-clause-memory
returns-clause-memory g c well v was = c.find_newest.ensures.memory well v (c.find_count.ensures.read.same (c.find_newest.ensures.read.honest well.clean) v was)
