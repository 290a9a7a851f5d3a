use Rattle.std.proofs.Common.{◌∙◌}
use Rattle.vault_store_reads.proofs.QueryLemmas.{if_shown}
use Rattle.vault_store_reads.proofs.IdLemmas.{among_all}
use Rattle.vault_store_reads.proofs.OpenLemmas.{quiet_then}
use Rattle.vault_store_reads.proofs.rows_in_order.ids.find_below.Goals as goal

pub returns-then-count-most-clause-value : goal.returns-then-count-most-clause-value
returns-then-count-most-clause-value g c clean = if_shown c.find_among.result (c.find_among.ensures.value clean) (λ ids stated v was.
    let mid = c.find_among.ensures.read.honest clean in
    let counts = (c.in_ok-count.ensures.value mid v was).0 in
    stated v (c.find_count.ensures.read.same mid v was) ∙ among_all v c.args.bucket.now c.args.key.now c.in_ok-count.count c.args.most counts c.args.than c.if-count-most.true)

pub returns-then-count-most-clause-read : goal.returns-then-count-most-clause-read
returns-then-count-most-clause-read g c = record {
  same = λ clean v was. c.find_among.ensures.read.same clean v (c.find_count.ensures.read.same (c.find_among.ensures.read.honest clean) v was);
  honest = λ clean. c.find_count.ensures.read.honest (c.find_among.ensures.read.honest clean);
  mode = λ alone. c.find_among.ensures.read.mode (c.find_count.ensures.read.mode alone);
  survives = quiet_then _ _ _ c.find_count.ensures.read.same (λ clean _. c.in_ok-count.ensures.open clean) c.find_count.ensures.read.survives c.find_among.ensures.read.survives;
}

pub returns-clause-read : goal.returns-clause-read
returns-clause-read g c = record {
  same = λ clean v was. c.find_older.ensures.read.same clean v (c.find_count.ensures.read.same (c.find_older.ensures.read.honest clean) v was);
  honest = λ clean. c.find_count.ensures.read.honest (c.find_older.ensures.read.honest clean);
  mode = λ alone. c.find_older.ensures.read.mode (c.find_count.ensures.read.mode alone);
  survives = quiet_then _ _ _ c.find_count.ensures.read.same (λ clean _. c.in_ok-count.ensures.open clean) c.find_count.ensures.read.survives c.find_older.ensures.read.survives;
}
