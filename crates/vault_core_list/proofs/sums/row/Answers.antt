use Rattle.std.proofs.Common.{◌+◌, take}
use Rattle.vault_core_model.specs.Totals.{items_in}
use Rattle.vault_core_list.proofs.Rows.{bounded-take, items-more}
use Rattle.vault_core_list.proofs.sums.row.Goals as goal

-- one more version
pub loop-history-preserved : goal.loop-history-preserved
loop-history-preserved c =
    let dept = c.args.dept.now in
    let hs = c.args.histories.now in
    let i = c.loop-history.history-index in
    let more = items-more dept hs i c.history-item.result c.loop-history-test.true c.history-item.is in
    let fits = bounded-take dept hs (i + 1) c.requires in
    rw more (c.count_tenures.ensures (items_in dept (take i hs)) c.loop-history.invariant (rw more at fits))
