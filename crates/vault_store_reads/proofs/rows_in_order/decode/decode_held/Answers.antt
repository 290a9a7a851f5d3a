use Rattle.vault_audit_rows.specs.Records.{ReportsOne}
use Rattle.vault_store_reads.specs.Readable.{IsHeldRow}
use Rattle.vault_store_reads.specs.Shown.{held_row}
use Rattle.vault_store_reads.proofs.LimitLemmas.{at_place}
use Rattle.vault_store_reads.proofs.rows_in_order.decode.decode_held.Goals as goal

pub returns-in_default-clause-memory : goal.returns-in_default-clause-memory
returns-in_default-clause-memory c readable =
    let it = at_place (ReportsOne held_row IsHeldRow) c.args.rows.now c.loop-row.row-index c.row-item.result readable c.loop-row-test.true c.row-item.is in
    absurd (c.in_default.ensures it.0 it.2 it.1)
