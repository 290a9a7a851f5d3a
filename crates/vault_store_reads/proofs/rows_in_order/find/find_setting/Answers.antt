use Rattle.std.proofs.Common.{sym}
use Rattle.vault_audit_rows.specs.Records.{ReportsOne}
use Rattle.vault_store_reads.specs.Readable.{IsLastSetting}
use Rattle.vault_store_reads.specs.Shown.{last_row}
use Rattle.vault_store_reads.proofs.LimitLemmas.{at_first}
use Rattle.vault_store_reads.proofs.rows_in_order.find.find_setting.Goals as goal

pub returns-in_default-read_last-clause-memory : goal.returns-in_default-read_last-clause-memory
returns-in_default-read_last-clause-memory g c well v was =
    let it = at_first (ReportsOne last_row IsLastSetting) c.in_ok-rows.rows.items c.in-Some.row.now (c.in_ok-rows.ensures.readable well.clean v was) (sym (rw c.deref.ensures.value at c.in-Some.ensures.value)) in
    absurd (c.in_default-read_last.ensures it.0 it.2 it.1)
