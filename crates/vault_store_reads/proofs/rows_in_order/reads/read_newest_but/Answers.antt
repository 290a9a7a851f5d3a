use Rattle.std.proofs.Common.{IsTrue, sym}
use Rattle.vault_base.specs.Name.{is_version_id}
use Rattle.vault_audit_rows.specs.Records.{ReportsOne}
use Rattle.vault_store_reads.specs.Shown.{id_row}
use Rattle.vault_store_reads.proofs.LimitLemmas.{at_first}
use Rattle.vault_store_reads.proofs.rows_in_order.reads.read_newest_but.Goals as goal

pub returns-in_default-read_id-clause-memory : goal.returns-in_default-read_id-clause-memory
returns-in_default-read_id-clause-memory g c well v was =
    let it = at_first (ReportsOne id_row (λ n. IsTrue (is_version_id n))) c.in_ok-rows.rows.items c.in-Some.row.now (c.in_ok-rows.ensures.readable well.clean v was) (sym (rw c.deref.ensures.value at c.in-Some.ensures.value)) in
    absurd (c.in_default-read_id.ensures it.0 it.2 it.1)
