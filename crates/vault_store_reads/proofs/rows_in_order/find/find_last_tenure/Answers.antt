use Rattle.std.proofs.Common.{sym, rules}
use Rattle.vault_audit_model.specs.Limits.{IsTenureRow}
use Rattle.vault_audit_model.specs.Rows.{tenure_row}
use Rattle.vault_audit_rows.specs.Records.{ReportsOne}
use Rattle.vault_audit_rows.specs.Health.{IsMemory}
use Rattle.vault_store_reads.proofs.LimitLemmas.{at_first}
use Rattle.vault_store_reads.proofs.rows_in_order.find.find_last_tenure.Goals as goal

pub returns-in_err-tenure-clause-memory : goal.returns-in_err-tenure-clause-memory
returns-in_err-tenure-clause-memory g c well v was =
    let one : IsMemory c.in_err-tenure.field-0.0 = c.in_err-tenure.ensures.memory (at_first (ReportsOne tenure_row IsTenureRow) c.in_ok-rows.rows.items c.in-Some.row.now (c.in_ok-rows.ensures.readable well.clean v was) (sym (rw c.deref.ensures.value at c.in-Some.ensures.value))) in search rules
