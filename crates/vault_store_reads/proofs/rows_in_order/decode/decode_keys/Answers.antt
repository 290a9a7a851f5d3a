use Rattle.std.proofs.Common.{rules}
use Rattle.vault_audit_model.specs.Limits.{IsObjectKey}
use Rattle.vault_audit_rows.specs.Records.{ReportsOne}
use Rattle.vault_audit_rows.specs.Health.{IsMemory}
use Rattle.vault_store_reads.specs.Shown.{key_row}
use Rattle.vault_store_reads.proofs.LimitLemmas.{at_place}
use Rattle.vault_store_reads.proofs.rows_in_order.decode.decode_keys.Goals as goal

pub returns-in_err-one-clause-memory : goal.returns-in_err-one-clause-memory
returns-in_err-one-clause-memory c readable = let one : IsMemory c.in_err-one.field-0.0 = c.in_err-one.ensures.memory (at_place (ReportsOne key_row IsObjectKey) c.args.rows.now c.loop-row.row-index c.row-item.result readable c.loop-row-test.true c.row-item.is) in search rules
