use Rattle.std.proofs.Common.{sym, subst}
use Rattle.vault_audit_model.specs.Rows.{tenure_row}
use Rattle.vault_audit_model.specs.Limits.{IsTenureRow}
use Rattle.vault_store_reads.specs.Readable.{AreReadable}
use Rattle.vault_store_reads.proofs.AskedLemmas.{last_tenure_asked}
use Rattle.vault_store_reads.proofs.ReadableLemmas.{last_tenure_readable}
use Rattle.vault_store_reads.proofs.QueryLemmas.{if_shown}
use Rattle.vault_store_reads.proofs.TenureLemmas.{last_query, found_last, stated_last}
use Rattle.vault_store_reads.proofs.OrderedTextLemmas.{last_tenure_is}
use Rattle.vault_store_reads.proofs.rows_in_order.rows.last_tenure_rows.Goals as goal

pub open_rows-requires : goal.open_rows-requires
open_rows-requires g c = (last_query, last_tenure_is)

pub returns-clause-rows : goal.returns-clause-rows
returns-clause-rows g c clean = if_shown c.open_rows.result (c.open_rows.ensures.rows clean) (λ rows finds v was. (_, found_last v c.args.id rows.items (rw (c.params-to_sql.ensures, c.number.ensures.value) at (finds v was)), stated_last v c.args.id))

pub returns-clause-readable : goal.returns-clause-readable
returns-clause-readable g c clean = if_shown c.open_rows.result (c.open_rows.ensures.rows clean) (λ rows finds v was.
    let found = rw (c.params-to_sql.ensures, c.number.ensures.value) at (finds v was) in
    subst (AreReadable tenure_row IsTenureRow) (sym (found_last v c.args.id rows.items found)) (last_tenure_readable v found.1.spells.kept c.args.id))

pub returns-clause-memory : goal.returns-clause-memory
returns-clause-memory g c well v was = c.open_rows.ensures.memory (rw (c.params-to_sql.ensures, c.number.ensures.value) (last_tenure_asked c.args.id)) well v was
