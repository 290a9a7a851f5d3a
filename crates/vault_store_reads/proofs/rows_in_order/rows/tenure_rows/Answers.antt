use Rattle.std.proofs.Common.{sym, subst}
use Rattle.vault_audit_model.specs.Rows.{tenure_row}
use Rattle.vault_audit_model.specs.Limits.{IsTenureRow}
use Rattle.vault_store_reads.specs.Readable.{AreReadable}
use Rattle.vault_store_reads.proofs.AskedLemmas.{tenures_asked}
use Rattle.vault_store_reads.proofs.ReadableLemmas.{tenures_readable}
use Rattle.vault_store_reads.proofs.QueryLemmas.{if_shown}
use Rattle.vault_store_reads.proofs.TenureLemmas.{query, found_tenures, stated_tenures}
use Rattle.vault_store_reads.proofs.OrderedTextLemmas.{tenures_is}
use Rattle.vault_store_reads.proofs.rows_in_order.rows.tenure_rows.Goals as goal

pub query_rows-requires : goal.query_rows-requires
query_rows-requires g c = (query, tenures_is)

pub returns-clause-rows : goal.returns-clause-rows
returns-clause-rows g c clean = if_shown c.query_rows.result (c.query_rows.ensures.rows clean) (λ rows finds v was. (_, found_tenures v c.args.id rows.items (rw (c.params-to_sql.ensures, c.number.ensures.value) at (finds v was)), stated_tenures v c.args.id))

pub returns-clause-readable : goal.returns-clause-readable
returns-clause-readable g c clean = if_shown c.query_rows.result (c.query_rows.ensures.rows clean) (λ rows finds v was.
    let found = rw (c.params-to_sql.ensures, c.number.ensures.value) at (finds v was) in
    subst (AreReadable tenure_row IsTenureRow) (sym (found_tenures v c.args.id rows.items found)) (tenures_readable v found.1.spells.kept c.args.id))

pub returns-clause-memory : goal.returns-clause-memory
returns-clause-memory g c well v was = c.query_rows.ensures.memory (rw (c.params-to_sql.ensures, c.number.ensures.value) (tenures_asked c.args.id)) well v was
