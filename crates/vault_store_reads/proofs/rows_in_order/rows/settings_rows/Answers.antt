use Rattle.std.proofs.Common.{sym, subst}
use Rattle.vault_audit_model.specs.Rows.{setting_row}
use Rattle.vault_audit_model.specs.Limits.{IsSettingRow}
use Rattle.vault_store_reads.specs.Readable.{AreReadable}
use Rattle.vault_store_reads.proofs.AskedLemmas.{settings_asked}
use Rattle.vault_store_reads.proofs.ReadableLemmas.{settings_readable}
use Rattle.vault_store_reads.proofs.QueryLemmas.{if_shown}
use Rattle.vault_store_reads.proofs.SettingLemmas.{all_query, found_settings, stated_settings}
use Rattle.vault_store_reads.proofs.OrderedTextLemmas.{settings_is}
use Rattle.vault_store_reads.proofs.rows_in_order.rows.settings_rows.Goals as goal

pub query_rows-requires : goal.query_rows-requires
query_rows-requires g c = (all_query, settings_is)

pub returns-clause-rows : goal.returns-clause-rows
returns-clause-rows g c clean = if_shown c.query_rows.result (c.query_rows.ensures.rows clean) (λ rows finds v was. (_, found_settings v c.args.id rows.items (rw (c.params-to_sql.ensures, c.number.ensures.value) at (finds v was)), stated_settings v c.args.id))

pub returns-clause-readable : goal.returns-clause-readable
returns-clause-readable g c clean = if_shown c.query_rows.result (c.query_rows.ensures.rows clean) (λ rows finds v was.
    let found = rw (c.params-to_sql.ensures, c.number.ensures.value) at (finds v was) in
    subst (AreReadable setting_row IsSettingRow) (sym (found_settings v c.args.id rows.items found)) (settings_readable v found.1.spells.kept c.args.id))

pub returns-clause-memory : goal.returns-clause-memory
returns-clause-memory g c well v was = c.query_rows.ensures.memory (rw (c.params-to_sql.ensures, c.number.ensures.value) (settings_asked c.args.id)) well v was
