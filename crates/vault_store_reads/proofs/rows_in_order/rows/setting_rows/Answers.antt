use Rattle.std.proofs.Common.{sym, subst}
use Rattle.vault_store_reads.specs.Shown.{last_row}
use Rattle.vault_store_reads.specs.Readable.{AreReadable, IsLastSetting}
use Rattle.vault_store_reads.proofs.AskedLemmas.{setting_asked}
use Rattle.vault_store_reads.proofs.ReadableLemmas.{setting_readable}
use Rattle.vault_store_reads.proofs.QueryLemmas.{if_shown}
use Rattle.vault_store_reads.proofs.SettingLemmas.{query, found_setting}
use Rattle.vault_store_reads.proofs.OrderedTextLemmas.{setting_is}
use Rattle.vault_store_reads.proofs.rows_in_order.rows.setting_rows.Goals as goal

pub open_rows-requires : goal.open_rows-requires
open_rows-requires g c = (query, setting_is)

pub returns-clause-rows : goal.returns-clause-rows
returns-clause-rows g c clean = if_shown c.open_rows.result (c.open_rows.ensures.rows clean) (λ rows finds v was. found_setting v c.args.id rows.items (rw (c.params-to_sql.ensures, c.number.ensures.value) at (finds v was)))

pub returns-clause-readable : goal.returns-clause-readable
returns-clause-readable g c clean = if_shown c.open_rows.result (c.open_rows.ensures.rows clean) (λ rows finds v was.
    let found = rw (c.params-to_sql.ensures, c.number.ensures.value) at (finds v was) in
    subst (AreReadable last_row IsLastSetting) (sym (found_setting v c.args.id rows.items found)) (setting_readable v found.1.spells.kept c.args.id))

pub returns-clause-memory : goal.returns-clause-memory
returns-clause-memory g c well v was = c.open_rows.ensures.memory (rw (c.params-to_sql.ensures, c.number.ensures.value) (setting_asked c.args.id)) well v was
