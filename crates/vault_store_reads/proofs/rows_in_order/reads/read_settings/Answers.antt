use Rattle.std.proofs.Common.{sym, ap, map, ◌∙◌}
use Rattle.vault_audit_model.specs.declared.rows.SettingRow.{SettingRow}
use Rattle.vault_audit_model.specs.Rows.{setting_row}
use Rattle.vault_audit_model.proofs.SameRows.{same_setting}
use Rattle.vault_store_reads.proofs.QueryLemmas.{if_shown}
use Rattle.vault_store_reads.proofs.OrderedListLemmas.{map_once}
use Rattle.vault_store_reads.proofs.rows_in_order.reads.read_settings.Goals as goal

pub returns-clause-value : goal.returns-clause-value
returns-clause-value g c clean = if_shown c.decode_settings.result c.decode_settings.ensures.ok (λ found stated v was.
    let rows = c.in_ok-rows.ensures.rows clean v was in
    stated.2 ∙ ap (map (λ (x : SettingRow). x.setting)) (map_once setting_row same_setting stated.0 rows.0 (sym stated.1 ∙ c.deref.ensures.value ∙ rows.1)) ∙ rows.2)

pub returns-clause-memory : goal.returns-clause-memory
returns-clause-memory g c well v was = c.decode_settings.ensures.memory (rw c.deref.ensures.value (c.in_ok-rows.ensures.readable well.clean v was))
