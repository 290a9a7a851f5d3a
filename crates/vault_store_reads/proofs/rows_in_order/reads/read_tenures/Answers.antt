use Rattle.std.proofs.Common.{sym, ap, map, ◌∙◌}
use Rattle.vault_audit_model.specs.declared.rows.TenureRow.{TenureRow}
use Rattle.vault_audit_model.specs.Rows.{tenure_row}
use Rattle.vault_audit_model.proofs.SameRows.{same_tenure}
use Rattle.vault_store_reads.proofs.QueryLemmas.{if_shown}
use Rattle.vault_store_reads.proofs.OrderedListLemmas.{map_once}
use Rattle.vault_store_reads.proofs.rows_in_order.reads.read_tenures.Goals as goal

pub returns-clause-value : goal.returns-clause-value
returns-clause-value g c clean = if_shown c.decode_tenures.result c.decode_tenures.ensures.ok (λ found stated v was.
    let rows = c.in_ok-rows.ensures.rows clean v was in
    stated.2 ∙ ap (map (λ (x : TenureRow). x.tenure)) (map_once tenure_row same_tenure stated.0 rows.0 (sym stated.1 ∙ c.deref.ensures.value ∙ rows.1)) ∙ rows.2)

pub returns-clause-memory : goal.returns-clause-memory
returns-clause-memory g c well v was = c.decode_tenures.ensures.memory (rw c.deref.ensures.value (c.in_ok-rows.ensures.readable well.clean v was))
