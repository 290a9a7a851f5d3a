use Rattle.std.proofs.Common.{sym, rules}
use Rattle.vault_audit_rows.specs.Health.{IsMemory}
use Rattle.vault_store_reads.proofs.EntryLemmas.{entry_limited, entry_read, no_entry}
use Rattle.vault_store_reads.proofs.TextLemmas.{entry_selects}
use Rattle.vault_store_reads.proofs.AskedLemmas.{entry_asked}
use Rattle.vault_store_reads.proofs.WantLemmas.{not_wrong}
use Rattle.vault_store_reads.proofs.entries.find_entry.Goals as goal

pub open_rows-requires : goal.open_rows-requires
open_rows-requires g c = (_, entry_selects)

pub returns-in-Ok-clause-value : goal.returns-in-Ok-clause-value
returns-in-Ok-clause-value g c clean v was =
    entry_read v c.args.id c.in_ok-rows.rows.items (rw (c.params-to_sql.ensures, c.number.ensures.value) at (c.in_ok-rows.ensures.rows clean v was)) c.in-Some.row.now c.in-Ok.entry (sym (rw c.deref.ensures.value at c.in-Some.ensures.value))
    c.in-Ok.ensures.row

pub returns-clause-value : goal.returns-clause-value
returns-clause-value g c clean v was =
    no_entry v c.args.id c.in_ok-rows.rows.items (rw (c.params-to_sql.ensures, c.number.ensures.value) at (c.in_ok-rows.ensures.rows clean v was)) (rw c.deref.ensures.value at c.in-None.ensures.value)

pub returns-in_err-rows-clause-memory : goal.returns-in_err-rows-clause-memory
returns-in_err-rows-clause-memory g c well v was = let one : IsMemory c.in_err-rows.field-0.0 = c.in_err-rows.ensures.memory (rw (c.params-to_sql.ensures, c.number.ensures.value) (entry_asked c.args.id)) well v was in search rules

pub returns-in-Some-clause-memory : goal.returns-in-Some-clause-memory
returns-in-Some-clause-memory g c well v was =
    let it = entry_limited v c.args.id c.in_ok-rows.rows.items (rw (c.params-to_sql.ensures, c.number.ensures.value) at (c.in_ok-rows.ensures.rows well.clean v was)) c.in-Some.row.now (sym (rw c.deref.ensures.value at c.in-Some.ensures.value)) in
    not_wrong c.in-Err.misread _ c.unread.ensures.memory (λ wrong. c.in-Err.ensures.wrong wrong it.0 it.2 it.1)
