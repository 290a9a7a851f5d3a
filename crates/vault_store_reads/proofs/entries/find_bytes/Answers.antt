use Rattle.std.proofs.Common.{sym, rules}
use Rattle.vault_audit_rows.specs.Health.{IsMemory}
use Rattle.vault_store_reads.proofs.EntryLemmas.{bytes_read, content_limited, no_bytes}
use Rattle.vault_store_reads.proofs.TextLemmas.{content_selects}
use Rattle.vault_store_reads.proofs.AskedLemmas.{content_asked}
use Rattle.vault_store_reads.proofs.WantLemmas.{not_wrong}
use Rattle.vault_store_reads.proofs.entries.find_bytes.Goals as goal

pub open_rows-requires : goal.open_rows-requires
open_rows-requires g c = (_, content_selects)

pub returns-in-Ok-clause-value : goal.returns-in-Ok-clause-value
returns-in-Ok-clause-value g c clean v was =
    let finds = rw (c.params-to_sql.ensures, c.number.ensures.value) at (c.in_ok-rows.ensures.rows clean v was) in
    (bytes_read v c.args.id c.in_ok-rows.rows.items finds c.in-Some.row.now c.in-Ok.version (sym (rw c.deref.ensures.value at c.in-Some.ensures.value)) c.in-Ok.ensures.ok.0, finds.1.spells.kept.sound)

pub returns-clause-value : goal.returns-clause-value
returns-clause-value g c clean v was =
    let finds = rw (c.params-to_sql.ensures, c.number.ensures.value) at (c.in_ok-rows.ensures.rows clean v was) in
    (no_bytes v c.args.id c.in_ok-rows.rows.items finds (rw c.deref.ensures.value at c.in-None.ensures.value), finds.1.spells.kept.sound)

pub returns-in_err-rows-clause-memory : goal.returns-in_err-rows-clause-memory
returns-in_err-rows-clause-memory g c well v was = let one : IsMemory c.in_err-rows.field-0.0 = c.in_err-rows.ensures.memory (rw (c.params-to_sql.ensures, c.number.ensures.value) (content_asked c.args.id)) well v was in search rules

pub returns-in-Some-clause-memory : goal.returns-in-Some-clause-memory
returns-in-Some-clause-memory g c well v was =
    let it = content_limited v c.args.id c.in_ok-rows.rows.items (rw (c.params-to_sql.ensures, c.number.ensures.value) at (c.in_ok-rows.ensures.rows well.clean v was)) c.in-Some.row.now (sym (rw c.deref.ensures.value at c.in-Some.ensures.value)) in
    not_wrong c.in-Err.misread _ c.unread.ensures.memory (λ wrong. c.in-Err.ensures.wrong wrong it.0 it.2 it.1)
