use Rattle.std.proofs.Common.{sym, rules}
use Rattle.vault_audit_rows.specs.Health.{IsMemory}
use Rattle.vault_store_reads.proofs.MetaLemmas.{meta_limited, meta_there, meta_read, kept_sound}
use Rattle.vault_store_reads.proofs.TextLemmas.{meta_selects}
use Rattle.vault_store_reads.proofs.AskedLemmas.{meta_asked}
use Rattle.vault_store_reads.proofs.WantLemmas.{not_wrong}
use Rattle.vault_store_reads.proofs.meta.read_meta.Goals as goal

pub query_rows-requires : goal.query_rows-requires
query_rows-requires g c = (_, meta_selects)

pub returns-in-Ok-clause-value : goal.returns-in-Ok-clause-value
returns-in-Ok-clause-value g c clean v was =
    meta_read v c.in_ok-rows.rows.items (c.in_ok-rows.ensures.rows clean v was) c.in-Some.row.now c.in-Ok.meta (sym (rw c.deref.ensures.value at c.in-Some.ensures.value)) c.in-Ok.ensures.ok.0

pub returns-in-Ok-clause-sound : goal.returns-in-Ok-clause-sound
returns-in-Ok-clause-sound g c clean v was = kept_sound v c.in_ok-rows.rows.items (c.in_ok-rows.ensures.rows clean v was)

pub returns-in_err-rows-clause-memory : goal.returns-in_err-rows-clause-memory
returns-in_err-rows-clause-memory g c well v was = let one : IsMemory c.in_err-rows.field-0.0 = c.in_err-rows.ensures.memory meta_asked well v was in search rules

pub returns-in-Some-clause-memory : goal.returns-in-Some-clause-memory
returns-in-Some-clause-memory g c well v was =
    let it = meta_limited v c.in_ok-rows.rows.items (c.in_ok-rows.ensures.rows well.clean v was) c.in-Some.row.now (sym (rw c.deref.ensures.value at c.in-Some.ensures.value)) in
    not_wrong c.in-Err.misread _ c.unread.ensures.memory (λ wrong. c.in-Err.ensures.wrong wrong it.0 it.2 it.1)

pub returns-clause-memory : goal.returns-clause-memory
returns-clause-memory g c well v was = absurd (meta_there v c.in_ok-rows.rows.items (c.in_ok-rows.ensures.rows well.clean v was) (rw c.deref.ensures.value at c.in-None.ensures.value))
