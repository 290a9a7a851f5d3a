use Rattle.std.proofs.Common.{sym, ◌∙◌, rules}
use Rattle.vault_core_model.specs.Places.{held_at}
use Rattle.vault_audit_rows.specs.Health.{IsMemory}
use Rattle.vault_store_reads.proofs.QueryLemmas.{if_shown}
use Rattle.vault_store_reads.proofs.HeadLemmas.{head_limited, head_read, no_head}
use Rattle.vault_store_reads.proofs.TextLemmas.{head_selects}
use Rattle.vault_store_reads.proofs.AskedLemmas.{head_asked}
use Rattle.vault_store_reads.proofs.BoundLemmas.{count_fits}
use Rattle.vault_store_reads.proofs.CountLemmas.{counted, none_counted}
use Rattle.vault_store_reads.proofs.rows_in_order.count.find_count.Goals as goal

pub open_rows-requires : goal.open_rows-requires
open_rows-requires g c = (_, head_selects)

pub returns-in_default-clause-value : goal.returns-in_default-clause-value
returns-in_default-clause-value g c clean v was =
    let finds = rw (c.params-to_sql.ensures, c.params-to_sql-2.ensures, c.as_str.ensures.text, c.as_str-2.ensures.text) at (c.in_ok-rows.ensures.rows clean v was) in
    let none = no_head v c.args.bucket.now c.args.key.now c.in_ok-rows.rows.items finds (rw c.deref.ensures.value at c.in_default.ensures.value) in
    (none_counted (held_at v c.args.bucket.now c.args.key.now) none, finds.1.spells.kept.sound)

pub returns-clause-value : goal.returns-clause-value
returns-clause-value g c clean = if_shown c.read_count.result c.read_count.ensures.ok (λ count stated v was.
    let finds = rw (c.params-to_sql.ensures, c.params-to_sql-2.ensures, c.as_str.ensures.text, c.as_str-2.ensures.text) at (c.in_ok-rows.ensures.rows clean v was) in
    let head = head_read v c.args.bucket.now c.args.key.now c.in_ok-rows.rows.items finds c.in-Some.row.now stated.0 (sym (rw c.deref.ensures.value at c.in-Some.ensures.value)) stated.1 in
    (sym stated.2 ∙ counted (held_at v c.args.bucket.now c.args.key.now) stated.0.head head, finds.1.spells.kept.sound))

pub returns-in_err-rows-clause-memory : goal.returns-in_err-rows-clause-memory
returns-in_err-rows-clause-memory g c well v was = let one : IsMemory c.in_err-rows.field-0.0 = c.in_err-rows.ensures.memory (rw (c.params-to_sql.ensures, c.params-to_sql-2.ensures, c.as_str.ensures.text, c.as_str-2.ensures.text) (head_asked c.args.bucket.now c.args.key.now)) well v was in search rules

pub returns-clause-memory : goal.returns-clause-memory
returns-clause-memory g c well v was =
    let finds = rw (c.params-to_sql.ensures, c.params-to_sql-2.ensures, c.as_str.ensures.text, c.as_str-2.ensures.text) at (c.in_ok-rows.ensures.rows well.clean v was) in
    let first = sym (rw c.deref.ensures.value at c.in-Some.ensures.value) in
    let it = head_limited v c.args.bucket.now c.args.key.now c.in_ok-rows.rows.items finds c.in-Some.row.now first in
    let head = head_read v c.args.bucket.now c.args.key.now c.in_ok-rows.rows.items finds c.in-Some.row.now it.0 first it.1 in
    c.read_count.ensures.memory it.0 it.2 it.1 (count_fits v c.args.bucket.now c.args.key.now it.0.head.count finds.1.spells.kept.sound (counted (held_at v c.args.bucket.now c.args.key.now) it.0.head head))
