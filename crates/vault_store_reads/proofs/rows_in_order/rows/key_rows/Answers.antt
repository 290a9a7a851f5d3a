use Rattle.std.proofs.Common.{sym, subst}
use Rattle.vault_store_reads.specs.Shown.{key_row}
use Rattle.vault_audit_model.specs.Limits.{IsObjectKey}
use Rattle.vault_store_reads.specs.Readable.{AreReadable}
use Rattle.vault_store_reads.proofs.AskedLemmas.{keys_asked}
use Rattle.vault_store_reads.proofs.ReadableLemmas.{keys_readable}
use Rattle.vault_store_reads.proofs.QueryLemmas.{if_shown}
use Rattle.vault_store_reads.proofs.KeyLemmas.{query, found_keys}
use Rattle.vault_store_reads.proofs.OrderedTextLemmas.{keys_is}
use Rattle.vault_store_reads.proofs.rows_in_order.rows.key_rows.Goals as goal

pub query_rows-requires : goal.query_rows-requires
query_rows-requires g c = (query, keys_is)

pub returns-clause-rows : goal.returns-clause-rows
returns-clause-rows g c clean = if_shown c.query_rows.result (c.query_rows.ensures.rows clean) (λ rows finds v was. found_keys v c.args.bucket.now c.args.after.now c.args.most rows.items (rw (c.params-to_sql.ensures, c.params-to_sql-2.ensures, c.params-to_sql-3.ensures, c.as_str.ensures.text, c.as_str-2.ensures.text) at (finds v was)))

pub returns-clause-readable : goal.returns-clause-readable
returns-clause-readable g c clean = if_shown c.query_rows.result (c.query_rows.ensures.rows clean) (λ rows finds v was.
    let found = rw (c.params-to_sql.ensures, c.params-to_sql-2.ensures, c.params-to_sql-3.ensures, c.as_str.ensures.text, c.as_str-2.ensures.text) at (finds v was) in
    subst (AreReadable key_row IsObjectKey) (sym (found_keys v c.args.bucket.now c.args.after.now c.args.most rows.items found)) (keys_readable v found.1.spells.kept c.args.bucket.now c.args.after.now c.args.most))

pub returns-clause-memory : goal.returns-clause-memory
returns-clause-memory g c well v was = c.query_rows.ensures.memory (rw (c.params-to_sql.ensures, c.params-to_sql-2.ensures, c.params-to_sql-3.ensures, c.as_str.ensures.text, c.as_str-2.ensures.text) (keys_asked c.args.bucket.now c.args.after.now c.args.most)) well v was
