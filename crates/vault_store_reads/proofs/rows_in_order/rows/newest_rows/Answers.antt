use Rattle.std.proofs.Common.{IsTrue, sym, subst}
use Rattle.vault_base.specs.Name.{is_version_id}
use Rattle.vault_store_reads.specs.Shown.{id_row}
use Rattle.vault_store_reads.specs.Readable.{AreReadable}
use Rattle.vault_store_reads.proofs.AskedLemmas.{newest_asked}
use Rattle.vault_store_reads.proofs.ReadableLemmas.{newest_readable}
use Rattle.vault_store_reads.proofs.QueryLemmas.{if_shown}
use Rattle.vault_store_reads.proofs.OrderedEntryLemmas.{but_query, found_newest}
use Rattle.vault_store_reads.proofs.OrderedTextLemmas.{newest_is}
use Rattle.vault_store_reads.proofs.rows_in_order.rows.newest_rows.Goals as goal

pub query_rows-requires : goal.query_rows-requires
query_rows-requires g c = (but_query, newest_is)

pub returns-clause-rows : goal.returns-clause-rows
returns-clause-rows g c clean = if_shown c.query_rows.result (c.query_rows.ensures.rows clean) (λ rows finds v was. found_newest v c.args.bucket.now c.args.key.now c.args.id rows.items (rw (c.params-to_sql.ensures, c.params-to_sql-2.ensures, c.params-to_sql-3.ensures, c.as_str.ensures.text, c.as_str-2.ensures.text, c.number.ensures.value) at (finds v was)))

pub returns-clause-readable : goal.returns-clause-readable
returns-clause-readable g c clean = if_shown c.query_rows.result (c.query_rows.ensures.rows clean) (λ rows finds v was.
    let found = rw (c.params-to_sql.ensures, c.params-to_sql-2.ensures, c.params-to_sql-3.ensures, c.as_str.ensures.text, c.as_str-2.ensures.text, c.number.ensures.value) at (finds v was) in
    subst (AreReadable id_row (λ n. IsTrue (is_version_id n))) (sym (found_newest v c.args.bucket.now c.args.key.now c.args.id rows.items found)) (newest_readable v found.1.spells.kept c.args.bucket.now c.args.key.now c.args.id))

pub returns-clause-memory : goal.returns-clause-memory
returns-clause-memory g c well v was = c.query_rows.ensures.memory (rw (c.params-to_sql.ensures, c.params-to_sql-2.ensures, c.params-to_sql-3.ensures, c.as_str.ensures.text, c.as_str-2.ensures.text, c.number.ensures.value) (newest_asked c.args.bucket.now c.args.key.now c.args.id)) well v was
