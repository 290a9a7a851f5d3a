use Rattle.std.proofs.Common.{sym, subst}
use Rattle.vault_store_reads.specs.Shown.{name_row}
use Rattle.vault_audit_model.specs.Limits.{IsBucketName}
use Rattle.vault_store_reads.specs.Readable.{AreReadable}
use Rattle.vault_store_reads.proofs.AskedLemmas.{buckets_asked}
use Rattle.vault_store_reads.proofs.BucketLemmas.{buckets_query, found_buckets}
use Rattle.vault_store_reads.proofs.OrderedTextLemmas.{buckets_is}
use Rattle.vault_store_reads.proofs.QueryLemmas.{if_shown}
use Rattle.vault_store_reads.proofs.ReadableLemmas.{buckets_readable}
use Rattle.vault_store_reads.proofs.rows_in_order.buckets.bucket_rows.Goals as goal

pub query_rows-requires : goal.query_rows-requires
query_rows-requires g c = (buckets_query, buckets_is)

pub returns-clause-rows : goal.returns-clause-rows
returns-clause-rows g c clean = if_shown c.query_rows.result (c.query_rows.ensures.rows clean) (λ rows finds v was. found_buckets v c.args.after.now c.args.most rows.items (rw (c.params-to_sql.ensures, c.params-to_sql-2.ensures) at (finds v was)))

pub returns-clause-readable : goal.returns-clause-readable
returns-clause-readable g c clean = if_shown c.query_rows.result (c.query_rows.ensures.rows clean) (λ rows finds v was.
    let found = rw (c.params-to_sql.ensures, c.params-to_sql-2.ensures) at (finds v was) in
    subst (AreReadable name_row IsBucketName) (sym (found_buckets v c.args.after.now c.args.most rows.items found)) (buckets_readable v found.1.spells.kept c.args.after.now c.args.most))

pub returns-clause-memory : goal.returns-clause-memory
returns-clause-memory g c well v was = c.query_rows.ensures.memory (rw (c.params-to_sql.ensures, c.params-to_sql-2.ensures) (buckets_asked c.args.after.now c.args.most)) well v was
