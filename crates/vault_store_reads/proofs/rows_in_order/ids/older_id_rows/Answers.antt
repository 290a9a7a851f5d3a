use Rattle.std.proofs.Common.{IsTrue, Some, sym, subst}
use Rattle.vault_base.specs.Name.{is_version_id}
use Rattle.vault_store_reads.specs.Shown.{id_row}
use Rattle.vault_store_reads.specs.Readable.{AreReadable}
use Rattle.vault_store_reads.proofs.AskedLemmas.{older_asked}
use Rattle.vault_store_reads.proofs.IdLemmas.{older_query, found_older}
use Rattle.vault_store_reads.proofs.OrderedTextLemmas.{older_is}
use Rattle.vault_store_reads.proofs.QueryLemmas.{if_shown}
use Rattle.vault_store_reads.proofs.ReadableLemmas.{older_readable}
use Rattle.vault_store_reads.proofs.rows_in_order.ids.older_id_rows.Goals as goal

pub open_rows-requires : goal.open_rows-requires
open_rows-requires g c = (older_query, older_is)

pub returns-clause-rows : goal.returns-clause-rows
returns-clause-rows g c clean = if_shown c.open_rows.result (c.open_rows.ensures.rows clean) (λ rows finds v was. found_older v c.args.bucket.now c.args.key.now c.args.than c.args.most rows.items (rw (c.params-to_sql.ensures, c.params-to_sql-2.ensures, c.params-to_sql-3.ensures, c.params-to_sql-4.ensures, c.as_str.ensures.text, c.as_str-2.ensures.text, c.number.ensures.value) at (finds v was)))

pub returns-clause-readable : goal.returns-clause-readable
returns-clause-readable g c clean = if_shown c.open_rows.result (c.open_rows.ensures.rows clean) (λ rows finds v was.
    let found = rw (c.params-to_sql.ensures, c.params-to_sql-2.ensures, c.params-to_sql-3.ensures, c.params-to_sql-4.ensures, c.as_str.ensures.text, c.as_str-2.ensures.text, c.number.ensures.value) at (finds v was) in
    subst (AreReadable id_row (λ n. IsTrue (is_version_id n))) (sym (found_older v c.args.bucket.now c.args.key.now c.args.than c.args.most rows.items found)) (older_readable v found.1.spells.kept c.args.bucket.now c.args.key.now (Some c.args.than) c.args.most))

pub returns-clause-memory : goal.returns-clause-memory
returns-clause-memory g c well v was = c.open_rows.ensures.memory (rw (c.params-to_sql.ensures, c.params-to_sql-2.ensures, c.params-to_sql-3.ensures, c.params-to_sql-4.ensures, c.as_str.ensures.text, c.as_str-2.ensures.text, c.number.ensures.value) (older_asked c.args.bucket.now c.args.key.now c.args.than c.args.most)) well v was
