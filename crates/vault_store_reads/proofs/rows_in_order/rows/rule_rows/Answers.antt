use Rattle.std.proofs.Common.{sym, subst}
use Rattle.vault_audit_model.specs.Rows.{rule_row}
use Rattle.vault_audit_model.specs.Limits.{IsRuleRow}
use Rattle.vault_store_reads.specs.Readable.{AreReadable}
use Rattle.vault_store_reads.proofs.AskedLemmas.{rules_asked}
use Rattle.vault_store_reads.proofs.ReadableLemmas.{rules_readable}
use Rattle.vault_store_reads.proofs.QueryLemmas.{if_shown}
use Rattle.vault_store_reads.proofs.RuleLemmas.{query, found_rules, stated_rules}
use Rattle.vault_store_reads.proofs.OrderedTextLemmas.{rules_is}
use Rattle.vault_store_reads.proofs.rows_in_order.rows.rule_rows.Goals as goal

pub query_rows-requires : goal.query_rows-requires
query_rows-requires g c = (query, rules_is)

pub returns-clause-rows : goal.returns-clause-rows
returns-clause-rows g c clean = if_shown c.query_rows.result (c.query_rows.ensures.rows clean) (λ rows finds v was. (_, found_rules v c.args.bucket.now rows.items (rw (c.params-to_sql.ensures, c.as_str.ensures.text) at (finds v was)), stated_rules v c.args.bucket.now (finds v was).1.spells.kept.sound.rule_sets))

pub returns-clause-readable : goal.returns-clause-readable
returns-clause-readable g c clean = if_shown c.query_rows.result (c.query_rows.ensures.rows clean) (λ rows finds v was.
    let found = rw (c.params-to_sql.ensures, c.as_str.ensures.text) at (finds v was) in
    subst (AreReadable rule_row IsRuleRow) (sym (found_rules v c.args.bucket.now rows.items found)) (rules_readable v found.1.spells.kept c.args.bucket.now))

pub returns-clause-memory : goal.returns-clause-memory
returns-clause-memory g c well v was = c.query_rows.ensures.memory (rw (c.params-to_sql.ensures, c.as_str.ensures.text) (rules_asked c.args.bucket.now)) well v was
