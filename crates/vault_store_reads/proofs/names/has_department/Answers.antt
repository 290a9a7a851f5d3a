use Rattle.std.proofs.Common.{◌∙◌, ◌==◌, ap, not, rules}
use Rattle.vault_audit_rows.specs.Health.{IsMemory}
use Rattle.vault_store_reads.proofs.NameLemmas.{department_there}
use Rattle.vault_store_reads.proofs.TextLemmas.{department_selects}
use Rattle.vault_store_reads.proofs.AskedLemmas.{department_asked}
use Rattle.vault_store_reads.proofs.names.has_department.Goals as goal

pub query_rows-requires : goal.query_rows-requires
query_rows-requires g c = (_, department_selects)

pub returns-clause-value : goal.returns-clause-value
returns-clause-value g c clean v was =
    ap not c.is_empty.ensures ∙ ap (λ n. not (n == 0)) c.in_ok-rows.rows.ok.0 ∙ department_there v c.args.name.now c.in_ok-rows.rows.items (rw (c.params-to_sql.ensures, c.as_str.ensures.text) at (c.in_ok-rows.ensures.rows clean v was))

pub returns-in_err-rows-clause-memory : goal.returns-in_err-rows-clause-memory
returns-in_err-rows-clause-memory g c well v was = let one : IsMemory c.in_err-rows.field-0.0 = c.in_err-rows.ensures.memory (rw (c.params-to_sql.ensures, c.as_str.ensures.text) (department_asked c.args.name.now)) well v was in search rules
