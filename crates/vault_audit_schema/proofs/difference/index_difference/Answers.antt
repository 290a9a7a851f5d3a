use Rattle.std.proofs.Common.{sym}
use Rattle.std.proofs.lemmas.Option.{none-some}
use Rattle.vault_audit_schema.proofs.CompareLemmas.{unlike_not}
use Rattle.vault_audit_schema.proofs.difference.index_difference.Goals as goal

pub returns-in_err-at : goal.returns-in_err-at
returns-in_err-at c = (λ _. rw c.indexes_of.ensures at c.in_err-at.ensures, λ _. c.from_residual.ensures)

pub returns : goal.returns
returns c = (λ e. absurd (none-some c.index_table.result (sym e)), λ e. absurd (unlike_not (rw c.indexes_of.ensures at c.in_ok-at.ensures) e))
