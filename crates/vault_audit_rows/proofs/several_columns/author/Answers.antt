use Rattle.vault_audit_rows.proofs.ColumnLemmas.{no_author}
use Rattle.vault_audit_rows.proofs.several_columns.author.Goals as goal

pub returns-in-None-clause-wrong : goal.returns-in-None-clause-wrong
returns-in-None-clause-wrong c same a is kind name = no_author _ c.in-None.ensures a kind
