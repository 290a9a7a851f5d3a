use Rattle.vault_core_laws.proofs.Newest.{current-head, current-no_head}
use Rattle.vault_core_laws.proofs.heads_name_the_current_entry.Goals as goal

pub returns-clause-found : goal.returns-clause-found
returns-clause-found c = current-head

pub returns-clause-none : goal.returns-clause-none
returns-clause-none c = current-no_head
