use Rattle.vault_store_model.proofs.HeadAfterRemovalLemmas.{last_removed, older_removed, count_removed}
use Rattle.vault_store_model.proofs.changes.heads_after_a_removal.Goals as goal

pub returns-clause-alone : goal.returns-clause-alone
returns-clause-alone c = last_removed

pub returns-clause-older : goal.returns-clause-older
returns-clause-older c = older_removed

pub returns-clause-fewer : goal.returns-clause-fewer
returns-clause-fewer c v id e head new sound there held is after = count_removed v id e head sound there held is new after
