use Rattle.vault_store.proofs.AcknowledgedLemmas.{finds_it_alone, finds_what_is_left, finds_what_is_kept, finds_the_run}
use Rattle.vault_store.proofs.openings_find_what_was_acknowledged.Goals as goal

pub returns-clause-left : goal.returns-clause-left
returns-clause-left g c = finds_what_is_left g.S.Store g.T.Store

pub returns-clause-kept : goal.returns-clause-kept
returns-clause-kept g c = finds_what_is_kept g.S.Store g.T.Store

pub returns-clause-alone : goal.returns-clause-alone
returns-clause-alone g c = finds_it_alone g.S.Store g.T.Store g.met.S.Store.settled

pub returns-clause-run : goal.returns-clause-run
returns-clause-run g c = finds_the_run g.S.Store g.T.Store
