use Rattle.vaultctl_perform.proofs.DoneLemmas.{new_closed}
use Rattle.vaultctl_perform.proofs.init.close_new.Goals as goal

pub returns-clause-done : goal.returns-clause-done
returns-clause-done g c external is = (c.args.vault.conn, c.close.ensures.closed, new_closed external c.args.vault c.close.ensures.stands is)
