use Rattle.std.proofs.Common.{refl}
use Rattle.vaultctl_perform.proofs.DoneLemmas.{closed_after}
use Rattle.vaultctl_perform.proofs.vaults.close_found.Goals as goal

pub returns-clause-done : goal.returns-clause-done
returns-clause-done g c = closed_after _ c.args.vault c.args.vault _ _ _ c.close.ensures.closed c.close.ensures.stands c.requires.found (λ clean. (clean, refl))
