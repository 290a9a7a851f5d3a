use Rattle.std.proofs.Common.{◌∙◌}
use Rattle.vaultctl_perform.proofs.DoneLemmas.{along, carries_from}
use Rattle.vaultctl_perform.proofs.verify.look.Goals as goal

pub returns-clause-found : goal.returns-clause-found
returns-clause-found g c =
    let counted = c.in_ok-vault.ensures.counted in
    (c.close_found.ensures.given ∙ along counted (λ m. m.given), carries_from _ _ _ _ _ c.close_found.ensures.done (along counted (λ m. m.closed.items)))
