use Rattle.std.proofs.Common.{◌∙◌}
use Rattle.vaultctl_perform.proofs.DoneLemmas.{along, closes_from}
use Rattle.vaultctl_perform.proofs.init.make.Goals as goal

pub returns-clause-made : goal.returns-clause-made
returns-clause-made g c =
    let counted = c.in_ok-vault.ensures.counted in
    (c.close_new.ensures.given ∙ along counted (λ m. m.given), closes_from _ _ _ _ (c.close_new.ensures.done c.args.external c.in_ok-vault.ensures.opening) (along counted (λ m. m.closed.items)))
