use Rattle.std.proofs.Common.{◌∙◌}
use Rattle.vaultctl_perform.proofs.DoneLemmas.{along, copied_both}
use Rattle.vaultctl_perform.proofs.migrate.copy.Goals as goal

pub returns-clause-copied : goal.returns-clause-copied
returns-clause-copied g c =
    let copy = c.in_ok-migrated.migrated in
    let counted = c.in_ok-migrated.ensures.counted in (
      c.close_migrated.ensures.given ∙ along counted (λ m. m.given),
      copied_both c.args.copying.external _ copy.source copy.vault _ _ _ _ _ _ c.close_migrated.ensures.closed c.close_migrated.ensures.copies c.close_migrated.ensures.stands c.in_ok-migrated.ensures.found (along counted (λ m. m.closed.items)) (along counted (λ m. m.copies.items)),
    )
