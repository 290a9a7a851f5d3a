use Rattle.std.proofs.Common.{refl}
use Rattle.vaultctl_serve.proofs.ServingLemmas.{HearsAll-none, Stepped-none}
use Rattle.vaultctl_work.proofs.serving.serve_for_hosts.Goals as goal

-- the text names no place, and nobody listened
pub returns-in_default-lines_at-clause-done : goal.returns-in_default-lines_at-clause-done
returns-in_default-lines_at-clause-done g c = λ h. (h, Stepped-none _ _ _ refl)

pub returns-in_default-lines_at-clause-heard : goal.returns-in_default-lines_at-clause-heard
returns-in_default-lines_at-clause-heard g c = λ h. HearsAll-none g.H.Hears.going g.H.Hears.hears c.args.hears.now (g.K.Kept.vault c.args.keeper.now)
