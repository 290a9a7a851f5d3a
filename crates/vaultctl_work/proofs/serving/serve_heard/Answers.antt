use Rattle.std.proofs.Common.{refl}
use Rattle.vaultctl_serve.proofs.ServingLemmas.{HearsAll-none, Stepped-none}
use Rattle.vaultctl_work.proofs.serving.serve_heard.Goals as goal

-- room for the hosts was refused
pub returns-in_default-clause-done : goal.returns-in_default-clause-done
returns-in_default-clause-done g c = λ h. (h, Stepped-none _ _ _ refl)

pub returns-in_default-clause-heard : goal.returns-in_default-clause-heard
returns-in_default-clause-heard g c = λ h. HearsAll-none g.H.Hears.going g.H.Hears.hears c.args.hears.now (g.K.Kept.vault c.args.keeper.now)
