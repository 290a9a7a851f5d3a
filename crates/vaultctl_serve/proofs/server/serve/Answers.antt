use Rattle.std.proofs.Common.{◌≡◌, Option, refl, subst}
use Rattle.vaultctl_log.specs.Logging.{IsLogged}
use Rattle.vaultctl_serve.proofs.LogLemmas.{LogsWhile-in}
use Rattle.vaultctl_serve.proofs.ServingLemmas.{HearsAll-none, Stepped-none}
use Rattle.vaultctl_serve.specs.Account.{LogsWhile}
use Rattle.vaultctl_serve.proofs.server.serve.Goals as goal

-- nothing was served
pub returns-in_default-clause-stepped : goal.returns-in_default-clause-stepped
returns-in_default-clause-stepped g c = λ h. Stepped-none c.args.place.count (g.K.Kept.vault c.args.keeper.now) (g.K.Kept.vault c.args.keeper.now) refl

pub returns-in_default-clause-heard : goal.returns-in_default-clause-heard
returns-in_default-clause-heard g c = λ h. HearsAll-none g.H.Hears.going g.H.Hears.hears c.args.hears.now (g.K.Kept.vault c.args.keeper.now)

pub returns-clause-reported : goal.returns-clause-reported
returns-clause-reported g c = (c.listening.new.self, c.listening.ensures, c.serve_arrivals.ensures.reported)

-- the log is the one that the connections had
pub returns-clause-logged : goal.returns-clause-logged
returns-clause-logged g c =
    let P : Option g.row.W.Denot → Type 0 = λ log. LogsWhile (λ before after. after ≡ before) (IsLogged g.W.Write.contents) (g.H.Hears.going c.serve_arrivals.new.hears) c.args.place.count log c.serve_arrivals.new.arrivals.log in
    subst P c.take.ensures.value (LogsWhile-in (λ it. it.log) _ _ _ _ _ _ c.serve_arrivals.ensures.logged)
