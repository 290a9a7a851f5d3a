use Rattle.std.proofs.Common.{Option, None, refl, subst}
use Rattle.vaultctl_log.specs.Logging.{IsLogged}
use Rattle.vaultctl_serve.proofs.ServingLemmas.{HearsAll-none, Stepped-none}
use Rattle.vaultctl_serve_lines.proofs.LogTurnLemmas.{LogsInTurns-in}
use Rattle.vaultctl_serve_lines.specs.Doors.{LogsInTurns}
use Rattle.vaultctl_serve_lines.specs.Troubles.{LogsUntaken}
use Rattle.vaultctl_serve_lines.proofs.both.serve_with_lines.Goals as goal

-- nothing was served
pub returns-in-Err-clause-stepped : goal.returns-in-Err-clause-stepped
returns-in-Err-clause-stepped g c = λ h. Stepped-none c.args.places.count (g.K.Kept.vault c.args.keeper.now) (g.K.Kept.vault c.args.keeper.now) refl

pub returns-in-Err-clause-heard : goal.returns-in-Err-clause-heard
returns-in-Err-clause-heard g c = λ h. HearsAll-none g.H.Hears.going g.H.Hears.hears c.args.hears.now (g.K.Kept.vault c.args.keeper.now)

-- the log is the one that the doors had
pub returns-clause-logged : goal.returns-clause-logged
returns-clause-logged g c =
    let (turns, n, low, all, each) = c.serve_doors-ended.ensures.logged in
    let P : Option _ → Type 0 = λ log. LogsInTurns (λ _. None) (LogsUntaken (λ _. None)) (IsLogged (λ _. None)) turns n log c.serve_doors-ended.new.doors.log in
    (turns, n, low, all, subst P c.take.ensures.value (LogsInTurns-in (λ it. it.log) _ _ turns n _ _ each))
