use Rattle.std.proofs.Common.{◌≡◌, ℤ, FitsSigned, rules, subst, to_z, to_z-of_z, of_z, w64}
use Rattle.vault_base.specs.Days.{moment_at}
use Rattle.vault_core.specs.Hearing.{HearsOnce}
use Rattle.vaultctl_serve_lines_answers.proofs.ClosingLemmas.{heard-once}
use Rattle.vaultctl_serve_lines.proofs.turns.answer_talker.Goals as goal

-- the command of the line, at the reading
pub returns-clause-heard : goal.returns-clause-heard
returns-clause-heard g c =
    let reading = c.args.reading in
    let before = c.args.keeper.now in
    let after = c.serve_line-answered.new.keeper in
    let fits : FitsSigned w64 reading = search rules in
    let same : to_z w64 (of_z w64 reading) ≡ reading = to_z-of_z fits in
    let P : ℤ → Type 0 = λ z. HearsOnce g.H.Hears.hears c.args.hears.now c.serve_line-answered.new.hears (moment_at z) (g.K.Kept.vault before) (g.K.Kept.vault after) in
    λ h. subst P same (heard-once c.args.heard.now _ g.K.Kept before after g.H.Hears.hears c.args.hears.now c.serve_line-answered.new.hears c.serve_line-answered.result _ _ c.serve_line-answered.ensures.heard h)
