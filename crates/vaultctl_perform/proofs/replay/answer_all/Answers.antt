use Rattle.std.proofs.Common.{inl, inr, refl, subst}
use Rattle.vault_core_model.specs.Sound.{Sound}
use Rattle.vault_core_model.specs.Vault.{Vault}
use Rattle.vaultctl_work.proofs.HonestLemmas.{answered_by}
use Rattle.vaultctl_work.specs.Done.{IsScriptAnswered}
use Rattle.vaultctl_work.specs.Outcomes.{replayed}
use Rattle.vaultctl_work.specs.Scene.{scene}
use Rattle.vaultctl_perform.proofs.replay.answer_all.Goals as goal

pub returns : goal.returns
returns g c =
    let input = g.R.Read.remaining c.args.reader.now in
    let before = g.W.Write.contents c.args.out.now in
    let last = c.replay_observed.new.keeper in
    let new = scene last (g.R.Read.remaining c.replay_observed.new.reader) (g.W.Write.contents c.replay_observed.new.writer) in
    let answered = c.replay_observed.ensures in
    let P : Vault → Type 0 = λ v. IsScriptAnswered 0 0 (replayed c.replay_observed.result) (scene v input before) new in
    inl (
      last,
      subst P c.in-Ok.ensures
          (answered_by (Sound last) (subst Sound c.keeper.view_is c.keeper.invariant) (scene _ input before) new 0 0 c.replay_observed.result answered.ok answered.err answered.read),
    )

-- memory for the vault was refused
pub returns-in_default : goal.returns-in_default
returns-in_default g c = inr (refl, refl, refl)
