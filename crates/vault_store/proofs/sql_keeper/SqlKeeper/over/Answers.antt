use Rattle.std.proofs.Common.{sym, ap, subst, ◌∙◌}
use Rattle.sqlite.specs.Held.{state}
use Rattle.vault_audit_model.specs.Spells.{AreSound}
use Rattle.vault_store.specs.Kept.{after, kept_vault}
use Rattle.vault_store.specs.Opening.{noted_vault}
use Rattle.vault_store.proofs.KeptLemmas.{kept_alone}
use Rattle.vault_store.proofs.sql_keeper.SqlKeeper.over.Goals as goal

pub invariant_of-result : goal.invariant_of-result
invariant_of-result g c = record {
  settled = c.requires.settled;
  sure = λ _ clean. (c.requires.sound clean).is_open;
  knows = ∣ (λ clean. c.new.ensures (kept_vault g.S.Store c.remember-opening.result.at.items c.remember-opening.result.known c.new-made.result.items)) ∣₁;
  kept = ∣ (λ clean.
      let it = c.requires.sound clean in
      let same = ap (after (noted_vault g.S.Store c.remember-opening.result.at.items c.remember-opening.result.known)) c.new-made.ensures ∙ c.remember-opening.ensures clean it.sound.0 it.sound.1 in
      kept_alone _ it.sound.0 _ _ same c.new-refused.ensures
      record { sound = it.sound.1.spells.kept.sound; keeps = λ is_open. (it.sound.1, it.committed); left = c.requires.alone clean it.sound.0 it.sound.1 }) ∣₁;
}

pub returns-clause-keeps : goal.returns-clause-keeps
returns-clause-keeps g c clean =
    let it = c.requires.sound clean in
    let same = ap (after (noted_vault g.S.Store c.remember-opening.result.at.items c.remember-opening.result.known)) c.new-made.ensures ∙ c.remember-opening.ensures clean it.sound.0 it.sound.1 in
    subst (AreSound (state g.S.Store c.args.conn).now) (sym same) it.sound.1
