use Rattle.std.proofs.Common.{refl, subst, sym}
use Rattle.vault_core_model.specs.Sound.{Sound}
use Rattle.vault_core_laws.proofs.Soundness.{Sound-changed-to}
use Rattle.vault_core_list.proofs.list_keeper.ListKeeperKeeper.apply.Goals as goal

pub invariant_of-self-2 : goal.invariant_of-self-2
invariant_of-self-2 c =
    let sound = subst Sound c.self.view_is c.self.invariant in
    subst Sound (sym c.in_ok-make.ensures.ok) (Sound-changed-to _ _ _ _ _ c.self.view_is refl c.self.invariant (c.requires.in_time sound) (c.requires.allowed sound))
