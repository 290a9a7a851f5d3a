use Rattle.std.proofs.Common.{IsTrue, subst}
use Rattle.sqlite.specs.Held.{state}
use Rattle.sqlite.specs.State.{HasCleanDisk}
use Rattle.vault_store.specs.VaultOf.{vault_of}
use Rattle.vault_store_apply.specs.Left.{LeavesAlone}
use Rattle.vaultctl_machine.proofs.crashes.store_of.Goals as goal

pub returns-clause-alone : goal.returns-clause-alone
returns-clause-alone g c =
    let v = vault_of g.S.Store c.args.vault in
    subst (λ h. ∥ (HasCleanDisk (state g.S.Store h) → IsTrue (state g.S.Store h).is_open → LeavesAlone (state g.S.Store h) v) ∥₁) c.into_connection.ensures.same c.into_connection.ensures.alone
