use Rattle.std.proofs.Common.{sym, subst, inr}
use Rattle.std.proofs.Math.Logic.{∥∥₁_elim, ∥∥₁_map}
use Rattle.std.specs.Prelude.{◌≡◌}
use Rattle.sqlite_trees.specs.declared.store.Store.{Ghosts}
use Rattle.sqlite.specs.Effect.{Database}
use Rattle.sqlite.specs.Held.{Held, state}
use Rattle.sqlite.specs.State.{HasCleanDisk}
use Rattle.vault_core_model.specs.Step.{IsRun}
use Rattle.vault_core_model.specs.Vault.{Vault}
use Rattle.vault_audit_laws.proofs.Uniqueness.{same_vault}
use Rattle.vault_audit_model.specs.Spells.{AreSound}
use Rattle.vault_store.specs.declared.sql_keeper.SqlKeeper.{SqlKeeper}
use Rattle.vault_store.specs.Kept.{StandsFor}
use Rattle.vault_store_apply.specs.Left.{LeavesAlone}
use Rattle.vault_store.specs.VaultOf.{vault_of}
use Rattle.vault_store.proofs.in_tables.run_in_tables.Goals as goal

pub returns-in-Ok-run-clause-run : goal.returns-in-Ok-run-clause-run
returns-in-Ok-run-clause-run g c clean v is =
    let last = c.run.new.keeper in
    let after = subst (λ h. HasCleanDisk (state g.S.Store h)) c.into_connection.ensures.same clean in
    let before = c.run.ensures.leaves.honest after in
    let there = c.in-Ok.ensures.sound before in
    let here = subst (λ db. AreSound db v) (sym (c.in-Ok.ensures.same before).0.now_is) is in
    let same = same_vault _ _ v there.spells here.spells in
    let w = vault_of g.S.Store last in
    ∥∥₁_elim c.into_connection.ensures.stands squash₁ (λ stands.
    ∥∥₁_elim c.into_connection.ensures.alone squash₁ (λ alone.
    ∥∥₁_map c.into_connection.ensures.crash (λ crash.
    record {
      keeper = last;
      same = c.into_connection.ensures.same;
      run = subst (λ u. IsRun u c.args.commands.now c.in-Ok-run.replies.items w) same (c.in-Ok-run.ensures.run after);
      stands = stands clean;
      alone = alone clean;
      crash = crash clean;
    })))

-- what was sound before an opening that changed nothing
sound-before : (a b : Database) (v : Vault) → a ≡ b → AreSound a v → AreSound b v
sound-before a b v same is = subst (λ db. AreSound db v) same is

pub returns-in-Ok-run-clause-sound : goal.returns-in-Ok-run-clause-sound
returns-in-Ok-run-clause-sound g c clean =
    let after = subst (λ h. HasCleanDisk (state g.S.Store h)) c.into_connection.ensures.same clean in
    let before = c.run.ensures.leaves.honest after in
    (_, sound-before _ _ _ (c.in-Ok.ensures.same before).0.now_is (c.in-Ok.ensures.sound before))

-- a crash leaves the same of what is the same
same-left : {S : Type 0} (g : Ghosts S) (a b : Held S) (v : Vault) → a ≡ b → LeavesAlone (state g b) v → LeavesAlone (state g a) v
same-left g a b v same alone = subst (λ h. LeavesAlone (state g h) v) (sym same) alone

same-keeper : {S : Type 0} (g : Ghosts S) (k l : SqlKeeper S g) (v : Vault) → k ≡ l → LeavesAlone (state g l.conn) v → LeavesAlone (state g k.conn) v
same-keeper {S} g k l v same alone = subst (λ (m : SqlKeeper S g). LeavesAlone (state g m.conn) v) (sym same) alone

pub returns-in-Err-run-clause-refused : goal.returns-in-Err-run-clause-refused
returns-in-Err-run-clause-refused g c clean =
    let after = subst (λ h. HasCleanDisk (state g.S.Store h)) c.into_connection-in-Err-run.ensures.same clean in
    let before = c.run.ensures.leaves.honest after in
    ∥∥₁_map c.into_connection-in-Err-run.ensures.stands (λ stands.
    inr (
      _,
      sound-before _ _ _ (c.in-Ok.ensures.same before).0.now_is (c.in-Ok.ensures.sound before),
      subst (λ u. StandsFor (state g.S.Store c.into_connection-in-Err-run.result) u) c.in-Err-run.ensures.err (stands clean),
      same-left g.S.Store _ _ _ c.into_connection-in-Err-run.ensures.same (same-keeper g.S.Store _ _ _ c.in-Err-run.ensures.untouched (c.in-Ok.ensures.alone before)),
    ))
