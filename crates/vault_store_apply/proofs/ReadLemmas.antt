-- Reads one after the other, each of which is known to have left the connection open.
use Rattle.std.proofs.Common.{◌≡◌, inl, inr, ℕ, List, Option, Some, Result, Ok, Err, false, IsTrue, IfOk, sym, subst, ◌∙◌, arith}
use Rattle.std.specs.Result.{result_ok}
use Rattle.sqlite_value.specs.Order.{Row}
use Rattle.sqlite.specs.declared.error.Error.{Error}
use Rattle.sqlite_trees.specs.declared.store.Store.{Ghosts}
use Rattle.sqlite.specs.Held.{Held, state}
use Rattle.sqlite.specs.State.{State, HasCleanDisk, IsUnchanged, IsRolledBack, IsNotRun, Survives}
use Rattle.sqlite.proofs.StateLemmas.{survives_then, clean_if_open}
use Rattle.vault_core_model.specs.Vault.{Vault}
use Rattle.vault_audit_model.specs.Spells.{AreSound}
use Rattle.vault_store_model.specs.Keeping.{Keeps}
use Rattle.vault_store_reads.specs.Quiet.{OnlyReads}

pub unchanged_keeps : (old new : State) (v : Vault) → IsUnchanged old new → Keeps old v → Keeps new v
unchanged_keeps old new v same was is_open =
    let keeps = was same.0.was_open in
    (subst (λ db. AreSound db v) (sym same.0.now_is) keeps.0, same.0.committed_is ∙ keeps.1 ∙ sym same.0.now_is)

undone_keeps : (old new : State) (v : Vault) → IsRolledBack old new → Keeps old v → Keeps new v
undone_keeps old new v undone was is_open =
    let keeps = was (undone.was_open is_open) in
    let both = undone.undone is_open in
    (subst (λ db. AreSound db v) (sym (both.0 ∙ keeps.1)) keeps.0, both.1 ∙ sym both.0)

-- a statement that isn't understood, or a failure, changes nothing of what was committed
pub refused_keeps : (old new : State) (sql : List ℕ) (params : Row) (e : Error) (v : Vault) → IsNotRun old new sql params e → Keeps old v → Keeps new v
unfolding IsNotRun
refused_keeps old new sql params e v (inl it) = unchanged_keeps old new v it.1
refused_keeps old new sql params e v (inr it) = undone_keeps old new v it.3

-- so does one in a read after another that leaves an open connection open
pub read_after : (a b c : State) → (HasCleanDisk b → IsTrue a.is_open → IsTrue b.is_open) → Survives a b (λ _. ¬ IsTrue a.is_open) → Survives b c (λ _. ¬ IsTrue b.is_open) → Survives a c (λ _. ¬ IsTrue a.is_open)
read_after a b c stays one two =
    survives_then a b c _ _ _ (λ _ db shut. shut)
    (λ clean db shut is_open. let mid : HasCleanDisk b = omega (arith, clean, two.clean) in shut (stays mid is_open)) one two

-- a connection that is not clean is shut, and so keeps what one that is clean keeps
pub keeps_now : {S : Type 0} (g : Ghosts S) (h : Held S) (v : Vault) → ((g.view h.store).is_clean ≡ false → (g.view h.store).is_open ≡ false) → (HasCleanDisk (state g h) → Keeps (state g h) v) → Keeps (state g h) v
keeps_now g h v shut keeps is_open = keeps (clean_if_open (g.view h.store) shut is_open) is_open

-- one read after another, which left an open connection open
pub reads_then : {S : Type 0} {g : Ghosts S} {old mid new : Held S} → ((g.view mid.store).is_clean ≡ false → (g.view mid.store).is_open ≡ false) → (HasCleanDisk (state g mid) → IsTrue (state g old).is_open → IsTrue (state g mid).is_open)
    → OnlyReads g old mid → OnlyReads g mid new → OnlyReads g old new
reads_then {S} {g} {old} {mid} {new} shut stays one two = record {
  same = λ clean v was. two.same clean v (one.same (two.honest clean) v was);
  honest = λ clean. one.honest (two.honest clean);
  mode = λ alone. two.mode (one.mode alone);
  crash = λ v was. read_after (state g old) (state g mid) (state g new) stays (one.crash v was) (two.crash v (keeps_now g mid v shut (λ clean. one.same clean v was)));
}

-- what was said of a record that may be there, of the one that is
pub if_there : {A E : Type 0} (P : Option A → Type 0) (o : Option A) (r : Result A E) → o ≡ result_ok r → P o → IfOk r (λ x. P (Some x))
if_there P o (Ok x) same p = subst P same p
if_there P o (Err e) same p = tt
