-- The ends of a transaction.
use Rattle.std.proofs.Common.{◌≡◌, ℕ, Bool, List, inl, inr, true, false, Ok, Err, Result, IsTrue, OnOk, OnErr, IfErr, sym, ap, subst, ◌∙◌}
use Rattle.sqlite_trees.specs.declared.store.Store.{Ghosts}
use Rattle.sqlite_trees.specs.Tree.{Trees}
use Rattle.sqlite.specs.declared.error.Error.{Error}
use Rattle.sqlite.specs.Effect.{Database, IsDatabase}
use Rattle.sqlite_value.specs.Order.{Row}
use Rattle.sqlite.specs.Held.{Held, state}
use Rattle.sqlite.specs.State.{State, IsRolledBack, KeepsCommit, Shows, IsUnchanged, IsNotRun, IsLive}
use Rattle.sqlite.specs.Steps.{FailsToCommit}
use Rattle.vault_core_model.specs.Vault.{Vault}
use Rattle.vault_audit_model.specs.Spells.{AreSound}
use Rattle.vault_audit_model.specs.Tables.{vault_schema}
use Rattle.vault_audit_model.proofs.OutcomeLemmas.{kept_unchanged, kept_undone}
use Rattle.vault_store_model.specs.Edits.{Edits}
use Rattle.vault_store_model.specs.Keeping.{Keeps}
use Rattle.vault_store_model.specs.Rows.{Rows, AreSameRows, rows_in}
use Rattle.vault_store_edits.specs.Commits.{Commits, MayCommit}
use Rattle.vault_store_edits.specs.Ready.{IsReady}

committed_keeps : (last end : State) (e : Error) → IsTrue last.in_transaction → FailsToCommit last end e → IsRolledBack last end
committed_keeps last end e inside (inl fails) = fails.3
committed_keeps last end e inside (inr (_, ended, _)) = absurd (let both = sym inside ∙ ended in cc)

-- a statement that isn't understood, or a failure, commits nothing
pub kept_refused : (old new : State) (sql : List ℕ) (params : Row) (e : Error) → IsNotRun old new sql params e → KeepsCommit old new
unfolding IsNotRun
kept_refused old new sql params e (inl it) = kept_unchanged old new it.1
kept_refused old new sql params e (inr it) = kept_undone old new it.3

-- a part that is made where nothing had been changed
pub ready_there : (external : Bool) (old mid : State) → IsUnchanged old mid → IsLive old → old.now.schema ≡ vault_schema external → IsReady external mid
ready_there external old mid same live has = record {
  is_open = same.0.is_open;
  schema = ap (λ (d : Database). d.schema) same.0.now_is ∙ has;
  sound = subst IsDatabase (sym same.0.now_is) (live same.0.was_open).0;
}

pub edits_there : (external : Bool) (old mid new : State) (edit : Rows → Rows) → IsUnchanged old mid → Edits external mid new edit → Edits external old new edit
edits_there external old mid new edit same e = record {
  was_open = same.0.was_open;
  is_open = e.is_open;
  inside = e.inside;
  committed = e.committed ∙ same.0.committed_is;
  schema = λ has. e.schema (ap (λ (d : Database). d.schema) same.0.now_is ∙ has);
  rows = λ has. subst (λ db. AreSameRows (edit (rows_in external db)) (rows_in external new.now)) same.0.now_is (e.rows (ap (λ (d : Database). d.schema) same.0.now_is ∙ has));
  ignores = e.ignores;
}

pub kept_there : (old mid new : State) → IsUnchanged old mid → KeepsCommit mid new → KeepsCommit old new
kept_there old mid new same kept = record { was_open = λ _. same.0.was_open; committed = λ is_open. kept.committed is_open ∙ same.0.committed_is }

module _ {S : Type 0} (g : Ghosts S) (old : Held S) where
  abbrev pub begun : State
  begun = state g (record old { in_transaction = true })

  pub undone_keeps : (mid last : State) → KeepsCommit begun mid → IsRolledBack mid last → (v : Vault) → Keeps (state g old) v → Keeps last v
  undone_keeps mid last kept undone v was is_open =
      let mid_open = undone.was_open is_open in
      let first = kept.was_open mid_open in
      let keeps = was first in
      let now : last.now ≡ (state g old).committed = (undone.undone is_open).0 ∙ kept.committed mid_open in
      let committed : last.committed ≡ last.now = (undone.undone is_open).1 ∙ sym (undone.undone is_open).0 in
      (subst (λ db. AreSound db v) (sym (now ∙ keeps.1)) keeps.0, committed)

  -- the parts, and then the commit
  module _ (external : Bool) (last : State) (edit : Rows → Rows) (parts : Edits external begun last edit) (sound : IsDatabase last.now) where
    pub commit_keeps : (end : State) → Shows last end last.now last.now false → Commits external (state g old) end edit
    commit_keeps end done = record {
      was_open = parts.was_open;
      is_open = done.is_open;
      committed = done.committed_is ∙ sym done.now_is;
      schema = λ has. ap (λ (d : Database). d.schema) done.now_is ∙ parts.schema has;
      listed = λ has. subst IsDatabase (sym done.now_is) sound;
      rows = λ has. subst (λ db. AreSameRows (edit (rows_in external (state g old).now)) (rows_in external db)) (sym done.now_is) (parts.rows has);
      ignores = parts.ignores;
    }

    pub commit_leaves : (trees : Trees) → trees ≡ last.now.trees → MayCommit external (state g old) edit trees
    commit_leaves trees same = record {
      was_open = parts.was_open;
      listed = λ has. rw same (subst (λ s. IsDatabase (record { schema = s; trees = last.now.trees })) (parts.schema has) sound);
      rows = λ has. rw same (subst (λ s. AreSameRows (edit (rows_in external (state g old).now)) (rows_in external (record { schema = s; trees = last.now.trees }))) (parts.schema has) (parts.rows has));
      ignores = parts.ignores;
    }

    pub refused_keeps : (end : State) (e : Error) → FailsToCommit last end e → (v : Vault) → Keeps (state g old) v → Keeps end v
    refused_keeps end e failed v was =
        undone_keeps last end (record { was_open = λ _. parts.was_open; committed = λ _. parts.committed }) (committed_keeps last end e parts.inside failed) v was

pub on_err_then : {A E : Type 0} {P : E → Type 0} {Q : Type 0} (r : Result A E) → IfErr r P → ((e : E) → P e → Q) → OnErr r Q
on_err_then (Ok a) p f = tt
on_err_then (Err e) p f = f e p

pub on_ok_given : {X A E R : Type 0} (P Q : X → Type 0) (r : Result A E) → R → ((x : X) → P x → OnOk r (Q x)) → OnOk r (R × ((x : X) → P x → Q x))
on_ok_given P Q (Ok a) h f = (h, f)
on_ok_given P Q (Err e) h f = tt

pub on_err_all : {A E : Type 0} {P Q : Type 0} (r : Result A E) → OnErr r P → (P → Q) → OnErr r Q
on_err_all (Ok a) p f = tt
on_err_all (Err e) p f = f p

pub on_ok_here : {A E : Type 0} {P : Type 0} (r : Result A E) → P → OnOk r P
on_ok_here (Ok a) p = p
on_ok_here (Err e) p = tt

pub on_err_here : {A E : Type 0} {P : Type 0} (r : Result A E) → P → OnErr r P
on_err_here (Ok a) p = tt
on_err_here (Err e) p = p

pub on_err_given : {A E : Type 0} {P : Type 0} (Q : Type 0) (r : Result A E) → (P → OnErr r Q) → OnErr r (P → Q)
on_err_given Q (Ok a) f = tt
on_err_given Q (Err e) f = f

-- what fails after an edit commits nothing either
pub kept_after : (external : Bool) (old mid new : State) (edit : Rows → Rows) → Edits external old mid edit → KeepsCommit mid new → KeepsCommit old new
kept_after external old mid new edit e kept = record { was_open = λ _. e.was_open; committed = λ is_open. kept.committed is_open ∙ e.committed }
