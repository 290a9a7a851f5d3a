-- A committed edit that is the edit of a change makes that change.
use Rattle.std.proofs.Common.{◌≡◌, ℕ, Bool, IsTrue, IsPermutation, Result, Ok, Err, OnOk, sym, subst, refl}
use Rattle.sqlite_trees.specs.Tree.{Trees}
use Rattle.sqlite.specs.Effect.{Database, IsDatabase}
use Rattle.sqlite.specs.State.{State, Survives}
use Rattle.sqlite.proofs.StateLemmas.{survives_weaker}
use Rattle.vault_core_model.specs.Vault.{Vault}
use Rattle.vault_core_model.specs.declared.change.Change.{Change}
use Rattle.vault_core_model.specs.Change.{changed}
use Rattle.vault_audit_model.specs.Tables.{vault_schema}
use Rattle.vault_store_model.specs.Rows.{Rows, AreSameRows, rows_in}
use Rattle.vault_audit_model.specs.Spells.{AreSound}
use Rattle.vault_store_model.proofs.RowsLemmas.{sound_is_rows}
use Rattle.vault_store_model.specs.Changes.{edit_of}
use Rattle.vault_store_model.proofs.ChangeLemmas.{rows_stated}
use Rattle.vault_store_edits.specs.Commits.{Commits, MayCommit}
use Rattle.vault_store_apply.specs.Left.{IsFoundIn}
use Rattle.vault_store_apply.specs.Applies.{IsEditOf, ChangesBy, AreChangedBy, IsChanged}

-- the edit makes of the rows what the change makes of them
edited : (from : Rows) (to : Rows) (edit : Rows → Rows) (v : Vault) (t : ℕ) (c : Change) → IsEditOf edit v t c → AreSameRows (edit from) to → AreSameRows (edit_of v t c from) to
edited from to edit v t c is rows u = subst (λ l. IsPermutation l (to u)) (is from u) (rows u)

-- the vault of sound tables is found again in their trees
pub found_again : (db : Database) (v : Vault) (trees : Trees) → db.schema ≡ vault_schema v.external → AreSound db v → IsDatabase db → trees ≡ db.trees → IsFoundIn v trees
found_again db v trees schema sound listed same = subst (IsFoundIn v) (sym same) (record {
  spelled = subst (λ s. AreSound (record { schema = s; trees = db.trees }) v) schema sound;
  listed = subst (λ s. IsDatabase (record { schema = s; trees = db.trees })) schema listed;
})

pub commits_change : (old new : State) (t : ℕ) (edit : Rows → Rows) → IsTrue old.is_open → ((external : Bool) → old.now.schema ≡ vault_schema external → Commits external old new edit)
    → ((trees : Trees) → new.may_leave trees → trees ≡ new.now.trees) → ChangesBy old new t edit
commits_change old new t edit was_open commits alone v c low given was later allowed is =
    let kept = was was_open in
    let schema = kept.0.spells.schema in
    let did = commits v.external schema in
    let has = (sound_is_rows old.now v).0 kept.0 in
    let stated = rows_stated old.now new.now v t c has later low allowed given (did.schema schema) (edited (rows_in v.external old.now) (rows_in v.external new.now) edit v t c (is was_open) (did.rows schema)) in
    let sound = (sound_is_rows new.now (changed v t c)).1 stated in
    (λ is_open. (sound, did.committed), λ trees may. found_again new.now (changed v t c) trees stated.schema sound (did.listed schema) (alone trees may))

pub may_commit_change : (old : State) (t : ℕ) (edit : Rows → Rows) (trees : Trees) → IsTrue old.is_open → ((external : Bool) → old.now.schema ≡ vault_schema external → MayCommit external old edit trees) → AreChangedBy old t edit trees
may_commit_change old t edit trees was_open commits v c low given was later allowed is =
    let kept = was was_open in
    let schema = kept.0.spells.schema in
    let did = commits v.external schema in
    let has = (sound_is_rows old.now v).0 kept.0 in
    let db : Database = record { schema = vault_schema v.external; trees = trees } in
    let stated = rows_stated old.now db v t c has later low allowed given refl (edited (rows_in v.external old.now) (rows_in v.external db) edit v t c (is was_open) (did.rows schema)) in
    found_again db (changed v t c) trees stated.schema ((sound_is_rows db (changed v t c)).1 stated) (did.listed schema) refl

pub on_ok_all : {A E : Type 0} {P Q R T : Type 0} (U : Type 0) (r : Result A E) → OnOk r P → OnOk r Q → OnOk r R → OnOk r T → (P → Q → R → T → U) → OnOk r U
on_ok_all U (Ok a) p q s t f = f p q s t
on_ok_all U (Err e) p q s t f = tt

pub on_ok_then : {A E : Type 0} {P : Type 0} (R : Type 0) (r : Result A E) → OnOk r P → (P → R) → OnOk r R
on_ok_then R (Ok a) p f = f p
on_ok_then R (Err e) p f = tt

-- where a read alone has been done, an open connection leaves what it could leave before
pub shut_leaves : (old new : State) (v : Vault) (t : ℕ) (c : Change) → Survives old new (λ _. ¬ IsTrue old.is_open) → Survives old new (IsChanged old v t c)
shut_leaves old new v t c was = survives_weaker old new _ (IsChanged old v t c) (λ _ trees shut is_open. absurd (shut is_open)) was
