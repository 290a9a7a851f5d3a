-- What a statement that changes or deletes rows leaves, after a look that found them apart.
use Rattle.std.proofs.Common.{◌≡◌, ℕ, List, Bool, Result, Ok, Err, IsTrue, OnOk, OnErr, sym, subst, arith, ◌∙◌}
use Rattle.sqlite_value.specs.Order.{Row}
use Rattle.sqlite_trees.specs.declared.store.Store.{Ghosts}
use Rattle.sqlite_sql.specs.Term.{Term}
use Rattle.sqlite.specs.declared.error.Error.{Error}
use Rattle.sqlite.specs.Effect.{Database, IsDatabase}
use Rattle.sqlite.specs.Held.{Held, state}
use Rattle.sqlite.specs.State.{State, Executes, ExecutesInside, HasCleanDisk, IsUnchanged, KeepsCommit, Survives}
use Rattle.vault_base.specs.declared.refusal.Table.{Table}
use Rattle.vault_audit_model.specs.Tables.{vault_schema}
use Rattle.vault_audit_model.proofs.OutcomeLemmas.{kept_if_refused}
use Rattle.vault_store_model.specs.Rows.{Rows, AreSameRows, rows_in}
use Rattle.vault_store_model.specs.Edits.{with_changed, without, IgnoresOrder, Edits}
use Rattle.vault_store_model.specs.Scans.{passes}
use Rattle.vault_store_model.proofs.EditLemmas.{with_changed_ignores, without_ignores}
use Rattle.vault_store_edits.specs.UniqueRowids.{HaveUniqueRowids}
use Rattle.vault_store_edits.specs.Inside.{IsEdit, IsEditOfSound}
use Rattle.vault_store_edits.specs.Trees.{tree_of}
use Rattle.vault_store_edits.proofs.QueryLemmas.{survives_more}
use Rattle.vault_store_edits.proofs.StatementLemmas.{Leaves, kept_then}
use Rattle.vault_store_edits.proofs.TransactionLemmas.{on_err_all}

edits_after : (external : Bool) (text : List ℕ) (params : Row) (old mid new : State) (edit : Rows → Rows) (r : Result ℕ Error) → IgnoresOrder edit → KeepsCommit old mid
    → ((count : ℕ) → old.now.schema ≡ vault_schema external → Executes text params mid new (Ok count) → Leaves external old new edit) → ExecutesInside 0 text params mid new r → OnOk r (Edits external old new edit)
edits_after external text params old mid new edit (Err e) ignores kept does h = tt
edits_after external text params old mid new edit (Ok count) ignores kept does (h, shown, _) = record {
  was_open = kept.was_open shown.was_open;
  is_open = shown.is_open;
  inside = shown.mode;
  committed = shown.committed_is ∙ kept.committed shown.was_open;
  schema = λ has. (does count has h).schema;
  rows = λ has. (does count has h).rows;
  ignores = ignores;
}

sound_after : (text : List ℕ) (params : Row) (mid new : State) (r : Result ℕ Error) → ((count : ℕ) → Executes text params mid new (Ok count) → IsDatabase new.now) → ExecutesInside 0 text params mid new r → OnOk r (IsDatabase new.now)
sound_after text params mid new (Err e) does h = tt
sound_after text params mid new (Ok count) does (h, _, _) = does count h

module _ {S : Type 0} (g : Ghosts S) (old mid new : Held S) (t : Table) (tests : List Term) (params : Row) (text : List ℕ) (r : Result ℕ Error)
    -- the look
    (unique : (external : Bool) → HasCleanDisk (state g mid) → (state g old).now.schema ≡ vault_schema external → IsUnchanged (state g old) (state g mid) × HaveUniqueRowids (passes tests params) ((state g old).now.trees (tree_of t)))
    (kept : HasCleanDisk (state g mid) → IsTrue old.in_transaction → KeepsCommit (state g old) (state g mid))
    (inside : HasCleanDisk (state g mid) → IsTrue old.in_transaction → IsTrue mid.in_transaction)
    (first : Survives (state g old) (state g mid) (λ _. ⊥))
    -- the statement
    (runs : HasCleanDisk (state g new) → IsTrue mid.in_transaction → ExecutesInside 0 text params (state g mid) (state g new) r)
    (then : Survives (state g mid) (state g new) (λ _. ⊥)) where
  early : HasCleanDisk (state g new) → HasCleanDisk (state g mid)
  early clean = omega (arith, clean, then.clean)

  ran : HasCleanDisk (state g new) → IsTrue old.in_transaction → ExecutesInside 0 text params (state g mid) (state g new) r
  ran clean was = runs clean (inside (early clean) was)

  keeps : HasCleanDisk (state g new) → IsTrue old.in_transaction → OnErr r (KeepsCommit (state g old) (state g new))
  keeps clean was = on_err_all r (kept_if_refused text params (state g mid) (state g new) r (ran clean was)) (kept_then (state g old) (state g mid) (state g new) (kept (early clean) was))

  survives : Survives (state g old) (state g new) (λ _. ⊥)
  survives = survives_more (state g old) (state g mid) (state g new) first then

  -- what it does to the tables after the look, it does to those before it
  leaves : (external : Bool) (edit : Rows → Rows) → HasCleanDisk (state g new) → (state g old).now.schema ≡ vault_schema external
      → (HaveUniqueRowids (passes tests params) ((state g mid).now.trees (tree_of t)) → (state g mid).now.schema ≡ vault_schema external → Leaves external (state g mid) (state g new) edit) → Leaves external (state g old) (state g new) edit
  leaves external edit clean has does =
      let look = unique external (early clean) has in
      let same : (state g mid).now ≡ (state g old).now = look.0.0.now_is in
      let it = does (subst (λ (db : Database). HaveUniqueRowids (passes tests params) (db.trees (tree_of t))) (sym same) look.1) (subst (λ (db : Database). db.schema ≡ vault_schema external) (sym same) has) in
      record { schema = it.schema; rows = subst (λ db. AreSameRows (edit (rows_in external db)) (rows_in external (state g new).now)) same it.rows; sound = it.sound }

  pub deletes_by_rowid : (test : Row → Bool)
      → ((external : Bool) (count : ℕ) → HaveUniqueRowids (passes tests params) ((state g mid).now.trees (tree_of t)) → (state g mid).now.schema ≡ vault_schema external → Executes text params (state g mid) (state g new) (Ok count) → Leaves external (state g mid) (state g new) (without t test))
      → IsEdit g old new r (without t test)
  deletes_by_rowid test does =
      let left = λ (external : Bool) (clean : HasCleanDisk (state g new)) (has : (state g old).now.schema ≡ vault_schema external) (count : ℕ) (h : Executes text params (state g mid) (state g new) (Ok count)).
      leaves external (without t test) clean has (λ alone known. does external count alone known h) in
      record {
        edits = λ external clean was. edits_after external text params (state g old) (state g mid) (state g new) (without t test) r (without_ignores t test) (kept (early clean) was) (λ count has h. left external clean has count h) (ran clean was);
        sound = λ external clean was has. sound_after text params (state g mid) (state g new) r (λ count h. (left external clean has count h).sound) (ran clean was);
        kept = keeps;
        survives = survives;
      }

  pub updates_by_rowid : (test : Row → Bool) (change : Row → Row)
      → ((external : Bool) (count : ℕ) → HaveUniqueRowids (passes tests params) ((state g mid).now.trees (tree_of t)) → IsDatabase (state g mid).now → (state g mid).now.schema ≡ vault_schema external → Executes text params (state g mid) (state g new) (Ok count) → Leaves external (state g mid) (state g new) (with_changed t test change))
      → IsEditOfSound g old new r (with_changed t test change)
  updates_by_rowid test change does =
      let left = λ (external : Bool) (clean : HasCleanDisk (state g new)) (live : IsDatabase (state g old).now) (has : (state g old).now.schema ≡ vault_schema external) (count : ℕ) (h : Executes text params (state g mid) (state g new) (Ok count)).
      leaves external (with_changed t test change) clean has (λ alone known. does external count alone (subst IsDatabase (sym (unique external (early clean) has).0.0.now_is) live) known h) in
      record {
        edits = λ external clean was live. edits_after external text params (state g old) (state g mid) (state g new) (with_changed t test change) r (with_changed_ignores t test change) (kept (early clean) was) (λ count has h. left external clean live has count h) (ran clean was);
        sound = λ external clean was live has. sound_after text params (state g mid) (state g new) r (λ count h. (left external clean live has count h).sound) (ran clean was);
        kept = keeps;
        survives = survives;
      }
