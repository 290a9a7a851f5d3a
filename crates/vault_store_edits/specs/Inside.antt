-- What statements inside a transaction make of the tables of a vault, whether or not it registers contents that are kept outside, and what is left where one fails.
use Rattle.std.specs.Prelude.{◌≡◌, Bool, Result, OnOk, OnErr, IsTrue}
use Rattle.sqlite_trees.specs.declared.store.Store.{Ghosts}
use Rattle.sqlite.specs.Effect.{IsDatabase}
use Rattle.sqlite.specs.Held.{Held, state}
use Rattle.sqlite.specs.State.{HasCleanDisk, KeepsCommit, Survives}
use Rattle.vault_audit_model.specs.Tables.{vault_schema}
use Rattle.vault_store_model.specs.Rows.{Rows}
use Rattle.vault_store_model.specs.Edits.{Edits}
use Rattle.vault_store_edits.specs.Ready.{IsReady}

-- where it is answered, the tables are edited so
abbrev pub EditsInside : {S A E : Type 0} → Ghosts S → Held S → Held S → Result A E → (Rows → Rows) → Type 0
EditsInside g old new result edit = (external : Bool) → HasCleanDisk (state g new) → IsTrue old.in_transaction → OnOk result (Edits external (state g old) (state g new) edit)

-- the same of tables that obey their schema
abbrev pub EditsSoundInside : {S A E : Type 0} → Ghosts S → Held S → Held S → Result A E → (Rows → Rows) → Type 0
EditsSoundInside g old new result edit =
    (external : Bool) → HasCleanDisk (state g new) → IsTrue old.in_transaction → IsDatabase (state g old).now → OnOk result (Edits external (state g old) (state g new) edit)

-- where it is answered, the tables of a vault obey their schema
abbrev pub IsSoundInside : {S A E : Type 0} → Ghosts S → Held S → Held S → Result A E → Type 0
IsSoundInside g old new result =
    (external : Bool) → HasCleanDisk (state g new) → IsTrue old.in_transaction → (state g old).now.schema ≡ vault_schema external → OnOk result (IsDatabase (state g new).now)

-- the same of tables that obeyed it before
abbrev pub StaysSoundInside : {S A E : Type 0} → Ghosts S → Held S → Held S → Result A E → Type 0
StaysSoundInside g old new result =
    (external : Bool) → HasCleanDisk (state g new) → IsTrue old.in_transaction → IsDatabase (state g old).now → (state g old).now.schema ≡ vault_schema external → OnOk result (IsDatabase (state g new).now)

-- where it fails, nothing was committed
abbrev pub CommitsNothing : {S A E : Type 0} → Ghosts S → Held S → Held S → Result A E → Type 0
CommitsNothing g old new result = HasCleanDisk (state g new) → IsTrue old.in_transaction → OnErr result (KeepsCommit (state g old) (state g new))

-- several statements over the tables of a vault: where they are answered the tables are edited so, and are ready for more
abbrev pub EditsReady : {S A E : Type 0} → Ghosts S → Held S → Held S → Result A E → (Rows → Rows) → Type 0
EditsReady g old new result edit =
    (external : Bool) → HasCleanDisk (state g new) → IsTrue old.in_transaction → IsReady external (state g old) → OnOk result (Edits external (state g old) (state g new) edit × IsReady external (state g new))

-- where one of them fails, nothing was committed
abbrev pub CommitsNoPart : {S A E : Type 0} → Ghosts S → Held S → Held S → Result A E → Type 0
CommitsNoPart g old new result = (external : Bool) → HasCleanDisk (state g new) → IsTrue old.in_transaction → IsReady external (state g old) → OnErr result (KeepsCommit (state g old) (state g new))

-- a statement that puts rows in or deletes some: the edit that it makes, and that nothing is committed by it or by a crash in it
pub record IsEdit {S A E : Type 0} (g : Ghosts S) (old new : Held S) (result : Result A E) (edit : Rows → Rows) : Type 0 where
  pub edits : EditsInside g old new result edit
  pub sound : IsSoundInside g old new result
  pub kept : CommitsNothing g old new result
  pub survives : Survives (state g old) (state g new) (λ _. ⊥)

-- the same of one that changes rows, in tables that obey their schema
pub record IsEditOfSound {S A E : Type 0} (g : Ghosts S) (old new : Held S) (result : Result A E) (edit : Rows → Rows) : Type 0 where
  pub edits : EditsSoundInside g old new result edit
  pub sound : StaysSoundInside g old new result
  pub kept : CommitsNothing g old new result
  pub survives : Survives (state g old) (state g new) (λ _. ⊥)

-- several statements over the tables of a vault: the edit that they make, and that nothing is committed by one that fails, or by a crash
pub record MakesPart {S A E : Type 0} (g : Ghosts S) (old new : Held S) (result : Result A E) (edit : Rows → Rows) : Type 0 where
  pub edits : EditsReady g old new result edit
  pub kept : CommitsNoPart g old new result
  pub survives : Survives (state g old) (state g new) (λ _. ⊥)
