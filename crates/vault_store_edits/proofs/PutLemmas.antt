-- What a statement that puts one row in leaves.
use Rattle.std.proofs.Common.{◌≡◌, ◌+◌, ℕ, inl, inr, Bool, IsTrue, List, length, Result, Ok, Err, IfOk, OnOk}
use Rattle.std.proofs.lemmas.Bool.{cases_Bool}
use Rattle.sqlite_value.specs.Order.{Row}
use Rattle.sqlite_schema.specs.declared.schema.Table.{Table as Columns}
use Rattle.sqlite.specs.declared.error.Error.{Error}
use Rattle.sqlite.specs.Effect.{IsDatabase}
use Rattle.sqlite.specs.State.{State, Executes, ExecutesInside}
use Rattle.vault_base.specs.declared.refusal.Table.{Table}
use Rattle.vault_audit_model.specs.Order.{place_of}
use Rattle.vault_audit_model.specs.Tables.{vault_schema}
use Rattle.vault_audit_schema.specs.Texts.{insert_text}
use Rattle.vault_store_model.specs.Edits.{with_row, Edits}
use Rattle.vault_store_model.proofs.EditLemmas.{with_row_ignores}
use Rattle.vault_store_edits.specs.Insertions.{not_insertion}
use Rattle.vault_store_edits.specs.Inserts.{Inserts, terms_by, source_by}
use Rattle.vault_store_edits.specs.Trees.{has_table, made_as}
use Rattle.vault_store_edits.proofs.StatementLemmas.{Leaves, inserts, edits_if, sound_if}
use Rattle.vault_store_edits.proofs.UnknownLemmas.{never_executed}

-- one that ran, by its answer
pub ran_if : (sql : List ℕ) (params : Row) (old new : State) (r : Result ℕ Error) → ExecutesInside 0 sql params old new r → IfOk r (λ count. ExecutesInside 0 sql params old new (Ok count))
ran_if sql params old new (Err e) h = tt
ran_if sql params old new (Ok count) h = h

module _ (external : Bool) (t : Table) (made : Columns) (row : Row) (it : Inserts external t made row) (old new : State) where
  pub leaves : (count : ℕ) → old.now.schema ≡ vault_schema external → Executes (insert_text made) row old new (Ok count) → Leaves external old new (with_row t row)
  leaves =
      inserts external t it.text.there (place_of t) made (insert_text made) row (terms_by made.key made.columns) (length made.columns + 1) (source_by made.key row) row it.text.command it.text.plain
      (λ limit mode text db out h. it.text.places limit mode row text db out h) it.one it.here it.reads_so old new

-- the same of the table of a vault, which has it or refuses the statement
module _ (external : Bool) (t : Table) (row : Row) (puts : IsTrue (has_table external t) → Inserts external t (made_as external t) row) (old new : State) where
  abbrev text : List ℕ
  text = insert_text (made_as external t)

  left : (count : ℕ) → old.now.schema ≡ vault_schema external → Executes text row old new (Ok count) → Leaves external old new (with_row t row)
  left count has h = elim (cases_Bool (has_table external t)) [
    | inl is_there ↦ leaves external t (made_as external t) row (puts is_there) old new count has h
    | inr lacks ↦ absurd (never_executed (vault_schema external) text (not_insertion external t lacks) row old new has count h)
  ]

  pub edits : (r : Result ℕ Error) → IfOk r (λ count. ExecutesInside 0 text row old new (Ok count)) → OnOk r (Edits external old new (with_row t row))
  edits (Err e) ran = tt
  edits (Ok count) ran = edits_if external text row old new (with_row t row) (Ok count) (with_row_ignores t row) left ran

  pub is_sound : (r : Result ℕ Error) → old.now.schema ≡ vault_schema external → IfOk r (λ count. ExecutesInside 0 text row old new (Ok count)) → OnOk r (IsDatabase new.now)
  is_sound (Err e) has ran = tt
  is_sound (Ok count) has ran = sound_if external text row old new (with_row t row) (Ok count) has left ran
