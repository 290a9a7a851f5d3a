-- A query inside a transaction, and the texts of those for rowids.
use Rattle.std.proofs.Common.{◌≡◌, ◌⊎◌, inl, inr, ℕ, List, [], ◌∷◌, codes, if◌then◌else◌, Option, Some, None, Bool, true, false, IsTrue, refl, ◌∙◌, arith}
use Rattle.sqlite_value.specs.Order.{Row}
use Rattle.sqlite_tied.specs.Compute.{everything}
use Rattle.sqlite_schema.specs.declared.command.Returning.{Returning}
use Rattle.sqlite_resolve.specs.declared.compiled.Compiled.{Compiled}
use Rattle.sqlite_resolve.specs.declared.error.CompileError.TheVariants.{NoSuchTable}
use Rattle.sqlite.specs.declared.error.Error.{Error}
use Rattle.sqlite.specs.Listing.{listing_schema, understood}
use Rattle.sqlite.specs.State.{State, IsUnchanged, IsNotRun, KeepsCommit, Shown, ShowsRows, FailsToShow, FailsToQuery, IsTooLate, Survives}
use Rattle.sqlite.proofs.StateLemmas.{survives_then}
use Rattle.vault_base.specs.declared.refusal.Table.{Table}
use Rattle.vault_base.specs.declared.refusal.Table.TheVariants as table
use Rattle.vault_audit_model.proofs.OutcomeLemmas.{kept_unchanged, kept_undone}
use Rattle.vault_audit_model.specs.Tables.{vault_schema}
use Rattle.vault_store_edits.specs.Trees.{tree_of}
use Rattle.vault_store_edits.specs.Queries.{SelectsIfKnown, by_rowid, rowid_text, rowids_where}

pub kept_itself : (s : State) → KeepsCommit s s
kept_itself s = record { was_open = λ h. h; committed = λ _. refl }

-- what a query shows leaves the last commit, and the transaction goes on
shows_kept : (old new : State) (sql : List ℕ) (c : Compiled) (params : Row) (rows : List Row) (returning : Option Returning) → IsTrue old.in_transaction → ShowsRows old new sql c params rows returning
    → KeepsCommit old new × IsTrue new.in_transaction
shows_kept old new sql c params rows None inside h = (kept_unchanged old new h.3, h.3.0.mode ∙ inside)
shows_kept old new sql c params rows (Some what) inside h =
    let shown = h.1.shown in
    let same : (if old.in_transaction then old.committed else new.now) ≡ old.committed = rw inside refl in
    (record { was_open = λ _. shown.was_open; committed = λ _. shown.committed_is ∙ same }, shown.mode ∙ inside)

pub shown_kept : (sql : List ℕ) (params : Row) (old new : State) (rows : List Row) → IsTrue old.in_transaction → Shown sql params old new rows → KeepsCommit old new × IsTrue new.in_transaction
unfolding Shown
shown_kept sql params old new rows inside h = shows_kept old new sql h.0 _ rows h.0.returning inside h.2

not_run_kept : (sql : List ℕ) (params : Row) (old new : State) (e : Error) → IsNotRun old new sql params e → KeepsCommit old new
unfolding IsNotRun
not_run_kept sql params old new e (inl h) = kept_unchanged old new h.1
not_run_kept sql params old new e (inr h) = kept_undone old new h.3

fails_kept : (old new : State) (sql : List ℕ) (c : Compiled) (params : Row) (e : Error) (returning : Option Returning) → FailsToShow old new sql c params e returning → KeepsCommit old new
fails_kept old new sql c params e None h = kept_unchanged old new h.3
fails_kept old new sql c params e (Some what) (inl h) = kept_unchanged old new h.1
fails_kept old new sql c params e (Some what) (inr h) = kept_undone old new h.3

pub failed_kept : (sql : List ℕ) (params : Row) (old new : State) (e : Error) → FailsToQuery sql params old new e ⊎ IsTooLate sql params old new e → KeepsCommit old new
unfolding FailsToQuery
failed_kept sql params old new e (inl (inl h)) = not_run_kept sql params old new e h
failed_kept sql params old new e (inl (inr h)) = fails_kept old new sql h.0 _ e h.0.returning h.2
failed_kept sql params old new e (inr h) = kept_unchanged old new h.5

-- the texts ask for the rowids of the rows with a rowid, where a vault has the table
pub finds_by_rowid : (external : Bool) (t : Table) → SelectsIfKnown (vault_schema external) (rowid_text t) (rowids_where (tree_of t) by_rowid)
unfolding understood listing_schema everything
finds_by_rowid false table.Meta = inl (record { names = codes "one" ∷ []; is = refl; plain = (refl, refl); unlisted = refl })
finds_by_rowid false table.Departments = inl (record { names = codes "rowid" ∷ []; is = refl; plain = (refl, refl); unlisted = refl })
finds_by_rowid false table.Callers = inl (record { names = codes "rowid" ∷ []; is = refl; plain = (refl, refl); unlisted = refl })
finds_by_rowid false table.Buckets = inl (record { names = codes "rowid" ∷ []; is = refl; plain = (refl, refl); unlisted = refl })
finds_by_rowid false table.Rules = inl (record { names = codes "rowid" ∷ []; is = refl; plain = (refl, refl); unlisted = refl })
finds_by_rowid false table.Entries = inl (record { names = codes "id" ∷ []; is = refl; plain = (refl, refl); unlisted = refl })
finds_by_rowid false table.Contents = inl (record { names = codes "id" ∷ []; is = refl; plain = (refl, refl); unlisted = refl })
finds_by_rowid false table.Settings = inl (record { names = codes "rowid" ∷ []; is = refl; plain = (refl, refl); unlisted = refl })
finds_by_rowid false table.Intake = inl (record { names = codes "rowid" ∷ []; is = refl; plain = (refl, refl); unlisted = refl })
finds_by_rowid false table.Heads = inl (record { names = codes "rowid" ∷ []; is = refl; plain = (refl, refl); unlisted = refl })
finds_by_rowid false table.Tenures = inl (record { names = codes "rowid" ∷ []; is = refl; plain = (refl, refl); unlisted = refl })
finds_by_rowid false table.External = inr (NoSuchTable, refl)
finds_by_rowid true table.Meta = inl (record { names = codes "one" ∷ []; is = refl; plain = (refl, refl); unlisted = refl })
finds_by_rowid true table.Departments = inl (record { names = codes "rowid" ∷ []; is = refl; plain = (refl, refl); unlisted = refl })
finds_by_rowid true table.Callers = inl (record { names = codes "rowid" ∷ []; is = refl; plain = (refl, refl); unlisted = refl })
finds_by_rowid true table.Buckets = inl (record { names = codes "rowid" ∷ []; is = refl; plain = (refl, refl); unlisted = refl })
finds_by_rowid true table.Rules = inl (record { names = codes "rowid" ∷ []; is = refl; plain = (refl, refl); unlisted = refl })
finds_by_rowid true table.Entries = inl (record { names = codes "id" ∷ []; is = refl; plain = (refl, refl); unlisted = refl })
finds_by_rowid true table.Contents = inl (record { names = codes "id" ∷ []; is = refl; plain = (refl, refl); unlisted = refl })
finds_by_rowid true table.Settings = inl (record { names = codes "rowid" ∷ []; is = refl; plain = (refl, refl); unlisted = refl })
finds_by_rowid true table.Intake = inl (record { names = codes "rowid" ∷ []; is = refl; plain = (refl, refl); unlisted = refl })
finds_by_rowid true table.Heads = inl (record { names = codes "rowid" ∷ []; is = refl; plain = (refl, refl); unlisted = refl })
finds_by_rowid true table.Tenures = inl (record { names = codes "rowid" ∷ []; is = refl; plain = (refl, refl); unlisted = refl })
finds_by_rowid true table.External = inl (record { names = codes "id" ∷ []; is = refl; plain = (refl, refl); unlisted = refl })

pub unchanged_itself : (s : State) → IsTrue s.is_open → IsUnchanged s s
unchanged_itself s is_open =
    (record { was_open = is_open; is_open = is_open; now_is = refl; committed_is = refl; mode = refl }, record { changes = refl; last_rowid = refl }, refl)

pub survives_itself : (s : State) → Survives s s (λ _. ⊥)
survives_itself s =
    record { clean = omega arith; shield = λ h. h; counts = omega arith; limit = refl; closes = λ _ is_open. inl is_open; crash = λ _ db left. inl left }

-- so does a crash after two calls of which neither commits anything
pub survives_more : (a b c : State) → Survives a b (λ _. ⊥) → Survives b c (λ _. ⊥) → Survives a c (λ _. ⊥)
survives_more a b c one two = survives_then a b c (λ _. ⊥) (λ _. ⊥) (λ _. ⊥) (λ clean db h. h) (λ clean db h. h) one two
