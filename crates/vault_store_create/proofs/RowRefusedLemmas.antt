-- A store that works refuses to put a row in where memory runs out, or as its database refuses the row.
use Rattle.std.proofs.Common.{◌≡◌, ◌⊎◌, ℕ, [], map, Bool, true, false, IsTrue, None, Option, Err, Result, IfErr, refl, sym, subst, ◌∙◌, arith, true≢false}
use Rattle.sqlite_tied.specs.Compute.{everything}
use Rattle.sqlite_value.specs.Order.{Row}
use Rattle.sqlite_schema.specs.declared.command.Command.{Command}
use Rattle.sqlite_schema.specs.declared.command.Command.TheVariants.{Insert}
use Rattle.sqlite.specs.declared.error.Error.{Error}
use Rattle.sqlite.specs.Does.{Does}
use Rattle.sqlite.specs.Listing.{understood}
use Rattle.sqlite.specs.State.{State, ExecutesInside, mode_of}
use Rattle.sqlite.specs.Values.{bound_value}
use Rattle.vault_base.specs.declared.refusal.Table.{Table}
use Rattle.vault_base.specs.declared.refusal.Table.TheVariants as table
use Rattle.vault_audit_model.specs.Order.{place_of}
use Rattle.vault_audit_model.specs.Tables.{vault_schema}
use Rattle.vault_audit_rows.specs.Health.{IsHealthy, IsMemory}
use Rattle.vault_store_edits.specs.Inserts.{insert_of}
use Rattle.vault_store_edits.specs.Trees.{has_table, made_as}
use Rattle.vault_store_create.specs.Copied.{Refuses}
use Rattle.vault_store_create.specs.Listings.{putting_of}
use Rattle.vault_store_create.specs.RowsOf.{IsRowOf, put_of}
use Rattle.vault_store_create.proofs.RowLemmas.{bound_as_stated}
use Rattle.vault_store_create.proofs.RefusedLemmas.{SaysWith, refused_as}

-- ---- the statements that put the rows of each table in

abbrev Puts : Bool → Table → Row → Type 0
Puts external t row = SaysWith (vault_schema external) (putting_of external t) (put_of t external row) (Insert (place_of t) (insert_of (made_as external t)))

pub puts : (external : Bool) (t : Table) → IsTrue (has_table false t) → (row : Row) → IsRowOf t row → Puts external t row
unfolding understood everything
puts false table.Meta there row stated = subst (Puts false table.Meta) (sym stated.1) (record { meaning = refl; plain = (refl, refl); alone = (omega (arith), refl); unmarked = refl; silent = λ c is none. rw (is, none) refl })
puts false table.Departments there row stated = subst (Puts false table.Departments) (sym stated.1) (record { meaning = refl; plain = (refl, refl); alone = (omega (arith), refl); unmarked = refl; silent = λ c is none. rw (is, none) refl })
puts false table.Callers there row stated = subst (Puts false table.Callers) (sym stated.1) (record { meaning = refl; plain = (refl, refl); alone = (omega (arith), refl); unmarked = refl; silent = λ c is none. rw (is, none) refl })
puts false table.Buckets there row stated = subst (Puts false table.Buckets) (sym stated.1) (record { meaning = refl; plain = (refl, refl); alone = (omega (arith), refl); unmarked = refl; silent = λ c is none. rw (is, none) refl })
puts false table.Rules there row stated = subst (Puts false table.Rules) (sym stated.1) (record { meaning = refl; plain = (refl, refl); alone = (omega (arith), refl); unmarked = refl; silent = λ c is none. rw (is, none) refl })
puts false table.Entries there row stated = subst (Puts false table.Entries) (sym stated.1) (record { meaning = refl; plain = (refl, refl); alone = (omega (arith), refl); unmarked = refl; silent = λ c is none. rw (is, none) refl })
puts false table.Contents there row stated = subst (Puts false table.Contents) (sym stated.1) (record { meaning = refl; plain = (refl, refl); alone = (omega (arith), refl); unmarked = refl; silent = λ c is none. rw (is, none) refl })
puts false table.Settings there row stated = subst (Puts false table.Settings) (sym stated.1) (record { meaning = refl; plain = (refl, refl); alone = (omega (arith), refl); unmarked = refl; silent = λ c is none. rw (is, none) refl })
puts false table.Intake there row stated = subst (Puts false table.Intake) (sym stated.1) (record { meaning = refl; plain = (refl, refl); alone = (omega (arith), refl); unmarked = refl; silent = λ c is none. rw (is, none) refl })
puts false table.Heads there row stated = subst (Puts false table.Heads) (sym stated.1) (record { meaning = refl; plain = (refl, refl); alone = (omega (arith), refl); unmarked = refl; silent = λ c is none. rw (is, none) refl })
puts false table.Tenures there row stated = subst (Puts false table.Tenures) (sym stated.1) (record { meaning = refl; plain = (refl, refl); alone = (omega (arith), refl); unmarked = refl; silent = λ c is none. rw (is, none) refl })
puts false table.External there row stated = absurd (true≢false (sym there))
puts true table.Meta there row stated = subst (Puts true table.Meta) (sym stated.1) (record { meaning = refl; plain = (refl, refl); alone = (omega (arith), refl); unmarked = refl; silent = λ c is none. rw (is, none) refl })
puts true table.Departments there row stated = subst (Puts true table.Departments) (sym stated.1) (record { meaning = refl; plain = (refl, refl); alone = (omega (arith), refl); unmarked = refl; silent = λ c is none. rw (is, none) refl })
puts true table.Callers there row stated = subst (Puts true table.Callers) (sym stated.1) (record { meaning = refl; plain = (refl, refl); alone = (omega (arith), refl); unmarked = refl; silent = λ c is none. rw (is, none) refl })
puts true table.Buckets there row stated = subst (Puts true table.Buckets) (sym stated.1) (record { meaning = refl; plain = (refl, refl); alone = (omega (arith), refl); unmarked = refl; silent = λ c is none. rw (is, none) refl })
puts true table.Rules there row stated = subst (Puts true table.Rules) (sym stated.1) (record { meaning = refl; plain = (refl, refl); alone = (omega (arith), refl); unmarked = refl; silent = λ c is none. rw (is, none) refl })
puts true table.Entries there row stated = subst (Puts true table.Entries) (sym stated.1) (record { meaning = refl; plain = (refl, refl); alone = (omega (arith), refl); unmarked = refl; silent = λ c is none. rw (is, none) refl })
puts true table.Contents there row stated = subst (Puts true table.Contents) (sym stated.1) (record { meaning = refl; plain = (refl, refl); alone = (omega (arith), refl); unmarked = refl; silent = λ c is none. rw (is, none) refl })
puts true table.Settings there row stated = subst (Puts true table.Settings) (sym stated.1) (record { meaning = refl; plain = (refl, refl); alone = (omega (arith), refl); unmarked = refl; silent = λ c is none. rw (is, none) refl })
puts true table.Intake there row stated = subst (Puts true table.Intake) (sym stated.1) (record { meaning = refl; plain = (refl, refl); alone = (omega (arith), refl); unmarked = refl; silent = λ c is none. rw (is, none) refl })
puts true table.Heads there row stated = subst (Puts true table.Heads) (sym stated.1) (record { meaning = refl; plain = (refl, refl); alone = (omega (arith), refl); unmarked = refl; silent = λ c is none. rw (is, none) refl })
puts true table.Tenures there row stated = subst (Puts true table.Tenures) (sym stated.1) (record { meaning = refl; plain = (refl, refl); alone = (omega (arith), refl); unmarked = refl; silent = λ c is none. rw (is, none) refl })
puts true table.External there row stated = absurd (true≢false (sym there))

-- one of an insertion doesn't depend on its text
module _ (external : Bool) (t : Table) (there : IsTrue (has_table false t)) (row params : Row) (given : params ≡ map bound_value (put_of t external row)) (stated : IsRowOf t row) (old new : State) (well : IsHealthy new)
    (limit : new.step_limit ≡ old.step_limit) (has : old.now.schema ≡ vault_schema external) where
  abbrev command : Command
  command = Insert (place_of t) (insert_of (made_as external t))

  pub row_refused : (r : Result ℕ Error) → ExecutesInside 0 (putting_of external t) params old new r → IfErr r (λ e. IsMemory e ⊎ Refuses external t row old.now)
  row_refused r h =
      let bound = subst (λ p. ExecutesInside 0 (putting_of external t) p old new r) (given ∙ bound_as_stated external t row stated) h in
      let known : old.step_limit ≡ None = sym limit ∙ well.unlimited in
      subst (λ (l : Option ℕ). IfErr r (λ e. IsMemory e ⊎ ((stop : Option Error) × Does l (mode_of old) (put_of t external row) old.now [] None command (Err stop)))) known
      (refused_as (putting_of external t) (put_of t external row) old new well (vault_schema external) has command (puts external t there row stated) r bound)
