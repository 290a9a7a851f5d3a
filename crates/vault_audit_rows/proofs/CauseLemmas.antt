-- A store that works refuses a query that it can answer only where memory runs out.
use Rattle.std.proofs.Common.{◌≡◌, ◌⊎◌, inl, inr, ℕ, List, [], ◌∷◌, length, true, false, None, Option, Ok, IsTrue, IsSome, append-nil, sym, ap, subst, ◌∙◌, arith}
use Rattle.sqlite_schema.specs.declared.command.Command.{Command}
use Rattle.sqlite_schema.specs.declared.command.Command.TheVariants.{Select}
use Rattle.sqlite_schema.specs.declared.program.Program.{Program}
use Rattle.sqlite_schema.specs.Program.{lets_of}
use Rattle.sqlite_resolve.specs.declared.compiled.Compiled.{Compiled}
use Rattle.sqlite_typing.specs.Types.{accepts_program}
use Rattle.sqlite_sql.specs.Query.{Query, has_no_fold}
use Rattle.sqlite_sql.specs.Program.{Let, QueryOverflows, ProgramOverflows}
use Rattle.sqlite_sql.proofs.QueryLemmas.{no_fold_overflows}
use Rattle.sqlite_trees.specs.Tree.{Trees}
use Rattle.sqlite_trees.specs.declared.error.StoreError.TheVariants.{OutOfMemory, Io, Corrupt, Full, Broken, Unstorable}
use Rattle.sqlite.specs.declared.error.Error.{Error}
use Rattle.sqlite.specs.Effect.{Database, RefusesQuery, RefusesToRead}
use Rattle.sqlite.specs.Given.{IsPlain}
use Rattle.sqlite.specs.Listing.{understood, IsSourceOf}
use Rattle.sqlite.specs.Clock.{timed}
use Rattle.sqlite.specs.State.{State, HasCause, Survives, IsUnchanged, Fails, FailsToShow, FailsToQuery, IsNoStatement, IsNotRun, IsStatement}
use Rattle.vault_audit_rows.specs.Health.{IsHealthy, IsMemory, IsAnswerable, IsRead, Asks}
use Rattle.sqlite_value.specs.Order.{Row}

by_fault : (old new : State) → IsHealthy new → HasCause old new ⊥ Io → ⊥
by_fault old new well more = omega (arith, more, well.unfailed)

-- the store fails where memory runs out, or what it was given is too big for it
pub by_size : (big : Type 0) (old new : State) → IsHealthy new → (e : Error) → Fails old new big e → IsMemory e ⊎ big
by_size big old new well e (OutOfMemory, is, cause, undone, stated) = inl is
by_size big old new well e (Io, is, cause, undone, stated) = absurd (by_fault old new well cause)
by_size big old new well e (Corrupt, is, cause, undone, stated) = absurd (by_fault old new well cause)
by_size big old new well e (Full, is, cause, undone, stated) = absurd (by_fault old new well cause)
by_size big old new well e (Broken, is, cause, undone, stated) = absurd (let is_open : IsTrue old.is_open = undone.was_open well.is_open in cc (cause, is_open))
by_size big old new well e (Unstorable, is, cause, undone, stated) = inr cause

-- one that works fails where memory runs out, if nothing was too big for it
pub by_store : (big : Type 0) → ¬ big → (old new : State) → IsHealthy new → (e : Error) → Fails old new big e → IsMemory e
by_store big small old new well e failed = elim (by_size big old new well e failed) [ inl is ↦ is | inr is_big ↦ absurd (small is_big) ]

never_sums : (db : Trees) (q : Query) (params : Row) → q.group ≡ None → has_no_fold q.from ≡ true → ¬ QueryOverflows q db params
never_sums db q params none plain (inl over) = rw none at over
never_sums db q params none plain (inr over) = no_fold_overflows db q.from (params ∷ []) plain over

never_overflows : (db : Trees) (params : Row) (lets : List Let) (q : Query) → lets ≡ [] → q.group ≡ None → has_no_fold q.from ≡ true → ¬ ProgramOverflows db params [] lets q
never_overflows db params [] q bare none plain over = never_sums _ q params none plain over
never_overflows db params (l ∷ lets) q bare none plain over = absurd (cc bare)

pub by_query : (limit : Option ℕ) (db : Database) (p : Program) (params : Row) (e : Error) → limit ≡ None → lets_of p ≡ [] → accepts_program db.schema [] p.body params ≡ true → p.body.group ≡ None → has_no_fold p.body.from ≡ true → ¬ RefusesQuery limit db p params e
by_query limit db p params e unlimited bare typed none plain (inl refused) = let no : accepts_program db.schema [] p.body params ≡ false = subst (λ l. accepts_program db.schema l p.body params ≡ false) bare refused.1 in absurd (cc (typed, no))
by_query limit db p params e unlimited bare typed none plain (inr (inl over)) = never_overflows db.trees params (lets_of p) p.body bare none plain over.1
by_query limit db p params e unlimited bare typed none plain (inr (inr cut)) = absurd (let some : IsSome {T = ℕ} None = subst (λ (l : Option ℕ). IsSome l) unlimited cut.1 in cc some)

by_command : (limit : Option ℕ) (db : Database) (k : Command) (e : Error) → limit ≡ None → IsAnswerable db.schema k → ¬ RefusesToRead limit k db [] e
by_command limit db (Select p columns) e unlimited can refused = by_query limit db p [] e unlimited can.0 can.1 can.2 can.3 refused
by_command limit db _ e unlimited can refused = can

module _ (sql : List ℕ) (old new : State) (well : IsHealthy new) (limit : new.step_limit ≡ old.step_limit) (plain : IsPlain (understood old.now.schema sql)) (asks : Asks old.now.schema sql) where
  read_of : (c : Compiled) → understood old.now.schema sql ≡ Ok c → IsRead old.now.schema sql (Ok c)
  read_of c is = subst (IsRead old.now.schema sql) is asks.is

  a_statement : (e : Error) → ¬ IsNoStatement old sql [] e
  a_statement e (inl none) = subst (IsRead old.now.schema sql) none.1 asks.is
  a_statement e (inr (c, is, inl part)) = part.0 (read_of c is).0
  a_statement e (inr (c, is, inr (inl given))) = given.0 (sym (ap length (read_of c is).1))
  a_statement e (inr (c, is, inr (inr timed))) = timed.0 (subst IsPlain is plain).1

  a_read : (c : Compiled) (it : IsStatement old sql [] c) (e : Error) → ¬ FailsToShow old new sql c (timed [] c.formats it.now) e c.returning
  a_read c it e h =
      let bare = subst IsPlain it.is plain in
      let shown = rw (bare.0, bare.1, append-nil []) at h in
      let db : shown.0 ≡ old.now = subst (λ b. IsSourceOf b old.now shown.0) asks.unlisted shown.1 in
      by_command old.step_limit old.now c.command e (sym limit ∙ well.unlimited) (read_of c it.is).2 (subst (λ d. RefusesToRead old.step_limit c.command d [] e) db shown.2)

  pub cause_of : (e : Error) → FailsToQuery sql [] old new e → IsMemory e
  unfolding FailsToQuery IsNotRun
  cause_of e (inl (inl none)) = absurd (a_statement e none.0)
  cause_of e (inl (inr failed)) = by_store ⊥ (λ none. none) old new well e failed
  cause_of e (inr (c, it, h)) = absurd (a_read c it e h)

-- the same of a query of whose answer some rows were given
pub cause_later : (sql : List ℕ) (first old new : State) → IsHealthy new → Survives old new (λ _. ⊥) → IsUnchanged first old → IsPlain (understood first.now.schema sql) → Asks first.now.schema sql
    → (e : Error) → FailsToQuery sql [] old new e → IsMemory e
cause_later sql first old new well kept same plain asks e failed =
    let db = same.0.now_is in
    cause_of sql old new well kept.limit (subst (λ (d : Database). IsPlain (understood d.schema sql)) (sym db) plain) (subst (λ (d : Database). Asks d.schema sql) (sym db) asks) e failed
