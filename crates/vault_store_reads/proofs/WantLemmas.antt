-- A store that works refuses a query that it can answer only where memory runs out, whatever the parameters are.
use Rattle.std.proofs.Common.{◌≡◌, inl, inr, ℕ, List, [], Bool, true, false, None, Option, Ok, Err, Result, IfErr, IsTrue, append-nil, refl, sym, ap, subst, ◌∙◌}
use Rattle.sqlite_value.specs.Order.{Row}
use Rattle.sqlite_schema.specs.declared.command.Command.{Command}
use Rattle.sqlite_schema.specs.declared.command.Command.TheVariants.{Select}
use Rattle.sqlite_resolve.specs.declared.compiled.Compiled.{Compiled}
use Rattle.sqlite_typing.specs.Types.{accepts_program}
use Rattle.sqlite.specs.declared.error.Error.{Error}
use Rattle.sqlite.specs.declared.error.Error.TheVariants.{SqliteFailure}
use Rattle.sqlite.specs.declared.error.ErrorCode.TheVariants as code
use Rattle.sqlite.specs.Effect.{Database, RefusesToRead}
use Rattle.sqlite.specs.Given.{IsPlain}
use Rattle.sqlite.specs.Listing.{understood, reads_listing, IsSourceOf}
use Rattle.sqlite.specs.Clock.{timed}
use Rattle.sqlite.specs.State.{State, FailsToShow, FailsToQuery, IsNoStatement, IsNotRun, IsStatement}
use Rattle.sqlite_sql.specs.Query.{Query}
use Rattle.vault_core_model.specs.Vault.{Vault}
use Rattle.vault_audit_model.specs.Tables.{vault_schema}
use Rattle.vault_audit_rows.specs.declared.misread.Misread.{Misread}
use Rattle.vault_audit_rows.specs.declared.misread.Misread.TheVariants.{Wrong, Memory}
use Rattle.vault_audit_rows.specs.Health.{IsHealthy, IsMemory}
use Rattle.vault_store_model.specs.Keeping.{Keeps}
use Rattle.vault_store_reads.specs.Queries.{SelectsInBoth}
use Rattle.vault_store_reads.specs.Wants.{IsQueryWith, IsReadWith, IsAskedWith}
use Rattle.vault_store_reads.proofs.QueryLemmas.{failed}
use Rattle.vault_audit_rows.proofs.CauseLemmas.{by_store, by_query}

by_command : (external : Bool) (limit : Option ℕ) (db : Database) (k : Command) (params : Row) (e : Error) → limit ≡ None → db.schema ≡ vault_schema external → IsQueryWith external params k → ¬ RefusesToRead limit k db params e
by_command external limit db (Select p columns) params e unlimited has can refused =
    let typed : accepts_program db.schema [] p.body params ≡ true = subst (λ s. accepts_program s [] p.body params ≡ true) (sym has) can.1 in
    by_query limit db p params e unlimited can.0 typed can.2 can.3 refused
by_command external limit db _ params e unlimited has can refused = can

module _ (external : Bool) (sql : List ℕ) (params : Row) (old new : State) (well : IsHealthy new) (limit : new.step_limit ≡ old.step_limit) (plain : IsPlain (understood (vault_schema external) sql))
    (unlisted : reads_listing (vault_schema external) sql ≡ false) (asked : IsReadWith external sql params (understood (vault_schema external) sql)) (has : old.now.schema ≡ vault_schema external) where
  meant : (c : Compiled) → understood old.now.schema sql ≡ Ok c → understood (vault_schema external) sql ≡ Ok c
  meant c is = ap (λ s. understood s sql) (sym has) ∙ is

  read_of : (c : Compiled) → understood old.now.schema sql ≡ Ok c → IsReadWith external sql params (Ok c)
  read_of c is = subst (IsReadWith external sql params) (meant c is) asked

  plain_of : (c : Compiled) → understood old.now.schema sql ≡ Ok c → IsPlain (Ok c)
  plain_of c is = subst IsPlain (meant c is) plain

  a_statement : (e : Error) → ¬ IsNoStatement old sql params e
  a_statement e (inl none) = subst (IsReadWith external sql params) (ap (λ s. understood s sql) (sym has) ∙ none.1) asked
  a_statement e (inr (c, is, inl part)) = part.0 (read_of c is).0
  a_statement e (inr (c, is, inr (inl given))) = given.0 (read_of c is).1
  a_statement e (inr (c, is, inr (inr timely))) = timely.0 (plain_of c is).1

  a_read : (c : Compiled) (it : IsStatement old sql params c) (e : Error) → ¬ FailsToShow old new sql c (timed params c.formats it.now) e c.returning
  a_read c it e h =
      let bare = plain_of c it.is in
      let shown = rw (bare.0, bare.1, append-nil params) at h in
      let db : shown.0 ≡ old.now = subst (λ b. IsSourceOf b old.now shown.0) (ap (λ s. reads_listing s sql) has ∙ unlisted) shown.1 in
      by_command external old.step_limit old.now c.command params e (sym limit ∙ well.unlimited) has (read_of c it.is).2 (subst (λ d. RefusesToRead old.step_limit c.command d params e) db shown.2)

  known_cause : (e : Error) → FailsToQuery sql params old new e → IsMemory e
  unfolding FailsToQuery IsNotRun
  known_cause e (inl (inl none)) = absurd (a_statement e none.0)
  known_cause e (inl (inr fails)) = by_store ⊥ (λ none. none) old new well e fails
  known_cause e (inr (c, it, h)) = absurd (a_read c it e h)

-- of a connection that keeps a vault
kept_cause : (sql : List ℕ) (params : Row) (old new : State) (v : Vault) → Keeps old v → IsHealthy new → new.step_limit ≡ old.step_limit → IsPlain (understood (vault_schema v.external) sql)
    → reads_listing (vault_schema v.external) sql ≡ false → IsAskedWith sql params → (e : Error) → FailsToQuery sql params old new e → IsMemory e
kept_cause sql params old new v was well limit plain unlisted asked e h =
    let is_open : IsTrue old.is_open = elim (failed sql params old new e h) [ inl same ↦ same.0.was_open | inr undone ↦ undone.was_open well.is_open ] in
    known_cause v.external sql params old new well limit plain unlisted (asked v.external) (was is_open).0.spells.schema e h

pub cause_of : (sql : List ℕ) (params : Row) (old new : State) (v : Vault) → Keeps old v → IsHealthy new → new.step_limit ≡ old.step_limit → (q : Query) → SelectsInBoth sql q → IsAskedWith sql params → (e : Error) → FailsToQuery sql params old new e → IsMemory e
cause_of sql params old new v was well limit q it asked e h = kept_cause sql params old new v was well limit (it v.external).plain (it v.external).unlisted asked e h

-- the same of a text that isn't prepared
pub not_prepared : (sql : List ℕ) (params : Row) (old new : State) (v : Vault) → Keeps old v → IsHealthy new → new.step_limit ≡ old.step_limit → ((external : Bool) → IsPlain (understood (vault_schema external) sql))
    → ((external : Bool) → reads_listing (vault_schema external) sql ≡ false) → IsAskedWith sql params → (e : Error) → IsNotRun old new sql params e → IsMemory e
unfolding FailsToQuery
not_prepared sql params old new v was well limit plain unlisted asked e h = kept_cause sql params old new v was well limit (plain v.external) (unlisted v.external) asked e (inl h)

-- ---- answers

pub if_failed : {X E : Type 0} {P Q : E → Type 0} (r : Result X E) → IfErr r P → ((e : E) → P e → Q e) → IfErr r Q
if_failed (Ok x) p f = tt
if_failed (Err e) p f = f e p

-- a row that isn't misread as wrong wanted memory
pub not_wrong : (m : Misread) (e : Error) → (m ≡ Memory → e ≡ SqliteFailure code.OutOfMemory) → ¬ (m ≡ Wrong) → IsMemory e
not_wrong Wrong e memory right = absurd (right refl)
not_wrong Memory e memory right = memory refl
