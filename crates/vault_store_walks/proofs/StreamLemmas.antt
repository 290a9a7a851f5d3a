-- A query over the tables of a vault whose rows come one at a time.
use Rattle.std.proofs.Common.{◌≡◌, inl, inr, ℕ, Bool, List, [], ◌++◌, Result, Ok, Err, IfOk, OnErr, IsTrue, sym, ap, subst, ◌∙◌}
use Rattle.sqlite_value.specs.Order.{Row}
use Rattle.sqlite_schema.specs.declared.command.Command.TheVariants.{Select}
use Rattle.sqlite_sql.specs.Query.{Query}
use Rattle.sqlite.specs.declared.error.Error.{Error}
use Rattle.sqlite_trees.specs.declared.store.Store as store
use Rattle.sqlite.specs.Clock.{timed}
use Rattle.sqlite.specs.Given.{HasGiven, HasBegun, IsRefused}
use Rattle.sqlite.specs.Held.{Held, state}
use Rattle.sqlite.specs.Listing.{understood}
use Rattle.sqlite.specs.State.{State, HasCleanDisk, FailsToQuery, Shown, Begins, IsUnchanged}
use Rattle.sqlite.proofs.Callers.{EndsIn, IsPlain, begins_shown, begun_plain, command_of, given_begin}
use Rattle.vault_core_model.specs.Vault.{Vault}
use Rattle.vault_audit_model.specs.Tables.{vault_schema}
use Rattle.vault_audit_model.proofs.CommandLemmas.{commanded_is}
use Rattle.vault_audit_rows.proofs.ScanLemmas.{still}
use Rattle.vault_store_model.specs.Keeping.{Keeps}
use Rattle.vault_store_reads.specs.Queries.{FindsRows, SelectsInBoth}
use Rattle.vault_store_reads.proofs.QueryLemmas.{finds, keeps_after, unchanged_keeps, was_open}

module _ (sql : List ℕ) (params : Row) (q : Query) (is : SelectsInBoth sql q) where
  meant : (external : Bool) → command_of (understood (vault_schema external) sql) ≡ Select (record { lets = []; body = q }) (is external).names
  meant external = commanded_is (understood (vault_schema external) sql) ∙ (is external).is

  -- what begins an answer goes on to be one
  goes_on : (external : Bool) (s : State) → s.now.schema ≡ vault_schema external → IsTrue s.is_open → (rows : List Row) → Begins sql params s rows → (tail : List Row) × Shown sql params s s (rows ++ tail)
  goes_on external s has is_open rows h =
      begins_shown sql params s s rows h (still s is_open) (λ c db it source.
      let known : command_of (understood s.now.schema sql) ≡ Select (record { lets = []; body = q }) (is external).names = subst (λ schema. command_of (understood schema sql) ≡ Select (record { lets = []; body = q }) (is external).names) (sym has) (meant external) in
      let command : c.command ≡ Select (record { lets = []; body = q }) (is external).names = sym (ap command_of it.is) ∙ known in
      subst (λ k. EndsIn k db (timed params c.formats it.now)) (sym command) tt)

  module _ {S : Type 0} (g : store.Ghosts S) where
    pub begun : (old new : Held S) (v : Vault) → Keeps (state g old) v → HasBegun g sql params old new → HasGiven g sql params new [] × IsUnchanged (state g old) (state g new)
    begun old new v was (inl h) = h
    begun old new v was (inr h) =
        let has = (was (was_open sql params (state g old) (state g new) _ h.1)).0.spells.schema in
        begun_plain g sql params old new (subst (λ s. IsPlain (understood s sql)) (sym has) (is v.external).plain) (inr h)

    -- the rows so far begin an answer
    pub given_found : (old now : Held S) (v : Vault) → Keeps (state g old) v → IsUnchanged (state g old) (state g now) → (rows : List Row) → HasGiven g sql params now rows → (tail : List Row) × FindsRows v sql params (rows ++ tail)
    given_found old now v was same rows given =
        let keeps = unchanged_keeps (state g old) (state g now) v (inl same) was in
        let on = goes_on v.external (state g now) (keeps same.0.is_open).0.spells.schema same.0.is_open rows (given_begin g sql params now rows given) in
        (on.0, finds sql params (state g now) (state g now) v keeps (rows ++ on.0) on.1)

    -- one that is refused has a cause
    pub refused_why : {X : Type 0} (old new : Held S) (r : Result X Error) (e : Error) → OnErr r (IsRefused g sql params old r new) → r ≡ Err e → HasCleanDisk (state g new) → FailsToQuery sql params (state g old) (state g new) e
    refused_why old new (Ok x) e refused is_err clean = absurd (cc is_err)
    refused_why old new (Err d) e refused is_err clean = subst (FailsToQuery sql params (state g old) (state g new)) (let same : d ≡ e = cc is_err in same) (refused.err clean)

    -- one that is refused leaves the vault
    pub refused_keeps : {X : Type 0} (old new : Held S) (v : Vault) → Keeps (state g old) v → HasCleanDisk (state g new) → (r : Result X Error) → OnErr r (IsRefused g sql params old r new) → IfOk r (λ _. ⊥) → Keeps (state g new) v
    refused_keeps old new v was clean (Ok x) refused none = absurd none
    refused_keeps old new v was clean (Err e) refused none = keeps_after sql params (state g old) (state g new) v was (λ (rows : List Row). rows) q is (Err e) tt (refused.err clean)
