-- What a query does to a connection that keeps a vault: nothing, whatever it answers.
use Rattle.std.proofs.Common.{◌≡◌, ◌⊎◌, inl, inr, ℕ, List, Bool, None, Some, Ok, Err, Result, IsTrue, IfOk, IfErr, Option, sym, ap, subst, ◌∙◌}
use Rattle.sqlite_value.specs.Order.{Row}
use Rattle.sqlite_sql.specs.Query.{Query}
use Rattle.sqlite.specs.declared.error.Error.{Error}
use Rattle.sqlite.specs.State.{State, Shown, ShowsRows, IsUnchanged, IsRolledBack, IsNotRun, FailsToShow, FailsToQuery, CommitsShowing, Survives}
use Rattle.sqlite_resolve.specs.declared.compiled.Compiled.{Compiled}
use Rattle.sqlite_schema.specs.declared.command.Returning.{Returning}
use Rattle.sqlite.specs.Listing.{understood}
use Rattle.sqlite.proofs.Callers.{IsPlain, reads_as, never_commits}
use Rattle.sqlite.proofs.StateLemmas.{survives_weaker}
use Rattle.vault_core_model.specs.Vault.{Vault}
use Rattle.vault_audit_model.specs.Spells.{AreSound}
use Rattle.vault_audit_model.specs.Tables.{vault_schema}
use Rattle.vault_audit_model.proofs.CommandLemmas.{commanded_is}
use Rattle.vault_store_model.specs.Keeping.{Keeps}
use Rattle.vault_store_reads.specs.Queries.{FindsRows, SelectsInBoth}

pub shows_open : (old new : State) (sql : List ℕ) (c : Compiled) (params : Row) (rows : List Row) (o : Option Returning) → ShowsRows old new sql c params rows o → IsTrue old.is_open
shows_open old new sql c params rows None it = it.3.0.was_open
shows_open old new sql c params rows (Some what) it = it.1.shown.was_open

pub was_open : (sql : List ℕ) (params : Row) (old new : State) (rows : List Row) → Shown sql params old new rows → IsTrue old.is_open
unfolding Shown
was_open sql params old new rows h = shows_open old new sql h.0 _ rows h.0.returning h.2

-- a query that gave rows changed nothing
shown_same : (external : Bool) (sql : List ℕ) (params : Row) (old new : State) → old.now.schema ≡ vault_schema external → IsPlain (understood (vault_schema external) sql) → (rows : List Row) → Shown sql params old new rows → IsUnchanged old new
unfolding Shown
shown_same external sql params old new has plain rows h =
    let bare = subst IsPlain (sym (ap (λ s. understood s sql) has) ∙ h.1.is) plain in
    let it = rw bare.0 at h.2 in
    it.3

fails_showing : (old new : State) (sql : List ℕ) (c : Compiled) (params : Row) (e : Error) (o : Option Returning) → FailsToShow old new sql c params e o → IsUnchanged old new ⊎ IsRolledBack old new
fails_showing old new sql c params e None it = inl it.3
fails_showing old new sql c params e (Some what) (inl it) = inl it.1
fails_showing old new sql c params e (Some what) (inr fails) = inr fails.3

-- one that fails changes nothing, or rolls back
pub failed : (sql : List ℕ) (params : Row) (old new : State) (e : Error) → FailsToQuery sql params old new e → IsUnchanged old new ⊎ IsRolledBack old new
unfolding FailsToQuery IsNotRun
failed sql params old new e (inl (inl (_, same))) = inl same
failed sql params old new e (inl (inr fails)) = inr fails.3
failed sql params old new e (inr (c, _, it)) = fails_showing old new sql c _ e c.returning it

pub unchanged_keeps : (old new : State) (v : Vault) → IsUnchanged old new ⊎ IsRolledBack old new → Keeps old v → Keeps new v
unchanged_keeps old new v (inl same) was is_open =
    let keeps = was same.0.was_open in
    (subst (λ db. AreSound db v) (sym same.0.now_is) keeps.0, same.0.committed_is ∙ keeps.1 ∙ sym same.0.now_is)
unchanged_keeps old new v (inr undone) was is_open =
    let keeps = was (undone.was_open is_open) in
    let both = undone.undone is_open in
    (subst (λ db. AreSound db v) (sym (both.0 ∙ keeps.1)) keeps.0, both.1 ∙ sym both.0)

module _ (sql : List ℕ) (params : Row) (old new : State) (v : Vault) (was : Keeps old v) where
  -- its rows are the answer of what the text means
  pub finds : (rows : List Row) → Shown sql params old new rows → FindsRows v sql params rows
  finds rows h =
      let sound = (was (was_open sql params old new rows h)).0 in
      (old.now, sound, λ q it. reads_as sql params old new (vault_schema v.external) sound.spells.schema _ (commanded_is (understood (vault_schema v.external) sql) ∙ it.is) it.plain it.unlisted rows h)

  pub keeps_after : {X : Type 0} (items : X → List Row) (q : Query) → SelectsInBoth sql q → (r : Result X Error) → IfOk r (λ x. Shown sql params old new (items x)) → IfErr r (FailsToQuery sql params old new) → Keeps new v
  keeps_after items q it (Ok x) ok err =
      let schema = (was (was_open sql params old new (items x) ok)).0.spells.schema in
      unchanged_keeps old new v (inl (shown_same v.external sql params old new schema (it v.external).plain (items x) ok)) was
  keeps_after items q it (Err e) ok err = unchanged_keeps old new v (failed sql params old new e err) was

  -- a crash leaves what it left before, since only a write commits
  pub survives_query : (q : Query) → SelectsInBoth sql q → Survives old new (CommitsShowing sql params old) → Survives old new (λ _. ¬ IsTrue old.is_open)
  survives_query q it =
      survives_weaker old new _ _ (λ _ db commits is_open. never_commits sql params old db (subst (λ s. IsPlain (understood s sql)) (sym (was is_open).0.spells.schema) (it v.external).plain) commits)

pub if_shown : {X E : Type 0} {P Q : X → Type 0} (r : Result X E) → IfOk r P → ((x : X) → P x → Q x) → IfOk r Q
if_shown (Ok x) p f = f x p
if_shown (Err e) p f = tt
