-- COMMIT ends a transaction, whatever it answers, and commits what it wrote.
use Rattle.std.proofs.Common.{◌≡◌, ◌≢◌, ℕ, ◌≤◌, List, [], length, codes, false, None, Ok, Err, Result, OnOk, OnErr, IfErr, IsTrue, inl, inr, refl, sym, ap, subst, lit≤, ◌∙◌}
use Rattle.sqlite_tied.specs.Compute.{everything}
use Rattle.sqlite_trees.specs.Tree.{Trees}
use Rattle.sqlite_schema.specs.declared.schema.Schema.{Schema}
use Rattle.sqlite_schema.specs.declared.command.Command.TheVariants.{Commit}
use Rattle.sqlite_resolve.specs.declared.compiled.Compiled.{Compiled}
use Rattle.sqlite_value.specs.Order.{Row}
use Rattle.sqlite.specs.declared.error.Error.{Error}
use Rattle.sqlite.specs.Clock.{timed}
use Rattle.sqlite.specs.Does.{Does}
use Rattle.sqlite.specs.Listing.{understood}
use Rattle.sqlite.specs.State.{State, HasCleanDisk, CommitsBy, Executes, ExecutesIn, IsMisplaced, IsNotRun, IsRolledBack, MayCommit, RunsAlone, RunsCommand, Shows, Survives, mode_of, text_of}
use Rattle.sqlite.proofs.Callers.{IsPlain, command_of, runs_as}
use Rattle.sqlite.proofs.StateLemmas.{survives_weaker}
use Rattle.vault_base.specs.declared.refusal.Refusal.TheVariants.{Device}
use Rattle.vault_audit_model.specs.Faults.{refusal_of}
use Rattle.vault_audit_model.proofs.OutcomeLemmas.{same_value}
use Rattle.vault_audit.specs.Health.{IsHealthy, IsMemory}
use Rattle.vault_store_create.proofs.RefusedLemmas.{no_device, by_store}

abbrev pub commit_text : List ℕ
commit_text = codes "COMMIT"

abbrev commit : Compiled
commit = record { command = Commit; returning = None; names = []; formats = []; start = 0; end = 6; tail = 6 }

commit_is : (schema : Schema) → understood schema commit_text ≡ Ok commit
unfolding understood everything
commit_is schema = refl

module _ (old new : State) (inside : IsTrue old.in_transaction) where
  never_misplaced : (e : Error) → ¬ IsMisplaced old Commit e
  never_misplaced e (inl (_, inl (begin, _))) = cc
  never_misplaced e (inl (_, inr (_, outside))) = let both = sym inside ∙ outside in cc
  never_misplaced e (inr (_, name, inl release, _)) = cc
  never_misplaced e (inr (_, name, inr back, _)) = cc

  -- one that is refused is undone, over a store that works only where memory runs out
  abbrev Undone : Error → Type 0
  Undone e = IsRolledBack old new × (IsHealthy new → IsMemory e)

  if_refused : (e : Error) (params : Row) → RunsCommand old new commit_text commit params (Err e) → Undone e
  if_refused e params (inl (inl misplaced, _)) = absurd (never_misplaced e misplaced)
  if_refused e params (inl (inr (inl write, _), _)) = absurd write
  if_refused e params (inl (inr (inr shown, _), _)) = absurd (let none = shown in cc)
  if_refused e params (inr fails) = (fails.3, λ well. by_store (Does old.step_limit (mode_of old) params old.now (text_of commit_text commit) None Commit (Err None)) (λ does. let none = does in cc none) old new well e fails)

  if_not_run : (e : Error) → IsNotRun old new commit_text [] e → Undone e
  unfolding IsNotRun
  if_not_run e (inl (inl (fault, wrong, _), _)) = absurd (let both = sym (commit_is old.now.schema) ∙ wrong in cc)
  if_not_run e (inl (inr (c, is, why), _)) =
      let same : commit ≡ c = same_value (sym (commit_is old.now.schema) ∙ is) in
      absurd (elim why [
        | inl long ↦ (subst (λ (k : Compiled). ¬ (length commit_text ≤ k.tail)) (sym same) long.0) (lit≤ tt)
        | inr short ↦ elim short [
          | inl given ↦ given.0 (ap (λ (k : Compiled). length k.names) same)
          | inr formats ↦ formats.0 (sym (ap (λ (k : Compiled). k.formats) same))
        ]
      ])
  if_not_run e (inr fails) = (fails.3, λ well. by_store ⊥ (λ none. none) old new well e fails)

  undone : (e : Error) → Executes commit_text [] old new (Err e) → Undone e
  unfolding ExecutesIn
  undone e (inl refused) = if_not_run e refused
  undone e (inr (c, it, ran)) =
      let same : commit ≡ c = same_value (sym (commit_is old.now.schema) ∙ it.is) in
      if_refused e (timed [] [] it.now) (subst (λ (k : Compiled). RunsAlone false old new commit_text k (timed [] k.formats it.now) (Err e)) (sym same) ran)

  committed : (count : ℕ) → Executes commit_text [] old new (Ok count) → Shows old new old.now old.now false
  committed count h = (runs_as commit_text [] old new old.now.schema refl Commit (ap command_of (commit_is old.now.schema)) (subst IsPlain (sym (commit_is old.now.schema)) (refl, refl)) count h).1

  commits : (trees : Trees) → CommitsBy commit_text [] old trees → trees ≡ old.now.trees
  unfolding CommitsBy
  commits trees (c, it, may) =
      let same : commit ≡ c = same_value (sym (commit_is old.now.schema) ∙ it.is) in
      which (timed [] [] it.now) (subst (λ (k : Compiled). MayCommit old k.returning k.command (text_of commit_text k) (timed [] k.formats it.now) trees) (sym same) may)
    where
      which : (params : Row) → MayCommit old None Commit (text_of commit_text commit) params trees → trees ≡ old.now.trees
      which params (inl (inl commits, is)) = is
      which params (inl (inr (name, at, release, _, _), _)) = cc
      which params (inr write) = let both = sym inside ∙ write.0 in cc

  pub commits_or_undoes : (r : Result ℕ Error) → Executes commit_text [] old new r → OnOk r (Shows old new old.now old.now false) × OnErr r (IsRolledBack old new)
  commits_or_undoes (Ok count) h = (committed count h, tt)
  commits_or_undoes (Err e) h = (tt, (undone e h).0)

  pub commits_or_wants : (r : Result ℕ Error) → (HasCleanDisk new → Executes commit_text [] old new r) → IfErr r (λ e. IsHealthy new → refusal_of e ≢ Device)
  commits_or_wants (Ok count) h = tt
  commits_or_wants (Err e) h = λ well. no_device e ((undone e (h well.clean)).1 well)

  pub survives_commit : Survives old new (CommitsBy commit_text [] old) → Survives old new (λ trees. trees ≡ old.now.trees)
  survives_commit it = survives_weaker old new (CommitsBy commit_text [] old) (λ trees. trees ≡ old.now.trees) (λ clean trees may. commits trees may) it
