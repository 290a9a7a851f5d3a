-- ROLLBACK ends a transaction, whatever it answers, and commits nothing.
use Rattle.std.proofs.Common.{◌≡◌, ℕ, ◌≤◌, List, [], length, codes, false, None, Ok, Err, Result, IsTrue, inl, inr, refl, sym, ap, subst, lit≤, ◌∙◌}
use Rattle.sqlite_tied.specs.Compute.{everything}
use Rattle.sqlite_trees.specs.Tree.{Trees}
use Rattle.sqlite_schema.specs.declared.schema.Schema.{Schema}
use Rattle.sqlite_schema.specs.declared.command.Command.TheVariants.{Rollback}
use Rattle.sqlite_resolve.specs.declared.compiled.Compiled.{Compiled}
use Rattle.sqlite_value.specs.Order.{Row}
use Rattle.sqlite.specs.declared.error.Error.{Error}
use Rattle.sqlite.specs.Clock.{timed}
use Rattle.sqlite.specs.Listing.{understood}
use Rattle.sqlite.specs.State.{State, CommitsBy, Executes, ExecutesIn, IsMisplaced, IsNotRun, IsRolledBack, MayCommit, RunsAlone, RunsCommand, text_of}
use Rattle.sqlite.proofs.Callers.{IsPlain, command_of, runs_as}
use Rattle.vault_audit_model.proofs.OutcomeLemmas.{same_value}

abbrev pub rollback_text : List ℕ
rollback_text = codes "ROLLBACK"

abbrev rollback : Compiled
rollback = record { command = Rollback; returning = None; names = []; formats = []; start = 0; end = 8; tail = 8 }

rollback_is : (schema : Schema) → understood schema rollback_text ≡ Ok rollback
unfolding understood everything
rollback_is schema = refl

module _ (old new : State) (inside : IsTrue old.in_transaction) where
  never_misplaced : (e : Error) → ¬ IsMisplaced old Rollback e
  never_misplaced e (inl (_, inl (begin, _))) = cc
  never_misplaced e (inl (_, inr (_, outside))) = let both = sym inside ∙ outside in cc
  never_misplaced e (inr (_, name, inl release, _)) = cc
  never_misplaced e (inr (_, name, inr back, _)) = cc

  if_refused : (e : Error) (params : Row) → RunsCommand old new rollback_text rollback params (Err e) → IsRolledBack old new
  if_refused e params (inl (inl misplaced, _)) = absurd (never_misplaced e misplaced)
  if_refused e params (inl (inr (inl write, _), _)) = absurd write
  if_refused e params (inl (inr (inr shown, _), _)) = absurd (let none = shown in cc)
  if_refused e params (inr fails) = fails.3

  if_not_run : (e : Error) → IsNotRun old new rollback_text [] e → IsRolledBack old new
  unfolding IsNotRun
  if_not_run e (inl (inl (fault, wrong, _), _)) = absurd (let both = sym (rollback_is old.now.schema) ∙ wrong in cc)
  if_not_run e (inl (inr (c, is, why), _)) =
      let same : rollback ≡ c = same_value (sym (rollback_is old.now.schema) ∙ is) in
      absurd (elim why [
        | inl long ↦ (subst (λ (k : Compiled). ¬ (length rollback_text ≤ k.tail)) (sym same) long.0) (lit≤ tt)
        | inr short ↦ elim short [
          | inl given ↦ given.0 (ap (λ (k : Compiled). length k.names) same)
          | inr formats ↦ formats.0 (sym (ap (λ (k : Compiled). k.formats) same))
        ]
      ])
  if_not_run e (inr fails) = fails.3

  pub rolled_back : (r : Result ℕ Error) → Executes rollback_text [] old new r → IsRolledBack old new
  unfolding ExecutesIn
  rolled_back (Ok count) h = (runs_as rollback_text [] old new old.now.schema refl Rollback (ap command_of (rollback_is old.now.schema)) (subst IsPlain (sym (rollback_is old.now.schema)) (refl, refl)) count h).1
  rolled_back (Err e) (inl refused) = if_not_run e refused
  rolled_back (Err e) (inr (c, it, ran)) =
      let same : rollback ≡ c = same_value (sym (rollback_is old.now.schema) ∙ it.is) in
      if_refused e (timed [] [] it.now) (subst (λ (k : Compiled). RunsAlone false old new rollback_text k (timed [] k.formats it.now) (Err e)) (sym same) ran)

  pub never_commits : (trees : Trees) → ¬ CommitsBy rollback_text [] old trees
  unfolding CommitsBy
  never_commits trees (c, it, may) =
      let same : rollback ≡ c = same_value (sym (rollback_is old.now.schema) ∙ it.is) in
      none (timed [] [] it.now) (subst (λ (k : Compiled). MayCommit old k.returning k.command (text_of rollback_text k) (timed [] k.formats it.now) trees) (sym same) may)
    where
      none : (params : Row) → ¬ MayCommit old None Rollback (text_of rollback_text rollback) params trees
      none params (inl (inl commit, _)) = cc
      none params (inl (inr (name, at, release, _, _), _)) = cc
      none params (inr write) = let both = sym inside ∙ write.0 in cc
