-- On values that aren't such, and on the reading at which a thing was done.
use Rattle.std.proofs.Common.{◌≡◌, ℕ, List, Option, None, Some, Result, Ok, Err, ap, inl, inr, refl, subst}
use Rattle.std.specs.Prelude.{MatchOption, ⊤}
use Rattle.vault_base.specs.declared.refusal.Refusal.{Refusal}
use Rattle.vault_core_model.specs.Vault.{Vault}
use Rattle.vault_values.specs.Fault.{Gives}
use Rattle.vault_values.specs.declared.fault.LineFault.{LineFault}
use Rattle.vault_values.specs.declared.fault.LineFault.TheVariants.{Memory, Refused}
use Rattle.vaultctl_commands.specs.declared.fault.JobFault.{JobFault}
use Rattle.vaultctl_commands.specs.declared.outcome.Outcome.{Outcome}
use Rattle.vaultctl_commands.specs.declared.asked.AskedCommand.{AskedCommand}
use Rattle.vaultctl_work.specs.Asked.{IsDone, IsUnread, IsDoneAt, IsSteady, IsUnreadSteady, IsSteadyAt}

-- a value that isn't such is refused, whatever would be made of the others
pub refused_anyway : {X Y : Type 0} (view : X → Y) (asked : Result X LineFault) (said : Result Y Refusal) (r : Refusal)
    → Gives view asked said → said ≡ Err r → Gives (λ (x : X). x) asked (Err r)
refused_anyway view (Ok x) said r gives is = let no : ⊥ = cc in absurd no
refused_anyway view (Err Memory) said r gives is = tt
refused_anyway view (Err (Refused f)) said r gives is = let same : r ≡ f = cc in ap Err same

-- what is said of the device
module _ (Honest : Type 0) (asked : AskedCommand) (v v' : Vault) (n n' : ℕ) (result : Result Outcome JobFault) (before after : Option (List ℕ)) where
  pub steady_at : (given : Option ℕ) (at : ℕ) → ((t : ℕ) → given ≡ Some t → Some at ≡ Some t) → IsSteady Honest at asked v v' n n' result before after → IsSteadyAt Honest given asked v v' n n' result before after
  steady_at None at same s = inl (at, s)
  steady_at (Some t) at same s = subst (λ (o : Option ℕ). IsSteadyAt Honest o asked v v' n n' result before after) (same t refl) s

  pub unread_steady_at : (given : Option ℕ) → ((t : ℕ) → given ≡ Some t → None ≡ Some t) → IsUnreadSteady v v' n n' result before after → IsSteadyAt Honest given asked v v' n n' result before after
  unread_steady_at None same u = inr u
  unread_steady_at (Some t) same u = absurd (subst (λ (o : Option ℕ). MatchOption o ⊤ (λ _. ⊥)) (same t refl) tt)

  -- where the device has returned what was written, that is what was done
  pub done_honestly : Honest → (given : Option ℕ) → IsSteadyAt Honest given asked v v' n n' result before after → IsDoneAt given asked v v' result before after
  done_honestly h (Some at) s = (s.0, s.1 h, s.2)
  done_honestly h None (inl s) = inl (s.0, (s.1.0, s.1.1 h, s.1.2))
  done_honestly h None (inr u) = inr u.1
