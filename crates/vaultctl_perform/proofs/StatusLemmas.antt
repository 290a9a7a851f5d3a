-- On exit statuses.
use Rattle.std.proofs.Common.{◌≡◌, ◌⊎◌, Result, Ok, Err, inl, inr, refl}
use Rattle.std.specs.Prelude.{IfOk, OnOk, OnErr}
use Rattle.vaultctl_commands.specs.declared.fault.JobFault.{JobFault}
use Rattle.vaultctl_commands.specs.declared.outcome.Outcome.{Outcome}
use Rattle.vaultctl_commands.specs.declared.outcome.Outcome.TheVariants.{Done, Refused}
use Rattle.vaultctl_machine.specs.declared.open_error.OpenError.{OpenError}
use Rattle.vaultctl_perform.specs.Status.{made_status, status_of}

-- status 0 is that of a job that was done, of which holds what holds of all outcomes
pub done_at_zero : (P : Outcome → Type 0) (outcome : Result Outcome JobFault) → IfOk outcome P → status_of outcome ≡ 0 → P Done
done_at_zero P (Ok Done) p z = p
done_at_zero P (Ok Refused) p z = absurd (cc)
done_at_zero P (Err fault) p z = absurd (cc)

-- status 2 is that of no outcome
pub never_two : (outcome : Result Outcome JobFault) → status_of outcome ≡ 2 → ⊥
never_two (Ok Done) two = cc
never_two (Ok Refused) two = cc
never_two (Err fault) two = cc

-- one of two things came of a step that was tried, and one of two things was said of it
pub either_way : (A B C D : Type 0) (step : Result (Unit {0}) OpenError) → OnOk step A → OnErr step B → OnOk step C → OnErr step D → (A × C) ⊎ (B × D)
either_way A B C D (Ok done) a b c d = inl (a, c)
either_way A B C D (Err cause) a b c d = inr (b, d)

-- a vault that was made, or none
pub made_or_none : (A B : Type 0) (made : Result (Unit {0}) OpenError) → OnOk made A → OnErr made B
    → (outcome : Result Outcome JobFault) × (made_status made ≡ status_of outcome) × (((outcome ≡ Ok Done) × A) ⊎ ((outcome ≡ Ok Refused) × B))
made_or_none A B (Ok done) a b = (Ok Done, refl, inl (refl, a))
made_or_none A B (Err cause) a b = (Ok Refused, refl, inr (refl, b))
