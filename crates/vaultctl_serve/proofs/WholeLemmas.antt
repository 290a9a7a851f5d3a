-- Nothing changes unless a whole request came.
use Rattle.std.proofs.Common.{◌≡◌, ◌⊎◌, ℕ, List, [], Bool, true, Option, None, Some, IfSome, IsSome, Result, Ok, Err, IfErr, OnOk, refl, inl, inr}
use Rattle.vault_base.specs.declared.refusal.Refusal.{Refusal}
use Rattle.vault_base.specs.declared.refusal.Refusal.TheVariants as refusal
use Rattle.vault_core_model.specs.Vault.{Vault}
use Rattle.vault_core_model.specs.declared.command.Timed.{Timed}
use Rattle.vault_core_model.specs.declared.reply.Reply.{Reply}
use Rattle.vault_http.specs.Command.{body_of, command_of_body}
use Rattle.vault_http.specs.Exchange.{Answered, Carrying, HeadJudged, Judged, ServedFor, head_asked_for, is_shown}
use Rattle.vault_http.specs.Left.{DeniedLeft, Early, HeadLeft, LeftFor, PlanLeft, Stepped, Unanswered}
use Rattle.vault_http.specs.declared.answer.head.Allow.{Allow}
use Rattle.vault_http.specs.declared.fault.ServeFault.{ServeFault}
use Rattle.vault_http.specs.declared.fault.ServeFault.TheVariants as faults
use Rattle.vault_http_request.specs.declared.operation.Operation.{Operation}
use Rattle.vault_http_request.specs.declared.plan.HeadPlan.{HeadPlan}
use Rattle.vault_http_request.specs.declared.plan.HeadPlan.TheVariants as asked
use Rattle.vault_http_request.specs.declared.plan.Plan.{Plan}
use Rattle.vault_http_request.specs.declared.request_headers.Locks.{Locks}
use Rattle.vault_http.proofs.StateLemmas.{answered, unanswered}
use Rattle.vaultctl_serve.specs.Whole.{IsBodyWhole, WaitsForAll}

module _ (Carries : Carrying Vault) (at : ℕ) (shown : Bool) (who : List ℕ) (operation : Operation) (locks : Locks) (old new : Vault) where
  -- a body that is cut makes no command
  judged-whole : (body : Option (List ℕ)) (out : List ℕ) → Judged Carries at shown who (command_of_body operation locks body) old out new → (new ≡ old) ⊎ IsSome body
  judged-whole None out judged = inl judged.0
  judged-whole (Some bytes) out judged = inr refl

  stepped-whole : (body : Option (List ℕ)) → Stepped Carries at who (command_of_body operation locks body) old new → (new ≡ old) ⊎ IsSome body
  stepped-whole None stepped = inl stepped
  stepped-whole (Some bytes) stepped = inr refl

module _ (Carries : Carrying Vault) (moment : Option ℕ) (shown : Bool) (rest : List ℕ) (old new : Vault) where
  head-whole : (said : Result HeadPlan Refusal) (out : List ℕ) → HeadJudged Carries moment shown said rest old out new → (new ≡ old) ⊎ IsBodyWhole said rest
  head-whole (Ok (asked.Plan plan)) out served =
      judged-whole Carries plan.at shown plan.headers.caller plan.operation plan.headers.locks old new (body_of plan.headers.length rest) served.0 served.2
  head-whole (Ok (asked.NotAllowed r)) out served = inl served.0
  head-whole (Err r) out served = inl served.0

  plan-left-whole : (e : ServeFault) (plan : Plan) (unread before after : Option (List ℕ)) → PlanLeft Carries e shown plan rest unread old new before after → (new ≡ old) ⊎ IsSome (body_of plan.headers.length rest)
  plan-left-whole faults.Read plan unread before after left = inl left.0
  plan-left-whole faults.Memory plan unread before after left = elim left [
    | inl early ↦ inl early.0
    | inr late ↦ elim (late.0) [
      | inl same ↦ inl same
      | inr stepped ↦ stepped-whole Carries plan.at shown plan.headers.caller plan.operation plan.headers.locks old new (body_of plan.headers.length rest) stepped
    ]
  ]
  plan-left-whole faults.Write plan unread before after left = elim left [
    | inl early ↦ inl early.2
    | inr late ↦ judged-whole Carries plan.at shown plan.headers.caller plan.operation plan.headers.locks old new (body_of plan.headers.length rest) late.0 late.2
  ]

  pub denied-left-same : (e : ServeFault) (r : Refusal) (allow : Option Allow) (before after : Option (List ℕ)) → DeniedLeft e moment shown r allow old new before after → new ≡ old
  denied-left-same faults.Read r allow before after left = left.0
  denied-left-same faults.Memory r allow before after left = left.0
  denied-left-same faults.Write r allow before after left = left.1.0

  head-left-whole : (e : ServeFault) (said : Result HeadPlan Refusal) (unread before after : Option (List ℕ)) → HeadLeft Carries e moment shown said rest unread old new before after → (new ≡ old) ⊎ IsBodyWhole said rest
  head-left-whole e (Ok (asked.Plan plan)) unread before after left = plan-left-whole e plan unread before after left
  head-left-whole e (Ok (asked.NotAllowed r)) unread before after left = inr tt
  head-left-whole e (Err r) unread before after left = inr tt

module _ (hosts : List (List ℕ)) (Carries : Carrying Vault) (moment : Option ℕ) (input : List ℕ) (old new : Vault) where
  pub early-same : (e : ServeFault) (before after : Option (List ℕ)) → Early e moment input old new before after → new ≡ old
  early-same faults.Read before after early = early.0
  early-same faults.Memory before after early = early.0
  early-same faults.Write before after early = denied-left-same Carries moment true [] old new faults.Write refusal.InvalidArgument None before after early.2

  pub Served-whole : (out : List ℕ) → ServedFor hosts Carries moment input old out new → WaitsForAll hosts moment input old new
  Served-whole out served = elim served [
    | inl nothing ↦ inl nothing.2
    | inr some ↦ elim some [
      | inl headless ↦ inl headless.2.0
      | inr headed ↦ elim (head-whole Carries moment (is_shown headed.0.method) headed.1 old new (head_asked_for hosts moment headed.0) out headed.3) [
        | inl same ↦ inl same
        | inr whole ↦ inr (headed.0, headed.1, headed.2, whole)
      ]
    ]
  ]

  pub Left-whole : (e : ServeFault) (unread before after : Option (List ℕ)) → LeftFor hosts Carries e moment input unread old new before after → WaitsForAll hosts moment input old new
  Left-whole e unread before after left = elim left [
    | inl early ↦ inl (early-same e before after early)
    | inr headed ↦ elim (head-left-whole Carries moment (is_shown headed.0.method) headed.1 old new e (head_asked_for hosts moment headed.0) unread before after headed.3) [
      | inl same ↦ inl same
      | inr whole ↦ inr (headed.0, headed.1, headed.2, whole)
    ]
  ]

-- of a request that was served, or wasn't to its end
pub waits-for-all : (hosts : List (List ℕ)) (Carries : Carrying Vault) (moment : Option ℕ) (known : Option (List ℕ)) (old new : Vault) (before after : Option (List ℕ)) (r : Result (Unit {0}) ServeFault)
    → OnOk r (Answered hosts Carries moment known old new before after)
    → IfErr r (λ e. (unread : Option (List ℕ)) × Unanswered hosts Carries e moment known unread old new before after)
    → IfSome known (λ input. WaitsForAll hosts moment input old new)
waits-for-all hosts Carries moment None old new before after r ok err = tt
waits-for-all hosts Carries moment (Some input) old new before after (Ok t) ok err = Served-whole hosts Carries moment input old new ok.0 ok.1
waits-for-all hosts Carries moment (Some input) old new before after (Err e) ok err = Left-whole hosts Carries moment input old new e err.0 before after err.1

-- what is said of a vault and whoever hears is said of the vault
pub vaults-alone : {J : Type 0} (Heard : Carrying (Vault × J)) (Carries : Carrying Vault) → ((s s' : Vault × J) (t : Timed) (reply : Reply) → Heard s t reply s' → Carries s.0 t reply s'.0)
    → (old new : Vault × J) (hosts : List (List ℕ)) (moment : Option ℕ) (known before after : Option (List ℕ)) (r : Result (Unit {0}) ServeFault)
    → OnOk r (Answered hosts Heard moment known old new before after) → IfErr r (λ e. (unread : Option (List ℕ)) × Unanswered hosts Heard e moment known unread old new before after)
    → OnOk r (Answered hosts Carries moment known old.0 new.0 before after) × IfErr r (λ e. (unread : Option (List ℕ)) × Unanswered hosts Carries e moment known unread old.0 new.0 before after)
vaults-alone {J} Heard Carries each old new hosts moment known before after (Ok t) ok err = (answered {S = Vault × J} {T = Vault} (λ s. s.0) Heard Carries each old new hosts moment known before after ok, tt)
vaults-alone {J} Heard Carries each old new hosts moment known before after (Err e) ok err = (tt, (err.0, unanswered {S = Vault × J} {T = Vault} (λ s. s.0) Heard Carries each old new hosts e moment known err.0 before after err.1))
