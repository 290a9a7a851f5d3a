-- On what is written for a plan, and what a fault leaves of it.
use Rattle.std.proofs.Common.{ℕ, ◌≡◌, ◌++◌, List, Bool, Option, Some, None, IfSome, IfErr, OnOk, Result, Ok, Err, inr, refl, sym, subst}
use Rattle.std.specs.Io.KnownBytes.{Appends}
use Rattle.std.proofs.KnownBytes.{Appends-trans}
use Rattle.vault_base.specs.declared.refusal.Refusal.{Refusal}
use Rattle.vault_core.specs.Hearing.{timed}
use Rattle.vault_core_model.specs.declared.command.Command.{Command}
use Rattle.vault_core_model.specs.declared.reply.Reply.{Reply}
use Rattle.vault_http_request.specs.declared.plan.Plan.{Plan}
use Rattle.vault_http.specs.Exchange.{Carrying, interim, planned_command, Judged, PlanServed}
use Rattle.vault_http.specs.Left.{DenyLeft, JudgedLeft, PlanLeft, Stepped}
use Rattle.vault_http.specs.Steady.{ReplySent}
use Rattle.vault_http.specs.declared.fault.ServeFault.{ServeFault}
use Rattle.vault_http.specs.declared.fault.ServeFault.TheVariants as faults

-- the answer to a refusal of the body failed
pub deny_judged : {S : Type 0} (Carries : Carrying S) (e : ServeFault) (at : ℕ) (shown : Bool) (who : List ℕ) (r : Refusal) (old new : S) (a b : Option (List ℕ)) → new ≡ old → DenyLeft e (Some at) r None shown a b → JudgedLeft Carries e at shown who (Err r) old new a b
deny_judged Carries faults.Read at shown who r old new a b same d = absurd d
deny_judged Carries faults.Memory at shown who r old new a b same d = (same, d)
deny_judged Carries faults.Write at shown who r old new a b same d = (d.0, (same, d.1), d.2)

-- a command was carried out, and its reply answered, or a beginning of that
module _ {S : Type 0} (Carries : Carrying S) (at : ℕ) (shown : Bool) (who : List ℕ) (c : Command) (old new : S) (a b : Option (List ℕ)) where
  pub carried_ok : (result : Result (Unit {0}) ServeFault) → ((reply : Reply) × Carries old (timed at who c) reply new × ReplySent result at c shown reply a b) → OnOk result ((out : List ℕ) × Judged Carries at shown who (Ok c) old out new × Appends a b out)
  carried_ok (Ok t) d = (d.2.0, (d.0, d.1, d.2.1), d.2.2)
  carried_ok (Err e) d = tt

  pub carried_left : (result : Result (Unit {0}) ServeFault) → ((reply : Reply) × Carries old (timed at who c) reply new × ReplySent result at c shown reply a b) → IfErr result (λ e. JudgedLeft Carries e at shown who (Ok c) old new a b)
  carried_left (Ok t) d = tt
  carried_left (Err faults.Read) d = absurd d.2
  carried_left (Err faults.Write) d = (d.2.0, (d.0, d.1, d.2.1), d.2.2)
  carried_left (Err faults.Memory) d = ((d.0, d.1), d.2)

module _ {S : Type 0} (Carries : Carrying S) (shown : Bool) (plan : Plan) (old new : S) where
  -- what a reader has left makes this command, or none
  abbrev pub Gives : Option (List ℕ) → Result Command Refusal → Type 0
  Gives left judged = IfSome left (λ rest. judged ≡ planned_command plan rest)

  -- what was judged was answered
  pub plan_served : (left a b c : Option (List ℕ)) (judged : Result Command Refusal) → Gives left judged → Appends a b (interim plan.headers.waits) → ((out : List ℕ) × Judged Carries plan.at shown plan.headers.caller judged old out new × Appends b c out)
      → IfSome left (λ rest. (out : List ℕ) × PlanServed Carries shown plan rest old out new × Appends a c out)
  plan_served None a b c judged gives p d = tt
  plan_served (Some rest) a b c judged gives p d =
      (interim plan.headers.waits ++ d.0, (d.0, refl, subst (λ (j : Result Command Refusal). Judged Carries plan.at shown plan.headers.caller j old d.0 new) gives d.1), Appends-trans a b c (interim plan.headers.waits) d.0 p d.2)

  judged_left : (unread a b c : Option (List ℕ)) (e : ServeFault) (judged : Result Command Refusal) (rest : List ℕ) → judged ≡ planned_command plan rest → Appends a b (interim plan.headers.waits)
      → JudgedLeft Carries e plan.at shown plan.headers.caller judged old new b c → PlanLeft Carries e shown plan rest unread old new a c
  judged_left unread a b c faults.Read judged rest is p d = absurd d
  judged_left unread a b c faults.Memory judged rest is p d =
      inr (inr (subst (λ (j : Result Command Refusal). Stepped Carries plan.at plan.headers.caller j old new) is d.0), subst (λ (w : Option (List ℕ)). Appends a w (interim plan.headers.waits)) (sym d.1) p)
  judged_left unread a b c faults.Write judged rest is p d =
      inr (d.0, b, subst (λ (j : Result Command Refusal). Judged Carries plan.at shown plan.headers.caller j old d.0 new) is d.1, p, d.2)

  -- its answer failed
  pub plan_left : (left unread a b c : Option (List ℕ)) (e : ServeFault) (judged : Result Command Refusal) → Gives left judged → Appends a b (interim plan.headers.waits)
      → JudgedLeft Carries e plan.at shown plan.headers.caller judged old new b c → IfSome left (λ rest. PlanLeft Carries e shown plan rest unread old new a c)
  plan_left None unread a b c e judged gives p d = tt
  plan_left (Some rest) unread a b c e judged gives p d = judged_left unread a b c e judged rest gives p d
