-- What is said of a state, as of a vault and whoever hears, is said of a part of it, as of the vault alone.
use Rattle.std.proofs.Common.{ℕ, ◌≡◌, List, Bool, true, Option, Some, None, Result, Ok, Err, inl, inr, ap}
use Rattle.vault_base.specs.declared.refusal.Refusal.{Refusal}
use Rattle.vault_base.specs.declared.refusal.Refusal.TheVariants as refusal
use Rattle.vault_core.specs.Hearing.{timed}
use Rattle.vault_core_model.specs.declared.command.Command.{Command}
use Rattle.vault_core_model.specs.declared.command.Timed.{Timed}
use Rattle.vault_core_model.specs.declared.reply.Reply.{Reply}
use Rattle.vault_http.specs.Exchange.{Answered, Carrying, HeadJudged, Judged, PlanServed, Said, ServedFor, head_asked_for, is_shown, planned_command}
use Rattle.vault_http.specs.Left.{DeniedLeft, Early, HeadLeft, PlanLeft, Stepped, Unanswered}
use Rattle.vault_http.specs.declared.answer.head.Allow.{Allow}
use Rattle.vault_http.specs.declared.fault.ServeFault.{ServeFault}
use Rattle.vault_http.specs.declared.fault.ServeFault.TheVariants as faults
use Rattle.vault_http_request.specs.declared.plan.HeadPlan.TheVariants as asked
use Rattle.vault_http_request.specs.declared.plan.Plan.{Plan}

module _ {S T : Type 0} (part : S → T) (Carries : Carrying S) (CarriesPart : Carrying T) (each : (s s' : S) (t : Timed) (reply : Reply) → Carries s t reply s' → CarriesPart (part s) t reply (part s')) (old new : S) where
  -- ---- what was answered

  judged : (at : ℕ) (shown : Bool) (who : List ℕ) (j : Result Command Refusal) (out : List ℕ) → Judged Carries at shown who j old out new → Judged CarriesPart at shown who j (part old) out (part new)
  judged at shown who (Ok c) out d = (d.0, each old new (timed at who c) d.0 d.1, d.2)
  judged at shown who (Err r) out d = (ap part d.0, d.1)

  plan_served : (shown : Bool) (plan : Plan) (rest out : List ℕ) → PlanServed Carries shown plan rest old out new → PlanServed CarriesPart shown plan rest (part old) out (part new)
  plan_served shown plan rest out s = (s.0, s.1, judged plan.at shown plan.headers.caller (planned_command plan rest) s.0 s.2)

  head_judged : (moment : Option ℕ) (shown : Bool) (said : Said) (rest out : List ℕ) → HeadJudged Carries moment shown said rest old out new → HeadJudged CarriesPart moment shown said rest (part old) out (part new)
  head_judged moment shown (Ok (asked.Plan plan)) rest out s = plan_served shown plan rest out s
  head_judged moment shown (Ok (asked.NotAllowed r)) rest out s = (ap part s.0, s.1)
  head_judged moment shown (Err r) rest out s = (ap part s.0, s.1)

  served : (hosts : List (List ℕ)) (moment : Option ℕ) (input out : List ℕ) → ServedFor hosts Carries moment input old out new → ServedFor hosts CarriesPart moment input (part old) out (part new)
  served hosts moment input out s = elim s [
    | inl none ↦ inl (none.0, none.1, ap part none.2)
    | inr some ↦ elim some [
      | inl headless ↦ inr (inl (headless.0, headless.1, (ap part headless.2.0, headless.2.1)))
      | inr headed ↦ inr (inr (headed.0, headed.1, headed.2, head_judged moment (is_shown headed.0.method) (head_asked_for hosts moment headed.0) headed.1 out headed.3))
    ]
  ]

  pub answered : (hosts : List (List ℕ)) (moment : Option ℕ) (known before after : Option (List ℕ)) → Answered hosts Carries moment known old new before after → Answered hosts CarriesPart moment known (part old) (part new) before after
  answered hosts moment None before after a = tt
  answered hosts moment (Some input) before after a = (a.0, served hosts moment input a.0 a.1, a.2)

  -- ---- what stands after a fault

  stepped : (at : ℕ) (who : List ℕ) (j : Result Command Refusal) → Stepped Carries at who j old new → Stepped CarriesPart at who j (part old) (part new)
  stepped at who (Ok c) s = (s.0, each old new (timed at who c) s.0 s.1)
  stepped at who (Err r) s = ap part s

  plan_left : (e : ServeFault) (shown : Bool) (plan : Plan) (rest : List ℕ) (unread before after : Option (List ℕ)) → PlanLeft Carries e shown plan rest unread old new before after → PlanLeft CarriesPart e shown plan rest unread (part old) (part new) before after
  plan_left faults.Read shown plan rest unread before after l = (ap part l.0, l.1)
  plan_left faults.Memory shown plan rest unread before after l = elim l [
    | inl early ↦ inl (ap part early.0, early.1)
    | inr late ↦ elim (late.0) [
      | inl same ↦ inr (inl (ap part same), late.1)
      | inr made ↦ inr (inr (stepped plan.at plan.headers.caller (planned_command plan rest) made), late.1)
    ]
  ]
  plan_left faults.Write shown plan rest unread before after l = elim l [
    | inl early ↦ inl (early.0, early.1, ap part early.2, early.3)
    | inr late ↦ inr (late.0, late.1, judged plan.at shown plan.headers.caller (planned_command plan rest) late.0 late.2, late.3, late.4)
  ]

  denied_left : (e : ServeFault) (moment : Option ℕ) (shown : Bool) (r : Refusal) (a : Option Allow) (before after : Option (List ℕ)) → DeniedLeft e moment shown r a old new before after → DeniedLeft e moment shown r a (part old) (part new) before after
  denied_left faults.Read moment shown r a before after l = (ap part l.0, l.1)
  denied_left faults.Memory moment shown r a before after l = (ap part l.0, l.1)
  denied_left faults.Write moment shown r a before after l = (l.0, (ap part l.1.0, l.1.1), l.2)

  head_left : (e : ServeFault) (moment : Option ℕ) (shown : Bool) (said : Said) (rest : List ℕ) (unread before after : Option (List ℕ)) → HeadLeft Carries e moment shown said rest unread old new before after → HeadLeft CarriesPart e moment shown said rest unread (part old) (part new) before after
  head_left e moment shown (Ok (asked.Plan plan)) rest unread before after l = plan_left e shown plan rest unread before after l
  head_left e moment shown (Ok (asked.NotAllowed r)) rest unread before after l = denied_left e moment shown _ _ before after l
  head_left e moment shown (Err r) rest unread before after l = denied_left e moment shown r None before after l

  early_left : (e : ServeFault) (moment : Option ℕ) (input : List ℕ) (before after : Option (List ℕ)) → Early e moment input old new before after → Early e moment input (part old) (part new) before after
  early_left faults.Read moment input before after l = (ap part l.0, l.1)
  early_left faults.Memory moment input before after l = (ap part l.0, l.1)
  early_left faults.Write moment input before after l = (l.0, l.1, denied_left faults.Write moment true refusal.InvalidArgument None before after l.2)

  pub unanswered : (hosts : List (List ℕ)) (e : ServeFault) (moment : Option ℕ) (known unread before after : Option (List ℕ)) → Unanswered hosts Carries e moment known unread old new before after → Unanswered hosts CarriesPart e moment known unread (part old) (part new) before after
  unanswered hosts e moment None unread before after l = tt
  unanswered hosts e moment (Some input) unread before after l = elim l [
    | inl early ↦ inl (early_left e moment input before after early)
    | inr headed ↦ inr (headed.0, headed.1, headed.2, head_left e moment (is_shown headed.0.method) (head_asked_for hosts moment headed.0) headed.1 unread before after headed.3)
  ]
