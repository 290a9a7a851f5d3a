-- What a call makes of the keeper, of whoever hears of commands, and of the reader and the writer that it is given: what Exchange, Left and Steady say, of what these are before it and after it. Each speaks of steps while the device has returned what was written.
use Rattle.std.specs.Prelude.{ℕ, List, Bool, IsTrue, Option, IfSome, Result, IfErr, OnOk}
use Rattle.std.specs.Io.KnownBytes.{Appends}
use Rattle.std.specs.declared.io.Read.{Ghosts as Reading}
use Rattle.std.specs.declared.io.Write.{Ghosts as Writing}
use Rattle.vault_base.specs.declared.refusal.Refusal.{Refusal}
use Rattle.vault_core.specs.Hearing.{timed}
use Rattle.vault_core_model.specs.Halts.{is_device_reply}
use Rattle.vault_core_model.specs.Leaves.{RoseOrIsFull}
use Rattle.vault_core_model.specs.LeavesMany.{LeavesSteady}
use Rattle.vault_core_model.specs.Step.{IsStep}
use Rattle.vault_core_model.specs.Vault.{Vault}
use Rattle.vault_core_model.specs.declared.command.Command.{Command}
use Rattle.vault_core_model.specs.declared.command.Timed.{Timed}
use Rattle.vault_core_model.specs.declared.kept.Kept.{Ghosts}
use Rattle.vault_core_model.specs.declared.reply.Reply.{Reply}
use Rattle.vault_http.specs.Exchange.{Answered, Carrying, Judged, PlanServed}
use Rattle.vault_http.specs.Left.{JudgedLeft, PlanLeft, Unanswered}
use Rattle.vault_http.specs.Steady.{JudgedSteady, ReplySent, Steady}
use Rattle.vault_http.specs.declared.carrying.RequestContext.{RequestContext}
use Rattle.vault_http.specs.declared.fault.ServeFault.{ServeFault}
use Rattle.vault_http_request.specs.declared.plan.Plan.{Plan}

module _ {K : Type 0} (g : Ghosts K) (old new : K) where
  -- A command is a step with its reply; that the device failed is replied only where the keeper's count of failures rose in the call, or stands at its greatest value.
  abbrev pub Steps : Carrying Vault
  Steps v t reply v' = IsStep v t.at t.who t.command reply v' × (IsTrue (is_device_reply reply) → RoseOrIsFull (g.count old) (g.count new))

  -- and whoever hears of commands heard of it, with that reply
  abbrev pub StepsHeard : {J : Type 0} → (J → Timed → Reply → J → Type 0) → Carrying (Vault × J)
  StepsHeard hears s t reply s' = Steps s.0 t reply s'.0 × hears s.1 t reply s'.1

module _ {K : Type 0} (g : Ghosts K) (old new : K) {J : Type 0} (hears : J → Timed → Reply → J → Type 0) (j j' : J) {W : Type 0} (w : Writing W) (before after : W) (result : Result (Unit {0}) ServeFault) where
  -- a command was carried out and heard of, and its reply answered; or a beginning of the answer was written, or nothing for want of room
  abbrev pub CarriedBy : RequestContext → Command → Type 0
  CarriedBy context c =
      g.is_honest new → (reply : Reply) × StepsHeard g old new hears (g.vault old, j) (timed context.at context.caller c) reply (g.vault new, j') × ReplySent result context.at c context.shown reply (w.contents before) (w.contents after)

  -- what was judged was carried out or refused, and the answer was written
  abbrev pub JudgedBy : RequestContext → Result Command Refusal → Type 0
  JudgedBy context judged =
      g.is_honest new → OnOk result ((out : List ℕ) × Judged (StepsHeard g old new hears) context.at context.shown context.caller judged (g.vault old, j) out (g.vault new, j') × Appends (w.contents before) (w.contents after) out)

  -- what is left after a fault
  abbrev pub JudgedLeftBy : RequestContext → Result Command Refusal → Type 0
  JudgedLeftBy context judged =
      g.is_honest new → IfErr result (λ e. JudgedLeft (StepsHeard g old new hears) e context.at context.shown context.caller judged (g.vault old, j) (g.vault new, j') (w.contents before) (w.contents after))

module _ {K : Type 0} (g : Ghosts K) (old new : K) {W : Type 0} (w : Writing W) (before after : W) (result : Result (Unit {0}) ServeFault) where
  -- what the keeper is left as, and what was answered where its count of failures rose
  abbrev pub JudgedLeavesBy : RequestContext → Result Command Refusal → Type 0
  JudgedLeavesBy context judged =
      LeavesSteady g old new (JudgedSteady (g.is_honest new) result context.at context.shown context.caller judged (g.vault old) (g.vault new) (g.count old) (g.count new) (w.contents before) (w.contents after))

  -- the same of a request
  abbrev pub LeavesBy : Option ℕ → Type 0
  LeavesBy moment =
      LeavesSteady g old new (Steady (g.is_honest new) result moment (g.vault old) (g.vault new) (g.count old) (g.count new) (w.contents before) (w.contents after))

module _ {K : Type 0} (g : Ghosts K) (old new : K) {J : Type 0} (hears : J → Timed → Reply → J → Type 0) (j j' : J) {R : Type 0} (r : Reading R) (input unread : R) {W : Type 0} (w : Writing W) (before after : W) (result : Result (Unit {0}) ServeFault) where
  -- a plan was served with what comes after its head, where that is known, and the answer was written
  abbrev pub PlanServedBy : Bool → Plan → Type 0
  PlanServedBy shown plan =
      g.is_honest new → OnOk result (IfSome (r.remaining input) (λ rest. (out : List ℕ) × PlanServed (StepsHeard g old new hears) shown plan rest (g.vault old, j) out (g.vault new, j') × Appends (w.contents before) (w.contents after) out))

  -- what is left after a fault
  abbrev pub PlanLeftBy : Bool → Plan → Type 0
  PlanLeftBy shown plan =
      g.is_honest new → IfErr result (λ e. IfSome (r.remaining input) (λ rest. PlanLeft (StepsHeard g old new hears) e shown plan rest (r.remaining unread) (g.vault old, j) (g.vault new, j') (w.contents before) (w.contents after)))

  -- a request was answered, at a server that answers for these hosts; where there are none, for any
  abbrev pub AnsweredBy : List (List ℕ) → Option ℕ → Type 0
  AnsweredBy hosts moment =
      g.is_honest new → OnOk result (Answered hosts (StepsHeard g old new hears) moment (r.remaining input) (g.vault old, j) (g.vault new, j') (w.contents before) (w.contents after))

  -- what is left after a fault
  abbrev pub UnansweredBy : List (List ℕ) → Option ℕ → Type 0
  UnansweredBy hosts moment =
      g.is_honest new → IfErr result (λ e. Unanswered hosts (StepsHeard g old new hears) e moment (r.remaining input) (r.remaining unread) (g.vault old, j) (g.vault new, j') (w.contents before) (w.contents after))
