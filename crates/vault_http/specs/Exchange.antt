-- Which bytes are the answer to which request, and what the request does with the vault.
use Rattle.std.specs.Prelude.{ℕ, ◌≡◌, ◌<◌, ◌⊎◌, List, [], ◌∷◌, ◌++◌, length, map, take, codes, Bool, true, false, not, Option, Some, None, IfSome, Result, Ok, Err, if◌then◌else◌}
use Rattle.std.specs.Io.KnownBytes.{Appends}
use Rattle.httparse.specs.Grammar.{RequestHead}
use Rattle.httparse.specs.Spans.{name_and_value, header_bytes}
use Rattle.httparse.specs.declared.spans.HeaderSpan.{HeaderSpan}
use Rattle.httparse.specs.declared.spans.RequestSpans.{RequestSpans}
use Rattle.vault_base.specs.declared.refusal.Refusal.{Refusal}
use Rattle.vault_base.specs.declared.refusal.Refusal.TheVariants as refusal
use Rattle.vault_core.specs.Hearing.{timed}
use Rattle.vault_core_model.specs.declared.command.Command.{Command}
use Rattle.vault_core_model.specs.declared.command.Command.TheVariants as command
use Rattle.vault_core_model.specs.declared.command.Timed.{Timed}
use Rattle.vault_core_model.specs.declared.reply.Reply.{Reply}
use Rattle.vault_http.specs.Reply.{AnswersRefusal, AnswersReply}
use Rattle.vault_http.specs.declared.answer.head.Allow.{Allow}
use Rattle.vault_http.specs.declared.answer.head.Allow.TheVariants as allow
use Rattle.vault_http_request.specs.Head.{IsHead, HasNoHead}
use Rattle.vault_http_request.specs.Host.{is_for}
use Rattle.vault_http_request.specs.Operation.{is_head}
use Rattle.vault_http_request.specs.Plan.{asked_in, asked_of}
use Rattle.vault_http_target.specs.Fields.{Fields}
use Rattle.vault_http_request.specs.declared.operation.Resource.{Resource}
use Rattle.vault_http_request.specs.declared.operation.Resource.TheVariants as resource
use Rattle.vault_http_request.specs.declared.plan.HeadPlan.{HeadPlan}
use Rattle.vault_http_request.specs.declared.plan.HeadPlan.TheVariants as asked
use Rattle.vault_http_request.specs.declared.plan.Plan.{Plan}
use Rattle.vault_http.specs.Command.{command_after}

-- ---- commands and refusals

-- the rules of a bucket go, and there is nothing to say
abbrev pub drops : Command → Bool
drops (command.DropRules c) = true
drops _ = false

-- how commands are carried out: a state, a command with its reading and caller, its reply, the state after it
abbrev pub Carrying : Type 0 → Type 1
Carrying S = S → Timed → Reply → S → Type 0

-- A command is carried out, and its reply answered. Here and below a state is a vault, or it and whoever hears of commands.
abbrev pub Done : {S : Type 0} → Carrying S → ℕ → Bool → List ℕ → Command → S → List ℕ → S → Type 0
Done Carries at shown who c old out new =
    (reply : Reply) × Carries old (timed at who c) reply new × AnswersReply (Some at) (drops c) reply shown out

-- a refusal is answered, and nothing is carried out
abbrev pub Denied : {S : Type 0} → Option ℕ → Bool → Refusal → Option Allow → S → List ℕ → S → Type 0
Denied moment shown r a old out new = (new ≡ old) × AnswersRefusal moment r a shown out

abbrev pub Judged : {S : Type 0} → Carrying S → ℕ → Bool → List ℕ → Result Command Refusal → S → List ℕ → S → Type 0
Judged Carries at shown who (Ok c) old out new = Done Carries at shown who c old out new
Judged Carries at shown who (Err r) old out new = Denied (Some at) shown r None old out new

-- ---- a head, and what comes after it

-- HTTP/1.1 100 Continue and a blank line
abbrev pub go_on : List ℕ
go_on = codes "HTTP/1.1 100 Continue" ++ (13 ∷ 10 ∷ 13 ∷ 10 ∷ [])

-- what is written before the body is read
abbrev pub interim : Bool → List ℕ
interim waits = if waits then go_on else []

-- the command of a plan and of what comes after its head
abbrev pub planned_command : Plan → List ℕ → Result Command Refusal
planned_command plan rest = command_after plan.operation plan.headers.locks plan.headers.length rest

-- what is written for a plan and what comes after its head
abbrev pub PlanServed : {S : Type 0} → Carrying S → Bool → Plan → List ℕ → S → List ℕ → S → Type 0
PlanServed Carries shown plan rest old out new =
    (answer : List ℕ) × (out ≡ interim plan.headers.waits ++ answer) × Judged Carries plan.at shown plan.headers.caller (planned_command plan rest) old answer new

-- which methods a target has
abbrev pub allow_of : Resource → Allow
allow_of resource.Object = allow.Object
allow_of resource.Setting = allow.Setting
allow_of resource.Bucket = allow.Bucket
allow_of resource.Versions = allow.Versions
allow_of resource.Lifecycle = allow.Lifecycle

-- what a head asks for, or why it is refused
abbrev pub Said : Type 0
Said = Result HeadPlan Refusal

-- a head asks for a plan, or is refused, with the methods that its target has where it hasn't this one
abbrev pub OnSaid : (Plan → Type 0) → (Refusal → Option Allow → Type 0) → Said → Type 0
OnSaid planned denied (Ok (asked.Plan plan)) = planned plan
OnSaid planned denied (Ok (asked.NotAllowed r)) = denied refusal.MethodNotAllowed (Some (allow_of r))
OnSaid planned denied (Err r) = denied r None

-- what is written for what a head asks for
abbrev pub HeadJudged : {S : Type 0} → Carrying S → Option ℕ → Bool → Said → List ℕ → S → List ℕ → S → Type 0
HeadJudged Carries moment shown said rest old out new =
    OnSaid (λ plan. PlanServed Carries shown plan rest old out new) (λ r a. Denied moment shown r a old out new) said

-- an answer to HEAD shows no body
abbrev pub is_shown : List ℕ → Bool
is_shown method = not (is_head method)

-- what a head asks for
abbrev pub head_asked : Option ℕ → RequestHead → Result HeadPlan Refusal
head_asked moment h = asked_of moment h.method h.target h.minor (map name_and_value h.fields)

-- a head with these headers is refused where it is for none of the hosts
abbrev pub asked_for : List (List ℕ) → Fields → Said → Said
asked_for hosts fields said = if is_for hosts fields then said else Err refusal.InvalidArgument

-- what a head asks for at a server that answers for these hosts; where there are none, for any
abbrev pub head_asked_for : List (List ℕ) → Option ℕ → RequestHead → Said
head_asked_for hosts moment h = asked_for hosts (map name_and_value h.fields) (head_asked moment h)

-- what is written for a head and what comes after it
abbrev pub HeadServed : {S : Type 0} → List (List ℕ) → Carrying S → Option ℕ → RequestHead → List ℕ → S → List ℕ → S → Type 0
HeadServed hosts Carries moment h rest old out new = HeadJudged Carries moment (is_shown h.method) (head_asked_for hosts moment h) rest old out new

-- ---- requests

-- what is written for an input, where these hosts are answered for: nothing for nothing, a refusal where there is no head, else the answer of its head
abbrev pub ServedFor : {S : Type 0} → List (List ℕ) → Carrying S → Option ℕ → List ℕ → S → List ℕ → S → Type 0
ServedFor hosts Carries moment input old out new =
    ((input ≡ []) × (out ≡ []) × (new ≡ old))
    ⊎ (((0 < length input) × HasNoHead input × Denied moment true refusal.InvalidArgument None old out new)
    ⊎ ((h : RequestHead) × (rest : List ℕ) × IsHead input h rest × HeadServed hosts Carries moment h rest old out new))

-- what is written for an input where it is known
abbrev pub Answered : {S : Type 0} → List (List ℕ) → Carrying S → Option ℕ → Option (List ℕ) → S → S → Option (List ℕ) → Option (List ℕ) → Type 0
Answered hosts Carries moment known old new before after =
    IfSome known (λ input. (out : List ℕ) × ServedFor hosts Carries moment input old out new × Appends before after out)

-- the parts of a head where they lie in a buffer
abbrev pub spans_asked : List (List ℕ) → Option ℕ → List ℕ → List HeaderSpan → RequestSpans → Said
spans_asked hosts moment buf headers spans = asked_for hosts (map (header_bytes buf) (take spans.headers headers)) (asked_in moment buf headers spans)
