-- What stands after a fault, and what was read.
use Rattle.std.specs.Prelude.{ℕ, ◌≡◌, ◌≤◌, ◌<◌, ◌⊎◌, List, [], ◌++◌, length, Bool, true, Option, Some, None, IfSome, Result, Ok, Err}
use Rattle.std.specs.Io.KnownBytes.{Appends, Consumes}
use Rattle.httparse.specs.Grammar.{RequestHead, print_request}
use Rattle.vault_base.specs.declared.refusal.Refusal.{Refusal}
use Rattle.vault_base.specs.declared.refusal.Refusal.TheVariants as refusal
use Rattle.vault_core.specs.Hearing.{timed}
use Rattle.vault_core_model.specs.declared.command.Command.{Command}
use Rattle.vault_core_model.specs.declared.reply.Reply.{Reply}
use Rattle.vault_http.specs.Reply.{AnswersRefusal}
use Rattle.vault_http.specs.declared.answer.head.Allow.{Allow}
use Rattle.vault_http_request.specs.Head.{IsHead, HasNoHead}
use Rattle.vault_http_request.specs.declared.read.bytes.ReadFault.{ReadFault}
use Rattle.vault_http_request.specs.declared.read.bytes.ReadFault.TheVariants as reads
use Rattle.vault_io.specs.Begins.{Begins}
use Rattle.vault_http_request.specs.declared.plan.Plan.{Plan}
use Rattle.vault_http.specs.Command.{IsWithinLength}
use Rattle.vault_http.specs.Exchange.{Carrying, Denied, Judged, OnSaid, Said, go_on, head_asked_for, is_shown, planned_command, interim}
use Rattle.vault_http.specs.declared.fault.ServeFault.{ServeFault}
use Rattle.vault_http.specs.declared.fault.ServeFault.TheVariants as faults

abbrev pub FromRead : ReadFault → ServeFault → Type 0
FromRead reads.Read e = e ≡ faults.Read
FromRead reads.Memory e = e ≡ faults.Memory

-- ---- what stands after a fault

-- what was judged is carried out; of a refusal nothing is
abbrev pub Stepped : {S : Type 0} → Carrying S → ℕ → List ℕ → Result Command Refusal → S → S → Type 0
Stepped Carries at who (Ok c) old new = (reply : Reply) × Carries old (timed at who c) reply new
Stepped Carries at who (Err r) old new = new ≡ old

-- After the body nothing is read any more. Where the answer found no room nothing is written; where writing it failed a beginning of it is. What was judged was carried out.
abbrev pub JudgedLeft : {S : Type 0} → Carrying S → ServeFault → ℕ → Bool → List ℕ → Result Command Refusal → S → S → Option (List ℕ) → Option (List ℕ) → Type 0
JudgedLeft Carries faults.Read at shown who judged old new before after = ⊥
JudgedLeft Carries faults.Memory at shown who judged old new before after = Stepped Carries at who judged old new × (after ≡ before)
JudgedLeft Carries faults.Write at shown who judged old new before after = (out : List ℕ) × Judged Carries at shown who judged old out new × Begins before after out

abbrev pub DenyLeft : ServeFault → Option ℕ → Refusal → Option Allow → Bool → Option (List ℕ) → Option (List ℕ) → Type 0
DenyLeft faults.Read moment r a shown before after = ⊥
DenyLeft faults.Memory moment r a shown before after = after ≡ before
DenyLeft faults.Write moment r a shown before after = (out : List ℕ) × AnswersRefusal moment r a shown out × Begins before after out

-- After Read and Memory no byte of an answer is written, only that a client that waits is to go on; or, where the head found no room, nothing, and no step was made. After Read none was made, after Memory at most that one. After Write 100 Continue failed, nothing of the body was read and no step was made, or the answer failed after a 100 Continue that was written whole, where the client waits, and the vault is as the answer says; what is written is a beginning of that.
abbrev pub PlanLeft : {S : Type 0} → Carrying S → ServeFault → Bool → Plan → List ℕ → Option (List ℕ) → S → S → Option (List ℕ) → Option (List ℕ) → Type 0
PlanLeft Carries faults.Read shown plan rest unread old new before after = (new ≡ old) × Appends before after (interim plan.headers.waits)
PlanLeft Carries faults.Memory shown plan rest unread old new before after =
    ((new ≡ old) × (after ≡ before))
    ⊎ (((new ≡ old) ⊎ Stepped Carries plan.at plan.headers.caller (planned_command plan rest) old new) × Appends before after (interim plan.headers.waits))
PlanLeft Carries faults.Write shown plan rest unread old new before after =
    ((plan.headers.waits ≡ true) × (unread ≡ Some rest) × (new ≡ old) × Begins before after go_on)
    ⊎ ((answer : List ℕ) × (mid : Option (List ℕ)) × Judged Carries plan.at shown plan.headers.caller (planned_command plan rest) old answer new × Appends before mid (interim plan.headers.waits) × Begins mid after answer)

abbrev pub DeniedLeft : {S : Type 0} → ServeFault → Option ℕ → Bool → Refusal → Option Allow → S → S → Option (List ℕ) → Option (List ℕ) → Type 0
DeniedLeft faults.Read moment shown r a old new before after = (new ≡ old) × (after ≡ before)
DeniedLeft faults.Memory moment shown r a old new before after = (new ≡ old) × (after ≡ before)
DeniedLeft faults.Write moment shown r a old new before after = (out : List ℕ) × Denied moment shown r a old out new × Begins before after out

abbrev pub HeadLeft : {S : Type 0} → Carrying S → ServeFault → Option ℕ → Bool → Said → List ℕ → Option (List ℕ) → S → S → Option (List ℕ) → Option (List ℕ) → Type 0
HeadLeft Carries e moment shown said rest unread old new before after =
    OnSaid (λ plan. PlanLeft Carries e shown plan rest unread old new before after) (λ r a. DeniedLeft e moment shown r a old new before after) said

-- before a head was judged: writing fails only where there is none
abbrev pub Early : {S : Type 0} → ServeFault → Option ℕ → List ℕ → S → S → Option (List ℕ) → Option (List ℕ) → Type 0
Early faults.Read moment input old new before after = (new ≡ old) × (after ≡ before)
Early faults.Memory moment input old new before after = (new ≡ old) × (after ≡ before)
Early faults.Write moment input old new before after =
    (0 < length input) × HasNoHead input × DeniedLeft faults.Write moment true refusal.InvalidArgument None old new before after

-- of an input, of which this is unread after it, and of what was written before it and is after it
abbrev pub LeftFor : {S : Type 0} → List (List ℕ) → Carrying S → ServeFault → Option ℕ → List ℕ → Option (List ℕ) → S → S → Option (List ℕ) → Option (List ℕ) → Type 0
LeftFor hosts Carries e moment input unread old new before after =
    Early e moment input old new before after
    ⊎ ((h : RequestHead) × (rest : List ℕ) × IsHead input h rest × HeadLeft Carries e moment (is_shown h.method) (head_asked_for hosts moment h) rest unread old new before after)

-- the same where the input is known
abbrev pub Unanswered : {S : Type 0} → List (List ℕ) → Carrying S → ServeFault → Option ℕ → Option (List ℕ) → Option (List ℕ) → S → S → Option (List ℕ) → Option (List ℕ) → Type 0
Unanswered hosts Carries e moment known unread old new before after =
    IfSome known (λ input. LeftFor hosts Carries e moment input unread old new before after)

-- ---- what was read

-- after a head: nothing where no body belongs to it, else no more than the length of the body
abbrev pub IsBodyTaken : Said → List ℕ → Type 0
IsBodyTaken said taken = OnSaid (λ plan. IsWithinLength plan.headers.length taken) (λ r a. taken ≡ []) said

-- of an input: nothing where there is nothing; without a head no more than a head may have; else the head and what of its body
abbrev pub IsTakenFor : List (List ℕ) → Option ℕ → List ℕ → List ℕ → Type 0
IsTakenFor hosts moment input taken =
    ((input ≡ []) × (taken ≡ []))
    ⊎ ((HasNoHead input × (length taken ≤ 16384))
    ⊎ ((h : RequestHead) × (rest : List ℕ) × (body : List ℕ) × IsHead input h rest × (taken ≡ print_request h ++ body) × IsBodyTaken (head_asked_for hosts moment h) body))

-- the same where the input is known: of what was left before, what was taken until there is this left
abbrev pub Taken : List (List ℕ) → Option ℕ → Option (List ℕ) → Option (List ℕ) → Type 0
Taken hosts moment known left =
    IfSome known (λ input. (taken : List ℕ) × Consumes known left taken × IsTakenFor hosts moment input taken)
