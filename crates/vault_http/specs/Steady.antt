-- What is answered where the count of the keeper's failures rose.
use Rattle.std.specs.Prelude.{ℕ, ◌≡◌, ◌⊎◌, List, Bool, IsTrue, Option, Some, Result, Ok, Err}
use Rattle.std.specs.Io.KnownBytes.{Appends}
use Rattle.vault_base.specs.declared.refusal.Refusal.{Refusal}
use Rattle.vault_core_model.specs.Halts.{is_device_reply}
use Rattle.vault_core_model.specs.Step.{IsStep}
use Rattle.vault_core_model.specs.Vault.{Vault}
use Rattle.vault_core_model.specs.declared.command.Command.{Command}
use Rattle.vault_core_model.specs.declared.reply.Reply.{Reply}
use Rattle.vault_http.specs.Reply.{AnswersReply}
use Rattle.vault_io.specs.Begins.{Begins}
use Rattle.vault_http.specs.Exchange.{drops, interim}
use Rattle.vault_http.specs.declared.fault.ServeFault.{ServeFault}
use Rattle.vault_http.specs.declared.fault.ServeFault.TheVariants as faults

-- The reply to a command, given at a moment, is answered. A writer that fails leaves a beginning of the answer, and want of room for it nothing.
abbrev pub ReplySent : Result (Unit {0}) ServeFault → ℕ → Command → Bool → Reply → Option (List ℕ) → Option (List ℕ) → Type 0
ReplySent (Ok t) at c shown reply before after = (out : List ℕ) × AnswersReply (Some at) (drops c) reply shown out × Appends before after out
ReplySent (Err faults.Read) at c shown reply before after = ⊥
ReplySent (Err faults.Write) at c shown reply before after = (out : List ℕ) × AnswersReply (Some at) (drops c) reply shown out × Begins before after out
ReplySent (Err faults.Memory) at c shown reply before after = after ≡ before

-- The count of failures is as it was; or the command was carried out, its reply says that the device failed, and that is what is answered. Here and below Honest says that the device has returned what was written; what is said of a step holds then.
abbrev pub JudgedSteady : Type 0 → Result (Unit {0}) ServeFault → ℕ → Bool → List ℕ → Result Command Refusal → Vault → Vault → ℕ → ℕ → Option (List ℕ) → Option (List ℕ) → Type 0
JudgedSteady Honest result at shown who judged old new n n' before after =
    (n' ≡ n) ⊎ ((c : Command) × (reply : Reply) × (judged ≡ Ok c) × (Honest → IsStep old at who c reply new) × IsTrue (is_device_reply reply) × ReplySent result at c shown reply before after)

-- the same of a request, whose answer stands after what a client that waits was sent
abbrev pub Steady : Type 0 → Result (Unit {0}) ServeFault → Option ℕ → Vault → Vault → ℕ → ℕ → Option (List ℕ) → Option (List ℕ) → Type 0
Steady Honest result moment old new n n' before after =
    (n' ≡ n)
    ⊎ ((at : ℕ) × (moment ≡ Some at) × (who : List ℕ) × (c : Command) × (reply : Reply) × (Honest → IsStep old at who c reply new) × IsTrue (is_device_reply reply)
    × (waits : Bool) × (mid : Option (List ℕ)) × (shown : Bool) × Appends before mid (interim waits) × ReplySent result at c shown reply mid after)
