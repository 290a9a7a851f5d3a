-- On what is answered where the count of failures rose.
use Rattle.std.proofs.Common.{ℕ, ◌≡◌, List, Bool, true, false, Option, Some, IfErr, OnOk, Result, Ok, Err, inl, inr, refl, subst}
use Rattle.std.specs.Io.KnownBytes.{Appends}
use Rattle.vault_base.specs.declared.refusal.Refusal.{Refusal}
use Rattle.vault_core_model.specs.Halts.{is_device_reply}
use Rattle.vault_core_model.specs.Step.{IsStep}
use Rattle.vault_core_model.specs.Vault.{Vault}
use Rattle.vault_core_model.specs.declared.command.Command.{Command}
use Rattle.vault_core_model.specs.declared.reply.Reply.{Reply}
use Rattle.vault_http.specs.Reply.{AnswersReply}
use Rattle.vault_io.specs.Begins.{Begins}
use Rattle.vault_http.specs.Exchange.{drops, interim}
use Rattle.vault_http.specs.Steady.{ReplySent, JudgedSteady, Steady}
use Rattle.vault_http.specs.declared.fault.ServeFault.{ServeFault}
use Rattle.vault_http.specs.declared.fault.ServeFault.TheVariants as faults

-- the bytes of a reply were sent, or a beginning of them
pub reply_sent : (result : Result (Unit {0}) ServeFault) (at : ℕ) (c : Command) (shown : Bool) (reply : Reply) (a b : Option (List ℕ)) (dropped : Bool) (bytes sent : List ℕ) → dropped ≡ drops c → AnswersReply (Some at) dropped reply shown bytes → sent ≡ bytes
    → OnOk result (Appends a b sent) → IfErr result (λ e. (e ≡ faults.Write) × Begins a b sent) → ReplySent result at c shown reply a b
reply_sent (Ok t) at c shown reply a b dropped bytes sent is says same ok err =
    (bytes, subst (λ (t : Bool). AnswersReply (Some at) t reply shown bytes) is says, subst (Appends a b) same ok)
reply_sent (Err faults.Read) at c shown reply a b dropped bytes sent is says same ok err = absurd (cc err.0)
reply_sent (Err faults.Write) at c shown reply a b dropped bytes sent is says same ok err =
    (bytes, subst (λ (t : Bool). AnswersReply (Some at) t reply shown bytes) is says, subst (Begins a b) same err.1)
reply_sent (Err faults.Memory) at c shown reply a b dropped bytes sent is says same ok err = absurd (cc err.0)

module _ (Honest : Type 0) (result : Result (Unit {0}) ServeFault) (at : ℕ) (shown : Bool) (who : List ℕ) (old new : Vault) (n n' : ℕ) where
  -- a command was carried out, and its reply sent
  pub step_steady : (c : Command) (reply : Reply) (a b : Option (List ℕ)) → (Honest → IsStep old at who c reply new) → (is_device_reply reply ≡ false → n' ≡ n) → ReplySent result at c shown reply a b
      → JudgedSteady Honest result at shown who (Ok c) old new n n' a b
  step_steady c reply a b step steady sent = cases (is_device_reply reply) refl
    where
      cases : (stated : Bool) → is_device_reply reply ≡ stated → JudgedSteady Honest result at shown who (Ok c) old new n n' a b
      cases true e = inr (c, reply, refl, step, e, sent)
      cases false e = inl (steady e)

  -- after what a client that waits was sent
  pub plan_steady : (judged : Result Command Refusal) (waits : Bool) (a b c : Option (List ℕ)) → Appends a b (interim waits) → JudgedSteady Honest result at shown who judged old new n n' b c → Steady Honest result (Some at) old new n n' a c
  plan_steady judged waits a b c p s =
      elim s [
        | inl same ↦ inl same
        | inr t ↦ inr (at, refl, who, t.0, t.1, t.3, t.4, waits, b, shown, p, t.5)
      ]
