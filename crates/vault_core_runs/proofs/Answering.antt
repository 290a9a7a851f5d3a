-- The reply of a run says how far it came.
use Rattle.std.proofs.Common.{◌≡◌, ℕ, ◌<◌, ◌≤◌, List, length, take, Some, Result, Ok, refl, sym, ap, subst, ◌∙◌, inr, zero-add}
use Rattle.vault_base.specs.declared.refusal.Refusal.{Refusal}
use Rattle.vault_rules.specs.KeyPlan.{Planned}
use Rattle.vault_core_model.specs.declared.halt.Fault.TheVariants as fault
use Rattle.vault_core_model.specs.declared.halt.Halt.{Halt}
use Rattle.vault_core_model.specs.declared.halt.Halt.TheVariants as halt
use Rattle.vault_core_model.specs.declared.reply.Answer.TheVariants.{Ran}
use Rattle.vault_core_model.specs.declared.reply.Counts.{Counts}
use Rattle.vault_core_model.specs.declared.reply.Reply.{Reply}
use Rattle.vault_core_model.specs.declared.reply.Reply.TheVariants.{Done, Stopped}
use Rattle.vault_core_model.specs.Vault.{Vault}
use Rattle.vault_core_model.specs.Plan.{plan, after_steps, counts, with_ids}
use Rattle.vault_core_model.specs.RunOutcome.{AnswersRun, StopsByFault}
use Rattle.vault_core_run_laws.specs.Repeats.{no_change}
use Rattle.vault_core_runs.specs.declared.change.BucketRun.{BucketRun}
use Rattle.vault_core_runs.specs.Making.{plus, MakesAll, MakesUpTo}
use Rattle.vault_core_runs.specs.Replies.{Begins, stop_of}
use Rattle.vault_core_runs.proofs.Making.{same_counts}

from_none : (x : Counts) → plus no_change x ≡ x
from_none x = same_counts (plus no_change x) x (zero-add x.changes) (zero-add x.marked) (zero-add x.removed) (zero-add x.lone)

pub answers_done : (v : Vault) (b : List ℕ) (t : ℕ) (ps : List Planned) (y : Counts) (v2 : Vault) → MakesAll v b t ps no_change y v2 → AnswersRun (Ok ps) v b t (Done (Ran y)) v2
answers_done v b t ps y v2 m = (ps, refl, ap Ran (m.counted ∙ from_none (counts ps)), m.ids, m.left)

by_fault : (v : Vault) (b : List ℕ) (t : ℕ) (ps : List Planned) (e : Halt) (y : Counts) (v2 : Vault) → MakesUpTo v b t ps e no_change y v2 → StopsByFault (Ok ps) y.changes v b t v2
by_fault v b t ps e y v2 m =
    let stated : m.n ≡ y.changes = sym (m.counted ∙ zero-add m.n) in
    inr (ps, refl, (subst (λ (n : ℕ). n ≤ length (with_ids (length v.histories) ps)) stated m.within, subst (λ (n : ℕ). v2 ≡ after_steps v b t (take n ps)) stated m.left))

pub answers_stopped : (v : Vault) (b : List ℕ) (t : ℕ) (ps : List Planned) (e : Halt) (y : Counts) (v2 : Vault) → MakesUpTo v b t ps e no_change y v2 → AnswersRun (Ok ps) v b t (Stopped y.changes (stop_of e)) v2
answers_stopped v b t ps (halt.Fault fault.Memory) y v2 m = by_fault v b t ps (halt.Fault fault.Memory) y v2 m
answers_stopped v b t ps (halt.Fault fault.Device) y v2 m = by_fault v b t ps (halt.Fault fault.Device) y v2 m
answers_stopped v b t ps (halt.Refused r) y v2 m =
    let stated : m.n ≡ y.changes = sym (m.counted ∙ zero-add m.n) in
    let P : Refusal → Type 0 = λ s. AnswersRun (Ok ps) v b t (Stopped y.changes (stop_of (halt.Refused s))) v2 in
    subst P (sym m.why.0) (ps, refl, sym stated ∙ m.why.1, subst (λ (n : ℕ). n < length ps) stated m.why.2, subst (λ (n : ℕ). v2 ≡ after_steps v b t (take n ps)) stated m.left)

-- a run over the bucket that is asked for answers as it is judged
pub answers_as_judged : (v w v2 : Vault) (b : List ℕ) (t : ℕ) (r : BucketRun) (judged : Result (List Planned) Refusal) (reply : Reply)
    → w ≡ v → Begins (Some r) v b t judged → AnswersRun (Ok (plan w r.bucket r.at)) w r.bucket r.at reply v2 → AnswersRun judged v b t reply v2
answers_as_judged v w v2 b t r judged reply same begins s =
    let here : AnswersRun (Ok (plan v r.bucket r.at)) v r.bucket r.at reply v2 =
    subst (λ (u : Vault). AnswersRun (Ok (plan u r.bucket r.at)) u r.bucket r.at reply v2) same s in
    let there : AnswersRun (Ok (plan v b r.at)) v b r.at reply v2 =
    subst (λ (c : List ℕ). AnswersRun (Ok (plan v c r.at)) v c r.at reply v2) begins.0.over here in
    let now : AnswersRun (Ok (plan v b t)) v b t reply v2 =
    subst (λ (k : ℕ). AnswersRun (Ok (plan v b k)) v b k reply v2) begins.0.now there in
    subst (λ (j : Result (List Planned) Refusal). AnswersRun j v b t reply v2) (sym begins.1) now
