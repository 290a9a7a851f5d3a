use Rattle.std.proofs.Common.{ℕ, Option, subst, sym}
use Rattle.std.proofs.lemmas.Result.{on_ok_weaker, IfErr-weaker}
use Rattle.vault_core.specs.Hearing.{HearsOnce}
use Rattle.vault_http.specs.Calls.{StepsHeard}
use Rattle.vault_http.specs.Steady.{Steady}
use Rattle.vault_http.proofs.JudgingLemmas.{denied_left, denied_served, denied_taken, nothing_taken, planned_served, planned_taken}
use Rattle.vault_http.proofs.serve.serve_for.Goals as goal

pub returns-in-Nothing-clause-taken : goal.returns-in-Nothing-clause-taken
returns-in-Nothing-clause-taken g c =
    let j = c.in_ok-judge_request.ensures.judged in
    nothing_taken c.args.occasion.now.hosts.now c.args.occasion.now.moment (g.R.Read.remaining c.args.reader.now) (g.R.Read.remaining c.judge_request.new.reader) j.0 j.1 (rw c.in-Nothing.is at j.2)

pub returns-in-Denied-clause-ok : goal.returns-in-Denied-clause-ok
returns-in-Denied-clause-ok g c = λ h.
    let j = c.in_ok-judge_request.ensures.judged in
    on_ok_weaker c.deny.result
    (λ s. denied_served c.args.occasion.now.hosts.now (StepsHeard g.K.Kept c.args.keeper.now c.args.keeper.now g.H.Hears.hears) c.args.occasion.now.moment (g.R.Read.remaining c.args.reader.now) (g.R.Read.remaining c.judge_request.new.reader) (g.W.Write.contents c.args.writer.now) (g.W.Write.contents c.deny.new.writer) j.0 (record { refusal = c.in-Denied.refusal; allow = c.in-Denied.allow; shown = c.in-Denied.shown }) (g.K.Kept.vault c.args.keeper.now, c.args.hears.now) j.1 (rw c.in-Denied.is at j.2) s)
    c.deny.ensures.ok

pub returns-in-Denied-clause-err : goal.returns-in-Denied-clause-err
returns-in-Denied-clause-err g c = λ h.
    let j = c.in_ok-judge_request.ensures.judged in
    IfErr-weaker c.deny.result _ _
    (denied_left c.args.occasion.now.hosts.now (StepsHeard g.K.Kept c.args.keeper.now c.args.keeper.now g.H.Hears.hears) c.args.occasion.now.moment (g.R.Read.remaining c.args.reader.now) (g.R.Read.remaining c.judge_request.new.reader) (g.R.Read.remaining c.judge_request.new.reader) (g.W.Write.contents c.args.writer.now) (g.W.Write.contents c.deny.new.writer) j.0 (record { refusal = c.in-Denied.refusal; allow = c.in-Denied.allow; shown = c.in-Denied.shown }) (g.K.Kept.vault c.args.keeper.now, c.args.hears.now) j.1 (rw c.in-Denied.is at j.2))
    c.deny.ensures.err

pub returns-in-Denied-clause-taken : goal.returns-in-Denied-clause-taken
returns-in-Denied-clause-taken g c =
    let j = c.in_ok-judge_request.ensures.judged in
    on_ok_weaker c.deny.result
    (λ s. denied_taken c.args.occasion.now.hosts.now c.args.occasion.now.moment (g.R.Read.remaining c.args.reader.now) (g.R.Read.remaining c.judge_request.new.reader) j.0 (record { refusal = c.in-Denied.refusal; allow = c.in-Denied.allow; shown = c.in-Denied.shown }) j.1 (rw c.in-Denied.is at j.2))
    c.deny.ensures.ok

pub returns-in-Planned-clause-ok : goal.returns-in-Planned-clause-ok
returns-in-Planned-clause-ok g c = λ h.
    let j = c.in_ok-judge_request.ensures.judged in
    on_ok_weaker c.serve_plan.result
    (planned_served c.args.occasion.now.hosts.now (StepsHeard g.K.Kept c.args.keeper.now c.serve_plan.new.keeper g.H.Hears.hears) c.args.occasion.now.moment (g.R.Read.remaining c.args.reader.now) (g.R.Read.remaining c.judge_request.new.reader) (g.W.Write.contents c.args.writer.now) (g.W.Write.contents c.serve_plan.new.writer) j.0 c.in-Planned.plan c.in-Planned.shown (g.K.Kept.vault c.args.keeper.now, c.args.hears.now) (g.K.Kept.vault c.serve_plan.new.keeper, c.serve_plan.new.hears) j.1 (rw c.in-Planned.is at j.2))
    (c.serve_plan.ensures.ok h)

pub returns-in-Planned-clause-taken : goal.returns-in-Planned-clause-taken
returns-in-Planned-clause-taken g c =
    let j = c.in_ok-judge_request.ensures.judged in
    on_ok_weaker c.serve_plan.result
    (planned_taken c.args.occasion.now.hosts.now c.args.occasion.now.moment (g.R.Read.remaining c.args.reader.now) (g.R.Read.remaining c.judge_request.new.reader) (g.R.Read.remaining c.serve_plan.new.reader) j.0 c.in-Planned.plan c.in-Planned.shown j.1 (rw c.in-Planned.is at j.2))
    c.serve_plan.ensures.taken

pub returns-in-Planned-clause-leaves : goal.returns-in-Planned-clause-leaves
returns-in-Planned-clause-leaves g c =
    let j = rw c.in-Planned.is at c.in_ok-judge_request.ensures.judged.2 in
    let before = c.args.keeper.now in
    let after = c.serve_plan.new.keeper in
    record {
      honest = c.serve_plan.ensures.leaves.honest;
      counted = c.serve_plan.ensures.leaves.counted;
      steady = subst (λ (m : Option ℕ). Steady (g.K.Kept.is_honest after) c.serve_plan.result m (g.K.Kept.vault before) (g.K.Kept.vault after) (g.K.Kept.count before) (g.K.Kept.count after) (g.W.Write.contents c.args.writer.now) (g.W.Write.contents c.serve_plan.new.writer)) (sym j.2.2) c.serve_plan.ensures.leaves.steady;
    }

pub returns-in-Planned-clause-heard : goal.returns-in-Planned-clause-heard
returns-in-Planned-clause-heard g c =
    let j = rw c.in-Planned.is at c.in_ok-judge_request.ensures.judged.2 in
    let P : Option ℕ → Type 0 = λ m. HearsOnce g.H.Hears.hears c.args.hears.now c.serve_plan.new.hears m (g.K.Kept.vault c.args.keeper.now) (g.K.Kept.vault c.serve_plan.new.keeper) in
    λ h. subst P (sym j.2.2) (c.serve_plan.ensures.heard h)
