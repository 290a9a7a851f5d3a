use Rattle.std.proofs.Common.{refl, sym, ap, ◌∙◌}
use Rattle.vault_core_model.specs.declared.halt.Fault.TheVariants as fault
use Rattle.vault_core_model.specs.declared.halt.Halt.TheVariants as halt
use Rattle.vault_core_run_laws.specs.KeyRuns.{plan_at}
use Rattle.vault_core_runs.proofs.Making.{MakesSteps-err, MakesUpTo-fault}
use Rattle.vault_core_runs.specs.Ranges.{is_ruled}
use Rattle.vault_core_runs.proofs.OverKeys.{planned_as_read, made_as_planned}
use Rattle.vault_core_runs.proofs.OverRanges.{makes_none}
use Rattle.vault_core_runs.proofs.Unruled.{unruled_plan}
use Rattle.vault_core_runs.proofs.key.run_key.Goals as goal

-- no rule makes anything due
pub returns-then-not-is_key_ruled-clause-makes : goal.returns-then-not-is_key_ruled-clause-makes
returns-then-not-is_key_ruled-clause-makes g c = λ h.
    let v = g.K.Kept.vault c.args.keeper.now in
    let b = c.args.run.now.bucket in
    let t = c.args.run.now.at in
    let none = ap (λ rs. is_ruled rs c.args.key.now) (c.requires.given h) ∙ sym c.is_key_ruled.ensures ∙ c.if-not-is_key_ruled.true in
    makes_none v v b t (plan_at v b t c.args.key.now) c.args.counts.now (unruled_plan v b t c.args.key.now none) refl

-- what is planned is the plan over the entries that the vault has
pub make_steps-requires-clause-planned : goal.make_steps-requires-clause-planned
make_steps-requires-clause-planned g c = λ h.
    planned_as_read (g.K.Kept.vault c.args.keeper.now) (g.K.Kept.vault c.entries.new.self) c.args.run.now.bucket c.args.run.now.at c.args.key.now c.args.run.now.rules c.deref.result.now c.deref-2.result.now
    (c.requires.may (c.entries.ensures.leaves.honest h)) c.entries.ensures.leaves.same (c.deref.ensures.value ∙ c.in_ok-held.ensures.value h) (λ rise. c.deref-2.ensures.value ∙ c.in_ok-steps.ensures.plan rise)

pub returns-clause-makes : goal.returns-clause-makes
returns-clause-makes g c = λ h.
    let h1 = c.make_steps.ensures.leaves.honest h in
    let h0 = c.entries.ensures.leaves.honest h1 in
    let v = g.K.Kept.vault c.args.keeper.now in
    let w = g.K.Kept.vault c.entries.new.self in
    let b = c.args.run.now.bucket in
    let t = c.args.run.now.at in
    let held = c.deref.result.now in
    let steps = c.deref-2.result.now in
    made_as_planned v w b t c.args.key.now c.args.run.now.rules held steps c.make_steps.result c.args.counts.now c.make_steps.new.counts (g.K.Kept.vault c.make_steps.new.keeper)
    c.entries.ensures.leaves.same (c.requires.given h0)
    (planned_as_read v w b t c.args.key.now c.args.run.now.rules held steps (c.requires.may h0) c.entries.ensures.leaves.same (c.deref.ensures.value ∙ c.in_ok-held.ensures.value h1) (λ rise. c.deref-2.ensures.value ∙ c.in_ok-steps.ensures.plan rise))
    (c.make_steps.ensures.makes h)

-- a fault before any step
pub returns-in_err-steps-clause-makes : goal.returns-in_err-steps-clause-makes
returns-in_err-steps-clause-makes g c = λ h.
    let v = g.K.Kept.vault c.args.keeper.now in
    let w = g.K.Kept.vault c.entries.new.self in
    let b = c.args.run.now.bucket in
    let t = c.args.run.now.at in
    let ps = plan_at v b t c.args.key.now in
    MakesSteps-err c.from_residual-in_err-steps.result (halt.Fault fault.Memory) v b t ps c.args.counts.now c.args.counts.now w c.from_residual-in_err-steps.ensures.1
    (MakesUpTo-fault v b t ps fault.Memory c.args.counts.now w c.entries.ensures.leaves.same)
