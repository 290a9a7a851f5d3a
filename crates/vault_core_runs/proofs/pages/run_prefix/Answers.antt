use Rattle.std.proofs.Common.{List, ℕ, refl, subst}
use Rattle.vault_core_model.specs.declared.halt.Fault.TheVariants as fault
use Rattle.vault_core_model.specs.declared.halt.Halt.TheVariants as halt
use Rattle.vault_core_run_laws.specs.KeyRuns.{plan_at}
use Rattle.vault_core_runs.specs.Making.{MakesSteps}
use Rattle.vault_core_runs.proofs.Making.{MakesSteps-err, MakesUpTo-fault}
use Rattle.vault_core_runs.proofs.Nearest.{key_of, no_key}
use Rattle.vault_core_runs.proofs.pages.run_prefix.Goals as goal

pub returns-in_err-key-clause-makes : goal.returns-in_err-key-clause-makes
returns-in_err-key-clause-makes g c = λ h.
    let v = g.K.Kept.vault c.args.keeper.now in
    let b = c.args.run.now.bucket in
    let t = c.args.run.now.at in
    let ps = plan_at v b t c.args.prefix.now in
    MakesSteps-err c.from_residual.result (halt.Fault fault.Memory) v b t ps c.args.counts.now c.args.counts.now v c.from_residual.ensures.1 (MakesUpTo-fault v b t ps fault.Memory c.args.counts.now v refl)

-- the prefix has a byte
pub returns-in_default-clause-makes : goal.returns-in_default-clause-makes
returns-in_default-clause-makes g c = λ h. absurd (no_key c.args.prefix.now c.in_ok-key.field-0 c.requires.named c.in_ok-key.ensures c.in_default.is)

pub returns-clause-makes : goal.returns-clause-makes
returns-clause-makes g c = λ h.
    let v = g.K.Kept.vault c.args.keeper.now in
    let b = c.args.run.now.bucket in
    let t = c.args.run.now.at in
    subst (λ (k : List ℕ). MakesSteps c.run_key.result v b t (plan_at v b t k) c.args.counts.now c.run_key.new.counts (g.K.Kept.vault c.run_key.new.keeper))
    (key_of c.args.prefix.now c.in-Some.key c.in_ok-key.field-0 c.in_ok-key.ensures c.in-Some.is) (c.run_key.ensures.makes h)
