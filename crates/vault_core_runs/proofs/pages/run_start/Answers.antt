use Rattle.std.proofs.Common.{refl, sym, ◌∙◌}
use Rattle.vault_core_model.specs.declared.halt.Fault.TheVariants as fault
use Rattle.vault_core_model.specs.declared.halt.Halt.TheVariants as halt
use Rattle.vault_core_model.specs.Reads.{later_keys}
use Rattle.vault_core_run_laws.specs.KeyRuns.{plans_at}
use Rattle.vault_core_runs.proofs.Making.{MakesUpTo-fault}
use Rattle.vault_core_runs.proofs.Nearest.{found_byte}
use Rattle.vault_core_runs.proofs.OverRanges.{GoesOn-err, goes_nowhere, goes_to_end, goes_to_prefix, stops_at_prefix}
use Rattle.vault_core_runs.proofs.pages.run_start.Goals as goal

-- a rule reaches the place
pub returns-then-is_place_ruled-clause-goes : goal.returns-then-is_place_ruled-clause-goes
returns-then-is_place_ruled-clause-goes g c = λ h.
    goes_nowhere (g.K.Kept.vault c.args.keeper.now) c.args.run.now.bucket c.args.run.now.at c.args.place.now c.in_ok-same.same c.args.counts.now c.in_ok-same.ensures.cases

pub returns-in_err-same-clause-goes : goal.returns-in_err-same-clause-goes
returns-in_err-same-clause-goes g c = λ h.
    let v = g.K.Kept.vault c.args.keeper.now in
    let b = c.args.run.now.bucket in
    let t = c.args.run.now.at in
    GoesOn-err c.from_residual.result (halt.Fault fault.Memory) v b t c.args.place.now c.args.counts.now c.args.counts.now v c.from_residual.ensures.1
    (MakesUpTo-fault v b t (plans_at v b t (later_keys v b c.args.place.now)) fault.Memory c.args.counts.now v refl)

pub returns-in_err-start-clause-goes : goal.returns-in_err-start-clause-goes
returns-in_err-start-clause-goes g c = λ h.
    let v = g.K.Kept.vault c.args.keeper.now in
    let b = c.args.run.now.bucket in
    let t = c.args.run.now.at in
    GoesOn-err c.from_residual-in_err-start.result (halt.Fault fault.Memory) v b t c.args.place.now c.args.counts.now c.args.counts.now v c.from_residual-in_err-start.ensures.1
    (MakesUpTo-fault v b t (plans_at v b t (later_keys v b c.args.place.now)) fault.Memory c.args.counts.now v refl)

-- no rule reaches a later key
pub returns-in_default-clause-goes : goal.returns-in_default-clause-goes
returns-in_default-clause-goes g c = λ h.
    goes_to_end (g.K.Kept.vault c.args.keeper.now) c.args.run.now.bucket c.args.run.now.at c.args.run.now.rules c.args.place.now (c.requires.given h) (sym c.is_place_ruled.ensures ∙ c.if-is_place_ruled.false)
    c.args.counts.now (sym c.in_ok-start.ensures ∙ c.in_default.is)

pub run_prefix-requires-clause-named : goal.run_prefix-requires-clause-named
run_prefix-requires-clause-named g c = found_byte c.args.run.now.rules c.args.place.now c.in-Some.start (sym c.in_ok-start.ensures ∙ c.in-Some.is)

pub returns-in_err-run_prefix-clause-goes : goal.returns-in_err-run_prefix-clause-goes
returns-in_err-run_prefix-clause-goes g c = λ h.
    let v = g.K.Kept.vault c.args.keeper.now in
    let b = c.args.run.now.bucket in
    let t = c.args.run.now.at in
    let v1 = g.K.Kept.vault c.run_prefix.new.keeper in
    let h0 = c.run_prefix.ensures.leaves.honest h in
    let e = c.in_err-run_prefix.field-0.0 in
    GoesOn-err c.from_residual-in_err-run_prefix.result e v b t c.args.place.now c.args.counts.now c.run_prefix.new.counts v1 c.from_residual-in_err-run_prefix.ensures.1
    (stops_at_prefix v b t c.args.run.now.rules c.args.place.now (c.requires.given h0) (sym c.is_place_ruled.ensures ∙ c.if-is_place_ruled.false)
    c.in-Some.start (sym c.in_ok-start.ensures ∙ c.in-Some.is) e c.args.counts.now c.run_prefix.new.counts v1 (c.in_err-run_prefix.ensures.makes h))

pub returns-clause-goes : goal.returns-clause-goes
returns-clause-goes g c = λ h.
    let v = g.K.Kept.vault c.args.keeper.now in
    let b = c.args.run.now.bucket in
    let t = c.args.run.now.at in
    goes_to_prefix v b t c.args.run.now.rules c.args.place.now (c.requires.given (c.run_prefix.ensures.leaves.honest h)) (sym c.is_place_ruled.ensures ∙ c.if-is_place_ruled.false)
    c.in-Some.start (sym c.in_ok-start.ensures ∙ c.in-Some.is) c.args.counts.now c.run_prefix.new.counts (g.K.Kept.vault c.run_prefix.new.keeper) (c.in_ok-run_prefix.ensures.makes h)
