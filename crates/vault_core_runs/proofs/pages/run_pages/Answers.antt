use Rattle.std.proofs.Common.{ℕ, List, [], Option, Some, None, Ok, Err, refl, subst, ◌∙◌, rules}
use Rattle.vault_core_model.specs.declared.halt.Fault.TheVariants as fault
use Rattle.vault_core_model.specs.declared.halt.Halt.TheVariants as halt
use Rattle.vault_core_model.specs.Plan.{plan}
use Rattle.vault_core_model.specs.Reads.{later_keys}
use Rattle.vault_core_run_laws.specs.KeyRuns.{plans_at}
use Rattle.vault_core_runs.specs.Ranges.{GoesOn}
use Rattle.vault_core_runs.proofs.Making.{MakesSteps-err, MakesUpTo-fault}
use Rattle.vault_core_runs.proofs.OverRanges.{all_made, go_then, goes_nowhere, may_from, up_to_halt}
use Rattle.vault_core_runs.proofs.pages.run_pages.Goals as goal

pub loop-init : goal.loop-init
loop-init g c = record {
  leaves = search rules;
  done = λ h. goes_nowhere (g.K.Kept.vault c.args.keeper.now) c.args.run.now.bucket c.args.run.now.at [] c.in_ok-place.place c.args.counts.now c.in_ok-place.ensures;
}

pub run_next-requires-clause-may : goal.run_next-requires-clause-may
run_next-requires-clause-may g c = λ h.
    let h0 = c.loop.invariant.leaves.honest h in
    (may_from (g.K.Kept.vault c.args.keeper.now) (g.K.Kept.vault c.loop.keeper) c.args.run.now.bucket c.args.run.now.at [] c.loop.place c.args.counts.now c.loop.counts (c.requires.may h0) (c.loop.invariant.done h).1).0

pub run_next-requires-clause-given : goal.run_next-requires-clause-given
run_next-requires-clause-given g c = λ h.
    let h0 = c.loop.invariant.leaves.honest h in
    (may_from (g.K.Kept.vault c.args.keeper.now) (g.K.Kept.vault c.loop.keeper) c.args.run.now.bucket c.args.run.now.at [] c.loop.place c.args.counts.now c.loop.counts (c.requires.may h0) (c.loop.invariant.done h).1).1
    ∙ c.requires.given h0

pub returns-in_err-next-clause-makes : goal.returns-in_err-next-clause-makes
returns-in_err-next-clause-makes g c = λ h.
    let h1 = c.run_next.ensures.leaves.honest h in
    let may = c.requires.may (c.loop.invariant.leaves.honest h1) in
    let done = c.loop.invariant.done h1 in
    let v = g.K.Kept.vault c.args.keeper.now in
    let b = c.args.run.now.bucket in
    let t = c.args.run.now.at in
    let v1 = g.K.Kept.vault c.loop.keeper in
    let v2 = g.K.Kept.vault c.run_next.new.keeper in
    let x = c.args.counts.now in
    let z = c.run_next.new.counts in
    let e = c.in_err-next.field-0.0 in
    MakesSteps-err c.from_residual-in_err-next.result e v b t (plan v b t) x z v2 c.from_residual-in_err-next.ensures.1
    (up_to_halt v b t may e x z v2 (go_then v v1 b t [] c.loop.place x c.loop.counts may done.1 (Err e) z v2 done.0 (c.in_err-next.ensures.goes h)))

-- no key is left
pub returns-in_default-clause-makes : goal.returns-in_default-clause-makes
returns-in_default-clause-makes g c = λ h.
    let h1 = c.run_next.ensures.leaves.honest h in
    let may = c.requires.may (c.loop.invariant.leaves.honest h1) in
    let done = c.loop.invariant.done h1 in
    let v = g.K.Kept.vault c.args.keeper.now in
    let b = c.args.run.now.bucket in
    let t = c.args.run.now.at in
    let v1 = g.K.Kept.vault c.loop.keeper in
    let v2 = g.K.Kept.vault c.run_next.new.keeper in
    let x = c.args.counts.now in
    let z = c.run_next.new.counts in
    let next = subst (λ (o : Option (List ℕ)). GoesOn (Ok o) v1 b t c.loop.place c.loop.counts z v2) c.in_default.is (c.in_ok-next.ensures.goes h) in
    all_made v b t may x z v2 (go_then v v1 b t [] c.loop.place x c.loop.counts may done.1 (Ok None) z v2 done.0 next)

pub loop-preserved : goal.loop-preserved
loop-preserved g c = record {
  leaves = record { honest = λ h. c.loop.invariant.leaves.honest (c.run_next.ensures.leaves.honest h); counted = search rules };
  done = λ h.
      let h1 = c.run_next.ensures.leaves.honest h in
      let may = c.requires.may (c.loop.invariant.leaves.honest h1) in
      let done = c.loop.invariant.done h1 in
      let v = g.K.Kept.vault c.args.keeper.now in
      let b = c.args.run.now.bucket in
      let t = c.args.run.now.at in
      let v1 = g.K.Kept.vault c.loop.keeper in
      let v2 = g.K.Kept.vault c.run_next.new.keeper in
      let z = c.run_next.new.counts in
      let next = subst (λ (o : Option (List ℕ)). GoesOn (Ok o) v1 b t c.loop.place c.loop.counts z v2) c.in-Some.is (c.in_ok-next.ensures.goes h) in
      go_then v v1 b t [] c.loop.place c.args.counts.now c.loop.counts may done.1 (Ok (Some c.in-Some.next)) z v2 done.0 next;
}

-- n pages there can't be
pub returns-clause-makes : goal.returns-clause-makes
returns-clause-makes g c = λ h.
    let may = c.requires.may (c.loop.invariant.leaves.honest h) in
    let done = c.loop.invariant.done h in
    let v = g.K.Kept.vault c.args.keeper.now in
    let b = c.args.run.now.bucket in
    let t = c.args.run.now.at in
    let v1 = g.K.Kept.vault c.loop.keeper in
    let x = c.args.counts.now in
    let y = c.loop.counts in
    up_to_halt v b t may (halt.Fault fault.Memory) x y v1
    (go_then v v1 b t [] c.loop.place x y may done.1 (Err (halt.Fault fault.Memory)) y v1 done.0
    (MakesUpTo-fault v1 b t (plans_at v1 b t (later_keys v1 b c.loop.place)) fault.Memory y v1 refl))
