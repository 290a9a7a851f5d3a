use Rattle.std.proofs.Common.{List, ℕ, Option, Ok, subst, ◌∙◌}
use Rattle.vault_core_runs.specs.Ranges.{GoesOn}
use Rattle.vault_core_runs.proofs.OverRanges.{GoesOn-err, go_then, may_from}
use Rattle.vault_core_runs.proofs.pages.run_next.Goals as goal

pub run_after-requires-clause-may : goal.run_after-requires-clause-may
run_after-requires-clause-may g c = λ h.
    let v = g.K.Kept.vault c.args.keeper.now in
    let b = c.args.run.now.bucket in
    let t = c.args.run.now.at in
    let v1 = g.K.Kept.vault c.run_start.new.keeper in
    let first = subst (λ (o : Option (List ℕ)). GoesOn (Ok o) v b t c.args.place.now c.args.counts.now c.run_start.new.counts v1) c.in-Some.is (c.in_ok-start.ensures.goes h) in
    (may_from v v1 b t c.args.place.now c.in-Some.start c.args.counts.now c.run_start.new.counts (c.requires.may (c.run_start.ensures.leaves.honest h)) first.1).0

pub run_after-requires-clause-given : goal.run_after-requires-clause-given
run_after-requires-clause-given g c = λ h.
    let v = g.K.Kept.vault c.args.keeper.now in
    let b = c.args.run.now.bucket in
    let t = c.args.run.now.at in
    let v1 = g.K.Kept.vault c.run_start.new.keeper in
    let h0 = c.run_start.ensures.leaves.honest h in
    let first = subst (λ (o : Option (List ℕ)). GoesOn (Ok o) v b t c.args.place.now c.args.counts.now c.run_start.new.counts v1) c.in-Some.is (c.in_ok-start.ensures.goes h) in
    (may_from v v1 b t c.args.place.now c.in-Some.start c.args.counts.now c.run_start.new.counts (c.requires.may h0) first.1).1 ∙ c.requires.given h0

pub returns-in_err-start-clause-goes : goal.returns-in_err-start-clause-goes
returns-in_err-start-clause-goes g c = λ h.
    GoesOn-err c.from_residual.result c.in_err-start.field-0.0 (g.K.Kept.vault c.args.keeper.now) c.args.run.now.bucket c.args.run.now.at c.args.place.now c.args.counts.now c.run_start.new.counts (g.K.Kept.vault c.run_start.new.keeper)
    c.from_residual.ensures.1 (c.in_err-start.ensures.goes h)

-- the run came to its end
pub returns-in_default-clause-goes : goal.returns-in_default-clause-goes
returns-in_default-clause-goes g c = λ h.
    let v = g.K.Kept.vault c.args.keeper.now in
    let b = c.args.run.now.bucket in
    let t = c.args.run.now.at in
    subst (λ (o : Option (List ℕ)). GoesOn (Ok o) v b t c.args.place.now c.args.counts.now c.run_start.new.counts (g.K.Kept.vault c.run_start.new.keeper)) c.in_default.is (c.in_ok-start.ensures.goes h)

pub returns-clause-goes : goal.returns-clause-goes
returns-clause-goes g c = λ h.
    let v = g.K.Kept.vault c.args.keeper.now in
    let b = c.args.run.now.bucket in
    let t = c.args.run.now.at in
    let v1 = g.K.Kept.vault c.run_start.new.keeper in
    let h1 = c.run_after.ensures.leaves.honest h in
    let first = subst (λ (o : Option (List ℕ)). GoesOn (Ok o) v b t c.args.place.now c.args.counts.now c.run_start.new.counts v1) c.in-Some.is (c.in_ok-start.ensures.goes h1) in
    go_then v v1 b t c.args.place.now c.in-Some.start c.args.counts.now c.run_start.new.counts (c.requires.may (c.run_start.ensures.leaves.honest h1)) first.1
    c.run_after.result c.run_after.new.counts (g.K.Kept.vault c.run_after.new.keeper) first.0 (c.run_after.ensures.goes h)
