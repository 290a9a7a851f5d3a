use Rattle.std.proofs.Common.{ℕ, ◌<◌, List, length, sym, ap, subst, ◌∙◌}
use Rattle.std.specs.Prelude.{MatchOption}
use Rattle.vault_base.specs.Limits.{most_keys}
use Rattle.vault_core_model.specs.declared.halt.Fault.TheVariants as fault
use Rattle.vault_core_model.specs.declared.halt.Halt.TheVariants as halt
use Rattle.vault_core_model.specs.Vault.{Vault}
use Rattle.vault_core_model.specs.Plan.{rules_in}
use Rattle.vault_core_model.specs.Reads.{later_keys}
use Rattle.vault_core_run_laws.specs.KeyRuns.{MayRun, plans_at}
use Rattle.vault_core_runs.specs.Making.{IsLastKey, MakesAll, MakesUpTo}
use Rattle.vault_core_runs.proofs.Making.{MakesUpTo-fault}
use Rattle.vault_core_runs.proofs.OverRanges.{GoesOn-err, goes_by_page, page_rises, stops_after_page, stops_in_page}
use Rattle.vault_core_runs.proofs.pages.run_after.Goals as goal

pub returns-in_err-keys-clause-goes : goal.returns-in_err-keys-clause-goes
returns-in_err-keys-clause-goes g c = λ h.
    let v = g.K.Kept.vault c.args.keeper.now in
    let b = c.args.run.now.bucket in
    let t = c.args.run.now.at in
    let w = g.K.Kept.vault c.keys.new.self in
    let f = c.in_err-keys.field-0.0 in
    GoesOn-err c.from_residual.result (halt.Fault f) v b t c.args.place.now c.args.counts.now c.args.counts.now w c.from_residual.ensures.1
    (MakesUpTo-fault v b t (plans_at v b t (later_keys v b c.args.place.now)) f c.args.counts.now w c.keys.ensures.leaves.same)

pub run_page-requires-clause-may : goal.run_page-requires-clause-may
run_page-requires-clause-may g c = λ h.
    subst (λ (u : Vault). MayRun u c.args.run.now.bucket c.args.run.now.at) (sym c.keys.ensures.leaves.same) (c.requires.may (c.keys.ensures.leaves.honest h))

pub run_page-requires-clause-given : goal.run_page-requires-clause-given
run_page-requires-clause-given g c = λ h. ap (λ u. rules_in u c.args.run.now.bucket) c.keys.ensures.leaves.same ∙ c.requires.given (c.keys.ensures.leaves.honest h)

pub run_page-requires-clause-rising : goal.run_page-requires-clause-rising
run_page-requires-clause-rising g c = λ h.
    let v = g.K.Kept.vault c.args.keeper.now in
    let b = c.args.run.now.bucket in
    let t = c.args.run.now.at in
    page_rises v b t c.args.place.now c.deref.result.now (c.deref.ensures.value ∙ c.in_ok-keys.ensures.value h)

pub returns-in_err-run_page-clause-goes : goal.returns-in_err-run_page-clause-goes
returns-in_err-run_page-clause-goes g c = λ h.
    let v = g.K.Kept.vault c.args.keeper.now in
    let b = c.args.run.now.bucket in
    let t = c.args.run.now.at in
    let keys = c.deref.result.now in
    let e = c.in_err-run_page.field-0.0 in
    let y = c.run_page.new.counts in
    let v2 = g.K.Kept.vault c.run_page.new.keeper in
    let page = c.deref.ensures.value ∙ c.in_ok-keys.ensures.value (c.run_page.ensures.leaves.honest h) in
    GoesOn-err c.from_residual-in_err-run_page.result e v b t c.args.place.now c.args.counts.now y v2 c.from_residual-in_err-run_page.ensures.1
    (stops_in_page v b t c.args.place.now keys page e c.args.counts.now y v2
    (subst (λ (u : Vault). MakesUpTo u b t (plans_at u b t keys) e c.args.counts.now y v2) c.keys.ensures.leaves.same (c.in_err-run_page.ensures.makes h)))

pub returns-in_err-last-clause-goes : goal.returns-in_err-last-clause-goes
returns-in_err-last-clause-goes g c = λ h.
    let v = g.K.Kept.vault c.args.keeper.now in
    let b = c.args.run.now.bucket in
    let t = c.args.run.now.at in
    let keys = c.deref.result.now in
    let y = c.run_page.new.counts in
    let v2 = g.K.Kept.vault c.run_page.new.keeper in
    let page = c.deref.ensures.value ∙ c.in_ok-keys.ensures.value (c.run_page.ensures.leaves.honest h) in
    GoesOn-err c.from_residual-in_err-last.result (halt.Fault fault.Memory) v b t c.args.place.now c.args.counts.now y v2 c.from_residual-in_err-last.ensures.1
    (stops_after_page v b t c.args.place.now keys page fault.Memory c.args.counts.now y v2
    (subst (λ (u : Vault). MakesAll u b t (plans_at u b t keys) c.args.counts.now y v2) c.keys.ensures.leaves.same (c.in_ok-run_page.ensures.makes h)))

pub returns-clause-goes : goal.returns-clause-goes
returns-clause-goes g c = λ h.
    let v = g.K.Kept.vault c.args.keeper.now in
    let b = c.args.run.now.bucket in
    let t = c.args.run.now.at in
    let keys = c.deref.result.now in
    let y = c.run_page.new.counts in
    let v2 = g.K.Kept.vault c.run_page.new.keeper in
    let page = c.deref.ensures.value ∙ c.in_ok-keys.ensures.value (c.run_page.ensures.leaves.honest h) in
    let last = c.in_ok-last.last in
    let found = subst (λ (ks : List (List ℕ)). MatchOption last (length ks < most_keys) (λ k. IsLastKey ks k)) (c.deref-2.ensures.value ∙ sym c.deref.ensures.value) c.in_ok-last.ensures in
    goes_by_page v b t c.args.place.now keys page last c.args.counts.now y v2 found
    (subst (λ (u : Vault). MakesAll u b t (plans_at u b t keys) c.args.counts.now y v2) c.keys.ensures.leaves.same (c.in_ok-run_page.ensures.makes h))
