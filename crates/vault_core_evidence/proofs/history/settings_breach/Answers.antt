use Rattle.std.proofs.Common.{rules, ◌≡◌, ◌∷◌, true, false}
use Rattle.std.specs.Prelude.{is_some}
use Rattle.vault_core_evidence.proofs.Settings.{first_stops, first_goes_on_if}
use Rattle.vault_core_evidence.proofs.history.settings_breach.Goals as goal

pub returns-then-is_some-clause-value : goal.returns-then-is_some-clause-value
returns-then-is_some-clause-value g c clean =
    let some : is_some c.in_ok-found.found ≡ true = search rules in
    let split : c.args.settings.now ≡ c.in-Some.first.now ∷ c.in-Some.later.now = search rules in
    first_stops (g.K.Kept.vault c.args.keeper.now) c.args.entry.now.admitted c.args.entry.now.by c.args.settings.now c.in-Some.first.now c.in-Some.later.now c.in_ok-found.found
    split (c.in_ok-found.ensures.value clean) some

pub returns-clause-value : goal.returns-clause-value
returns-clause-value g c clean =
    let none : is_some c.in_ok-found.found ≡ false = search rules in
    let split : c.args.settings.now ≡ c.in-Some.first.now ∷ c.in-Some.later.now = search rules in
    first_goes_on_if (g.K.Kept.vault c.args.keeper.now) (g.K.Kept.vault c.first_breach.new.keeper) c.args.entry.now.admitted c.args.entry.now.by c.args.settings.now c.in-Some.first.now c.in-Some.later.now c.in_ok-found.found c.later_breach.result
    c.first_breach.ensures.leaves.same split (c.in_ok-found.ensures.value (c.later_breach.ensures.leaves.honest clean)) none (c.later_breach.ensures.value clean)
