use Rattle.std.proofs.Common.{rules, ◌≡◌, ◌∙◌, true, false, sym}
use Rattle.std.specs.Prelude.{is_some}
use Rattle.vault_core_evidence.proofs.OneEntry.{rule_stops, rule_ends}
use Rattle.vault_core_evidence.proofs.history.rule_breach.Goals as goal

pub returns-then-is_some-clause-value : goal.returns-then-is_some-clause-value
returns-then-is_some-clause-value g c clean =
    let some : is_some c.in_ok-found.found ≡ true = search rules in
    let before = c.settings_breach.ensures.leaves.honest clean in
    rule_stops (g.K.Kept.vault c.args.keeper.now) (g.K.Kept.vault c.is_admitted.new.keeper) c.args.entry.now c.args.settings.now c.args.tenures.now c.in_ok-found.found
    c.is_admitted.ensures.leaves.same (sym (c.in_ok-is_admitted.ensures.value before) ∙ c.if-not-branch.false) (c.in_ok-found.ensures.value clean) some

pub returns-clause-value : goal.returns-clause-value
returns-clause-value g c clean =
    let none : is_some c.in_ok-found.found ≡ false = search rules in
    let settings = c.end_breach.ensures.leaves.honest clean in
    let before = c.settings_breach.ensures.leaves.honest settings in
    rule_ends (g.K.Kept.vault c.args.keeper.now) (g.K.Kept.vault c.is_admitted.new.keeper) (g.K.Kept.vault c.settings_breach.new.keeper) c.args.entry.now c.args.settings.now c.args.tenures.now c.in_ok-found.found
    c.last_at-from.result c.last_lock-lock.result c.end_breach.result
    c.is_admitted.ensures.leaves.same (c.settings_breach.ensures.leaves.same ∙ c.is_admitted.ensures.leaves.same) (sym (c.in_ok-is_admitted.ensures.value before) ∙ c.if-not-branch.false)
    (c.in_ok-found.ensures.value settings) none c.last_at-from.ensures c.last_lock-lock.ensures (c.end_breach.ensures.value clean)
