use Rattle.std.proofs.Common.{sym, ap, ◌∙◌}
use Rattle.vault_rules.specs.KeyPlan.{ids_rise}
use Rattle.vault_core_runs.proofs.Rising.{ids_rise-above}
use Rattle.vault_core_runs.proofs.key.ids_rise.Goals as goal

pub loop-entry-init : goal.loop-entry-init
loop-entry-init c =
    sym (ap ids_rise c.in-Some.ensures.cases.0 ∙ ids_rise-above c.in-Some.first.now c.in-Some.rest.now)
