use Rattle.std.proofs.Common.{◌≡◌, drop}
use Rattle.vault_rules.specs.KeyPlan.{ids_rise}
use Rattle.vault_core_runs.proofs.Rising.{rise_above}
use Rattle.vault_core_runs.proofs.key.ids_rise.Given as goal

-- the ids rise as those do that are left, above the last one seen
abbrev pub invariant-loop-entry : goal.invariant-loop-entry
invariant-loop-entry l = rise_above l.below (drop l.entry-index l.rest) ≡ ids_rise l.held
