use Rattle.std.proofs.Common.{◌≡◌, None, drop}
use Rattle.vault_core_runs.specs.Ranges.{nearest}
use Rattle.vault_core_runs.proofs.ranges.nearest_of.Given as goal

-- the rules that are left give what all rules do
abbrev pub invariant-loop-rule : goal.invariant-loop-rule
invariant-loop-rule l = nearest l.place l.found (drop l.rule-index l.rules) ≡ nearest l.place None l.rules
