use Rattle.std.proofs.Common.{◌≡◌, [], take, drop}
use Rattle.vault_rules.specs.Rules.{first_fault}
use Rattle.vault_rules.proofs.rule_set.first_fault.Given as goal

abbrev pub invariant-loop-i : goal.invariant-loop-i
invariant-loop-i l = first_fault (take l.i l.rules) (drop l.i l.rules) ≡ first_fault [] l.rules
