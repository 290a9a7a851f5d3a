-- Each fault of a list of rules, and which of two comes first.
use Rattle.std.specs.Prelude.{◌≡◌, refl, ℕ, List, [], ◌∷◌, map, true, Option, None, Some, codes}
use Rattle.std.specs.List.{repeat}
use Rattle.vault_rules.specs.declared.rule.Rule.{Rule}
use Rattle.vault_rules.specs.declared.rule_set.RuleFault.{RuleFault}
use Rattle.vault_rules.specs.declared.rule_set.RuleFault.TheVariants.{NoRules, TooMany, SameId, NoAction, DaysAndMarkers, OutOfRange}
use Rattle.vault_rules.specs.Rules.{rules_fault}
use Rattle.vault_tests_days.specs.Script.{rule}

abbrev r : Rule
r = rule (codes "r")

abbrev after_days : ℕ → Rule
after_days n = record r { days = Some n }

no_rules : rules_fault [] ≡ Some NoRules
no_rules = refl

one : rules_fault (after_days 1 ∷ []) ≡ None
one = refl

-- the second rule has no action either
same_id : rules_fault (after_days 1 ∷ r ∷ []) ≡ Some SameId
same_id = refl

-- the second has the id of the first
no_action : rules_fault (r ∷ r ∷ []) ≡ Some NoAction
no_action = refl

-- its days are out of range too
days_and_markers : rules_fault (record (after_days 0) { lone_markers = true } ∷ []) ≡ Some DaysAndMarkers
days_and_markers = refl

no_days : rules_fault (after_days 0 ∷ []) ≡ Some OutOfRange
no_days = refl

too_many : rules_fault (repeat 1001 (r ∷ [])) ≡ Some TooMany
too_many = refl

-- between these bounds is no size
no_size : rules_fault (record (after_days 1) { larger = Some 4; smaller = Some 4 } ∷ []) ≡ Some OutOfRange
no_size = refl

-- a bound out of range of a rule that has no action either
bound_of_no_action : rules_fault (record r { larger = Some 1048577 } ∷ []) ≡ Some NoAction
bound_of_no_action = refl
