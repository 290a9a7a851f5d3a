-- Which lists of lifecycle rules a bucket may have.
use Rattle.std.specs.Prelude.{ℕ, ◌+◌, Bool, true, false, not, ◌&&◌, ◌||◌, ◌==◌, nat_lt, nat_le, List, [], ◌∷◌, ◌++◌, length, Option, Some, None, is_some, is_none}
use Rattle.std.specs.List.{list_any}
use Rattle.std.specs.Str.{bytes_eq}
use Rattle.vault_base.specs.Limits.{most_content, most_rules}
use Rattle.vault_rules.specs.declared.rule.Noncurrent.{Noncurrent}
use Rattle.vault_rules.specs.declared.rule.Rule.{Rule}
use Rattle.vault_rules.specs.declared.rule_set.RuleFault.{RuleFault}
use Rattle.vault_rules.specs.declared.rule_set.RuleFault.TheVariants.{NoRules, TooMany, SameId, NoAction, DaysAndMarkers, OutOfRange}

-- a number of days is 1 to 2,147,483,647
abbrev pub is_day_count : ℕ → Bool
is_day_count n = nat_le 1 n && nat_le n 2147483647

-- NewerNoncurrentVersions is 1 to 100
abbrev pub is_newer_count : ℕ → Bool
is_newer_count n = nat_le 1 n && nat_le n 100

-- where it is given, it passes
abbrev pub passes_if_given : {A : Type 0} → (A → Bool) → Option A → Bool
passes_if_given test None = true
passes_if_given test (Some x) = test x

abbrev pub is_noncurrent_action : Noncurrent → Bool
is_noncurrent_action n = is_day_count n.days && passes_if_given is_newer_count n.newer

-- ObjectSizeGreaterThan is at most 1,048,576, which is the most that a version has
abbrev pub is_lower_bound : ℕ → Bool
is_lower_bound n = nat_le n most_content

-- ObjectSizeLessThan is 1 to 1,048,577
abbrev pub is_upper_bound : ℕ → Bool
is_upper_bound n = nat_le 1 n && nat_le n (most_content + 1)

-- where both bounds are given, the lower one is below the upper one
abbrev pub are_in_order : Option ℕ → Option ℕ → Bool
are_in_order None smaller = true
are_in_order (Some l) None = true
are_in_order (Some l) (Some s) = nat_lt l s

abbrev pub are_bounds : Option ℕ → Option ℕ → Bool
are_bounds larger smaller =
    passes_if_given is_lower_bound larger && passes_if_given is_upper_bound smaller && are_in_order larger smaller

-- at least one action
abbrev pub has_action : Rule → Bool
has_action r = is_some r.days || r.lone_markers || is_some r.noncurrent

-- both kinds of Expiration at once
abbrev pub has_days_and_markers : Rule → Bool
has_days_and_markers r = is_some r.days && r.lone_markers

-- each number is in its range
abbrev pub is_in_range : Rule → Bool
is_in_range r =
    passes_if_given is_day_count r.days && passes_if_given is_noncurrent_action r.noncurrent && are_bounds r.larger r.smaller

-- the first of these faults whose test passes
abbrev pub fault_where : Bool → RuleFault → Option RuleFault → Option RuleFault
fault_where true fault later = Some fault
fault_where false fault later = later

-- a rule of that id is among these
abbrev pub has_id : List Rule → List ℕ → Bool
has_id rules id = list_any (λ r. bytes_eq r.id id) rules

-- the fault of a rule that stands after these
abbrev pub fault_of : List Rule → Rule → Option RuleFault
fault_of before r =
    fault_where (has_id before r.id) SameId
    (fault_where (not (has_action r)) NoAction
    (fault_where (has_days_and_markers r) DaysAndMarkers
    (fault_where (not (is_in_range r)) OutOfRange None)))

abbrev pub first_of_both : Option RuleFault → Option RuleFault → Option RuleFault
first_of_both None later = later
first_of_both (Some fault) later = Some fault

-- the fault of the first rule at fault, after those before it
abbrev pub first_fault : List Rule → List Rule → Option RuleFault
first_fault before [] = None
first_fault before (r ∷ rs) = first_of_both (fault_of before r) (first_fault (before ++ r ∷ []) rs)

-- what is wrong with a list of rules, if anything is (S3 User Guide, "Lifecycle configuration elements")
abbrev pub rules_fault : List Rule → Option RuleFault
rules_fault [] = Some NoRules
rules_fault (r ∷ rs) = fault_where (nat_lt most_rules (length (r ∷ rs))) TooMany (first_fault [] (r ∷ rs))

-- a list that a bucket may have
abbrev pub is_rule_set : List Rule → Bool
is_rule_set rules = is_none (rules_fault rules)

-- no rules, or a list that a bucket may have
abbrev pub are_rules : List Rule → Bool
are_rules rules = length rules == 0 || is_rule_set rules
