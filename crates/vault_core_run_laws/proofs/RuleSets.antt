-- The rules of each bucket of a sound vault are a rule set, or none.
use Rattle.std.proofs.Common.{◌≡◌, ℕ, List, [], ◌∷◌, length, Bool, true, false, Option, Some, None, refl, IsTrue}
use Rattle.std.specs.Prelude.{IfSome, find, unwrap_or, option_and_then, ◌==◌, ◌||◌, if◌then◌else◌}
use Rattle.std.specs.List.{AllByRecursion}
use Rattle.std.specs.Str.{bytes_eq}
use Rattle.vault_rules.specs.declared.rule.Rule.{Rule}
use Rattle.vault_rules.specs.Rules.{is_rule_set, are_rules, passes_if_given}
use Rattle.vault_core_model.specs.declared.records.Bucket.{Bucket}
use Rattle.vault_core_model.specs.Vault.{Vault, bucket_in}
use Rattle.vault_core_model.specs.Plan.{rules_in}
use Rattle.vault_core_model.specs.Sound.{HasRuleSet, Sound}

found_in : (p : Bucket → Bool) (bs : List Bucket) → AllByRecursion HasRuleSet bs → IfSome (find p bs) HasRuleSet
found_in p [] all = tt
found_in p (b ∷ bs) all = elim (p b) as (λ x. IfSome (if x then Some b else find p bs) HasRuleSet) [ true ↦ all.0 | false ↦ found_in p bs all.1 ]

any_or_true : (b c : Bool) → c ≡ true → (b || c) ≡ true
any_or_true true c e = refl
any_or_true false c e = e

are_rules_of : (o : Option (List Rule)) → IsTrue (passes_if_given is_rule_set o) → IsTrue (are_rules (unwrap_or o []))
are_rules_of None are = refl
are_rules_of (Some rules) are = any_or_true (length rules == 0) (is_rule_set rules) are

are_rules_found : (o : Option Bucket) → IfSome o HasRuleSet → IsTrue (are_rules (unwrap_or (option_and_then (λ (b : Bucket). b.rules) o) []))
are_rules_found None are = refl
are_rules_found (Some b) are = are_rules_of b.rules are

pub are_rules_in : (v : Vault) (bucket : List ℕ) → Sound v → IsTrue (are_rules (rules_in v bucket))
are_rules_in v bucket sound = are_rules_found (bucket_in v.buckets bucket) (found_in (λ b. bytes_eq b.name bucket) v.buckets sound.rule_sets)
