-- The first due rule in configuration order.
use Rattle.std.specs.Prelude.{◌≡◌, refl, List, [], ◌∷◌, true, false, Some, None, codes}
use Rattle.vault_rules.specs.declared.rule.Rule.{Rule}
use Rattle.vault_rules.specs.declared.plan.Step.TheVariants as step
use Rattle.vault_core_model.specs.Vault.{Vault}
use Rattle.vault_core_outcome.specs.Outcome.{vault_after}
use Rattle.vault_rules.specs.KeyPlan.{key_plan}
use Rattle.vault_core_model.specs.Plan.{plan}
use Rattle.vault_tests_days.specs.Script.{by, ann, docs, start, put, set_rules}

abbrev rules : List Rule
rules = (record { id = (codes "r1"); prefix = []; enabled = false; days = Some 1; lone_markers = false; noncurrent = None; larger = None; smaller = None }) ∷ (record { id = (codes "r2"); prefix = codes "k"; enabled = true; days = Some 2; lone_markers = false; noncurrent = None; larger = None; smaller = None }) ∷ (record { id = (codes "r3"); prefix = []; enabled = true; days = Some 1; lone_markers = false; noncurrent = None; larger = None; smaller = None }) ∷ []

third : key_plan rules (codes "k") ((record { id = 1; marker = false; size = 5; admitted = 1709280000; lock = record { retention = None; hold = false } }) ∷ []) 1709424000 ≡ step.Mark 2 ∷ []
third = refl

second : key_plan rules (codes "k") ((record { id = 1; marker = false; size = 5; admitted = 1709280000; lock = record { retention = None; hold = false } }) ∷ []) 1709510400 ≡ step.Mark 1 ∷ []
second = refl

none_due : key_plan rules (codes "k") ((record { id = 1; marker = false; size = 5; admitted = 1709280000; lock = record { retention = None; hold = false } }) ∷ []) 1709423999 ≡ []
none_due = refl

abbrev vault : Vault
vault = vault_after start (by ann 1709280000 (set_rules rules) ∷ by ann 1709280000 (put (codes "k") (codes "hello") None None) ∷ [])

plan_by_the_third : plan vault docs 1709424000 ≡ (record { key = codes "k"; step = step.Mark 2 }) ∷ []
plan_by_the_third = refl

plan_by_the_second : plan vault docs 1709510400 ≡ (record { key = codes "k"; step = step.Mark 1 }) ∷ []
plan_by_the_second = refl

plan_of_none : plan vault docs 1709423999 ≡ []
plan_of_none = refl
