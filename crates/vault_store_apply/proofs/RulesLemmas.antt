-- The rules of a bucket put in one after the other are those that the change puts in.
use Rattle.std.proofs.Common.{◌≡◌, ℕ, List, map, filter, not, Option, refl, ap}
use Rattle.vault_base.specs.declared.refusal.Table.TheVariants as table
use Rattle.vault_rules.specs.declared.rule.Rule.{Rule}
use Rattle.vault_core_model.specs.declared.change.Change.TheVariants as change
use Rattle.vault_core_model.specs.Vault.{Vault}
use Rattle.vault_audit_model.specs.declared.rows.RuleRow.{RuleRow}
use Rattle.vault_audit_model.specs.Rows.{rule_row}
use Rattle.vault_audit_model.specs.Spells.{rules_from, rules_if_given}
use Rattle.vault_store_model.specs.Tests.{is_named}
use Rattle.vault_store_model.specs.Edits.{pushed}
use Rattle.vault_store_apply.specs.Parts.{rules_set}
use Rattle.vault_store_apply.specs.Applies.{IsEditOf}

pub edits_rules : (v : Vault) (t : ℕ) (name : List ℕ) (given : List Rule) (rules : Option (List Rule)) → rules_from name 1 given ≡ rules_if_given name rules
    → IsEditOf (rules_set name given t) v t (change.SetRules name rules)
edits_rules v t name given rules same xs table.Meta = refl
edits_rules v t name given rules same xs table.Departments = refl
edits_rules v t name given rules same xs table.Callers = refl
edits_rules v t name given rules same xs table.Buckets = refl
edits_rules v t name given rules same xs table.Rules =
    let left = filter (λ row. not (is_named name row)) (xs table.Rules) in
    ap (λ (rs : List RuleRow). pushed (map rule_row rs) left) same
edits_rules v t name given rules same xs table.Entries = refl
edits_rules v t name given rules same xs table.Contents = refl
edits_rules v t name given rules same xs table.Settings = refl
edits_rules v t name given rules same xs table.Intake = refl
edits_rules v t name given rules same xs table.Heads = refl
edits_rules v t name given rules same xs table.Tenures = refl
edits_rules v t name given rules same xs table.External = refl
