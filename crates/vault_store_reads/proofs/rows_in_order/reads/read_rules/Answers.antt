use Rattle.std.proofs.Common.{◌≡◌, List, Option, IfSome, IsTrue, sym, ap, subst, ◌∙◌}
use Rattle.vault_rules.specs.Rules.{is_rule_set}
use Rattle.vault_rules.specs.declared.rule.Rule.{Rule}
use Rattle.vault_audit_model.specs.Rows.{rule_row}
use Rattle.vault_audit_model.proofs.SameRows.{same_rule}
use Rattle.vault_store_reads.proofs.QueryLemmas.{if_shown}
use Rattle.vault_store_reads.proofs.RuleLemmas.{set_there}
use Rattle.vault_store_reads.specs.Shown.{set_of}
use Rattle.vault_store_reads.proofs.OrderedListLemmas.{map_once}
use Rattle.vault_store_reads.proofs.rows_in_order.reads.read_rules.Goals as goal

pub returns-clause-value : goal.returns-clause-value
returns-clause-value g c clean = if_shown c.decode_rules.result c.decode_rules.ensures.ok (λ found stated v was.
    let rows = c.in_ok-rows.ensures.rows clean v was in
    stated.2 ∙ ap set_of (map_once rule_row same_rule stated.0 rows.0 (sym stated.1 ∙ c.deref.ensures.value ∙ rows.1)) ∙ rows.2)

pub returns-clause-memory : goal.returns-clause-memory
returns-clause-memory g c well v was =
    let rows = c.in_ok-rows.ensures.rows well.clean v was in
    let sound = (c.rule_rows.ensures.read.same well.clean v was well.is_open).0.spells.kept.sound in
    c.decode_rules.ensures.memory (rw c.deref.ensures.value (c.in_ok-rows.ensures.readable well.clean v was)) (λ xs are.
    let same : xs ≡ rows.0 = map_once rule_row same_rule xs rows.0 (sym are ∙ c.deref.ensures.value ∙ rows.1) in
    subst (λ (o : Option (List Rule)). IfSome o (λ rules. IsTrue (is_rule_set rules))) (sym (ap set_of same ∙ rows.2)) (set_there v c.args.bucket.now sound.rule_sets))
