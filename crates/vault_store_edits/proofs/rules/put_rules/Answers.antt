use Rattle.std.proofs.Common.{rules, false, List, ◌≡◌, ◌≤◌, ◌+◌, ℕ, refl, length, map, sym, subst, arith}
use Rattle.std.specs.List.{AllByRecursion}
use Rattle.std.proofs.lemmas.List.{take_all}
use Rattle.sqlite.specs.State.{HasCleanDisk}
use Rattle.sqlite.specs.Held.{state}
use Rattle.sqlite.proofs.StateLemmas.{survives_then}
use Rattle.vault_base.specs.declared.refusal.Table.TheVariants as table
use Rattle.vault_rules.specs.declared.rule.Rule.{Rule}
use Rattle.vault_audit_model.specs.Rows.{rule_row}
use Rattle.vault_audit_model.specs.Spells.{rules_from}
use Rattle.vault_store_model.specs.Edits.{with_row, Edits, with_each}
use Rattle.vault_store_model.proofs.EditLemmas.{edits_then}
use Rattle.vault_store_edits.proofs.QueryLemmas.{kept_itself, survives_itself}
use Rattle.vault_store_edits.proofs.StatementLemmas.{kept_then}
use Rattle.vault_store_edits.proofs.TransactionLemmas.{on_err_here}
use Rattle.vault_store_edits.specs.Typed.{IsTypedRule}
use Rattle.vault_store_edits.proofs.RulesLemmas.{no_rows, with_first, one_rule_more, one_typed_more, kept_edit}
use Rattle.vault_store_edits.proofs.rules.put_rules.Goals as goal

pub loop-rule-init : goal.loop-rule-init
loop-rule-init g c =
    let old = state g.S.Store c.args.tx.now.conn.now in
    (refl, refl, survives_itself old, λ clean inside. (kept_itself old, inside), λ external clean inside is_open. no_rows table.Rules old is_open inside external, λ external clean inside has live. (live, has), tt)

pub loop-rule-preserved : goal.loop-rule-preserved
loop-rule-preserved g c =
    let old = state g.S.Store c.args.tx.now.conn.now in
    let mid = state g.S.Store c.loop-rule.tx.conn.now in
    let new = state g.S.Store c.put_rule.new.tx.conn.now in
    let one = c.in_ok-put_rule.ensures in
    let was = c.loop-rule.invariant in
    let n = c.loop-rule.rule-index in
    let bucket = c.args.bucket.now in
    let all = c.args.rules.now in
    let rule = c.rule-item.result in
    let place : c.loop-rule.place + 1 ≡ n + 1 = omega (arith, was.1) in (
      search rules,
      place,
      survives_then old mid new (λ _. ⊥) (λ _. ⊥) (λ _. ⊥) (λ _ _ h. h) (λ _ _ h. h) was.2 one.edit.survives,
      λ clean inside.
          let early : HasCleanDisk mid = omega (arith, clean, one.edit.survives.clean) in
          let before = was.3 early inside in
          let e = one.edit.edits false clean before.1 in
          (kept_then old mid new before.0 (kept_edit false mid new _ e), e.inside),
      λ external clean inside is_open.
          let early : HasCleanDisk mid = omega (arith, clean, one.edit.survives.clean) in
          let before = was.4 external early inside is_open in
          let row = λ (at : ℕ). with_row table.Rules (rule_row (record { bucket = bucket; place = at; rule = rule })) in
          let next = subst (λ at. Edits external mid new (row at)) place (one.edit.edits external clean before.inside) in
          subst (Edits external old new) (sym (one_rule_more bucket all n rule c.loop-rule-test.true c.rule-item.is)) (edits_then external old mid new (with_first bucket all n) (row (n + 1)) before next),
      λ external clean inside has live.
          let early : HasCleanDisk mid = omega (arith, clean, one.edit.survives.clean) in
          let here = (was.3 early inside).1 in
          let before = was.5 external early inside has live in
          let e = one.edit.edits external clean here in
          (one.edit.sound external clean here before.1, e.schema before.1),
      one_typed_more all n rule c.loop-rule-test.true c.rule-item.is was.6 one.limits,
    )

pub returns-clause-edits : goal.returns-clause-edits
returns-clause-edits g c external clean inside is_open =
    let it = c.loop-rule.invariant.4 external clean inside is_open in
    let high : length c.args.rules.now ≤ c.loop-rule.rule-index = search rules in
    subst (λ (rs : List Rule). Edits external (state g.S.Store c.args.tx.now.conn.now) (state g.S.Store c.loop-rule.tx.conn.now) (with_each table.Rules (map rule_row (rules_from c.args.bucket.now 1 rs)))) (take_all c.loop-rule.rule-index c.args.rules.now high) it

pub returns-clause-limits : goal.returns-clause-limits
returns-clause-limits g c =
    let high : length c.args.rules.now ≤ c.loop-rule.rule-index = search rules in
    subst (AllByRecursion IsTypedRule) (take_all c.loop-rule.rule-index c.args.rules.now high) c.loop-rule.invariant.6

pub returns-clause-sound : goal.returns-clause-sound
returns-clause-sound g c external clean inside has live = (c.loop-rule.invariant.5 external clean inside has live).0

pub returns-in_err-put_rule-clause-kept : goal.returns-in_err-put_rule-clause-kept
returns-in_err-put_rule-clause-kept g c clean inside =
    let old = state g.S.Store c.args.tx.now.conn.now in
    let mid = state g.S.Store c.loop-rule.tx.conn.now in
    let new = state g.S.Store c.put_rule.new.tx.conn.now in
    let early : HasCleanDisk mid = omega (arith, clean, c.put_rule.ensures.edit.survives.clean) in
    let before = c.loop-rule.invariant.3 early inside in
    on_err_here _ (kept_then old mid new before.0 (c.in_err-put_rule.ensures.edit.kept clean before.1))
