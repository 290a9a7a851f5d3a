use Rattle.sqlite.specs.Held.{state}
use Rattle.sqlite.proofs.StateLemmas.{survives_weaker}
use Rattle.vault_core_model.specs.declared.change.Change.TheVariants as change
use Rattle.vault_store_apply.specs.Applies.{Changes}
use Rattle.vault_store_apply.proofs.ApplyLemmas.{on_ok_then}
use Rattle.vault_store_apply.proofs.LimitLemmas.{rules_in_limits}
use Rattle.vault_store_apply.proofs.RulesLemmas.{edits_rules}
use Rattle.vault_store_apply.proofs.records.set_rules.Goals as goal

pub returns-clause-done : goal.returns-clause-done
returns-clause-done g c clean =
    let old = state g.S.Store c.args.conn.now in
    let new = state g.S.Store c.commit_part.new.conn in
    let name = c.args.name.now in
    on_ok_then (Changes old new c.args.at (change.SetRules name c.args.rules.now)) c.commit_part.result (c.commit_part.ensures.done clean)
    (λ stated v was later allowed. stated.1 v (change.SetRules name c.args.rules.now) stated.0.0 (rules_in_limits _ c.args.rules.now c.rules_given-rules.ensures.same stated.0.1 allowed.1) was later allowed (λ is_open. edits_rules v c.args.at name _ c.args.rules.now (c.rules_given-rules.ensures.rows name)))

pub returns-clause-crash : goal.returns-clause-crash
returns-clause-crash g c =
    let old = state g.S.Store c.args.conn.now in
    let new = state g.S.Store c.commit_part.new.conn in
    let name = c.args.name.now in
    survives_weaker old new _ _ (λ late trees stated v was later allowed. stated.1 v (change.SetRules name c.args.rules.now) stated.0.0 (rules_in_limits _ c.args.rules.now c.rules_given-rules.ensures.same stated.0.1 allowed.1) was later allowed (λ is_open. edits_rules v c.args.at name _ c.args.rules.now (c.rules_given-rules.ensures.rows name))) c.commit_part.ensures.crash
