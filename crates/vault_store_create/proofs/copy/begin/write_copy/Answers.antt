use Rattle.std.proofs.Common.{sym, ap, subst, ◌∙◌, rules, arith}
use Rattle.std.specs.Prelude.{IsTrue}
use Rattle.sqlite.specs.Held.{Held, state}
use Rattle.sqlite.specs.State.{IsRolledBack, Survives}
use Rattle.vault_audit_rows.specs.Health.{IsHealthy}
use Rattle.vault_store_create.specs.Create.{HasFirst}
use Rattle.vault_store_create.specs.Copied.{IsRefusedFor, registering}
use Rattle.vault_store_create.proofs.copy.begin.write_copy.Goals as goal

pub returns-in_err-put_copy-clause-refused : goal.returns-in_err-put_copy-clause-refused
returns-in_err-put_copy-clause-refused g c v is well_old well bare =
    let begun = c.transaction-tx.ensures.begun in
    let mid = state g.S.Store c.put_copy.new.tx.conn.now in
    let end = state g.S.Store c.new-1.given.0 in
    let undone : IsRolledBack mid end = search rules in
    let kept : Survives mid end (λ _. ⊥) = search rules in
    let before : IsHealthy mid = record {
      clean = omega (arith, well.clean, kept.clean);
      unfailed = omega (arith, well.unfailed, kept.counts);
      is_open = undone.was_open well.is_open;
      unlimited = sym kept.limit ∙ well.unlimited;
    } in
    let inside : IsTrue c.transaction-tx.result.conn.now.in_transaction = ap (λ (h : Held g.row.S.Denot). h.in_transaction) begun in
    let start = subst (λ (h : Held g.row.S.Denot). HasFirst c.args.external 0 (state g.S.Store h).now) (sym begun) bare in
    let one : IsRefusedFor (registering c.args.external v) c.in_err-put_copy.field-0.0 = c.in_err-put_copy.ensures.refused v is well_old before inside start in
    search rules
