use Rattle.std.proofs.Common.{◌≡◌, ◌≢◌, ℕ, ◌+◌, false, true, Some, get_or, sym, subst, rules, arith}
use Rattle.sqlite.specs.Effect.{Database}
use Rattle.sqlite.specs.State.{HasCleanDisk}
use Rattle.sqlite.specs.Held.{state}
use Rattle.sqlite.proofs.Callers.{unchanged_then}
use Rattle.vault_base.specs.declared.refusal.Table.TheVariants.{Meta}
use Rattle.vault_audit_model.specs.Order.{place_of}
use Rattle.vault_audit_rows.proofs.ScanLemmas.{still}
use Rattle.vault_audit.specs.Looks.{Differs}
use Rattle.vault_audit.proofs.OrderLemmas.{AreRightTo, IsFrom, all_right, at_table, begin_at, begin_meta, after_meta, from_after, from_next, is_not, meta_right, no_difference, place_after, right_more, right_row, survives_itself, survives_more, stated_by_form, stated_by_rows}
use Rattle.vault_audit.proofs.first_pass.in_order.look_at_tables.Goals as goal

pub loop-table-init : goal.loop-table-init
loop-table-init g c =
    let old = state g.S.Store c.args.conn.now in
    let n = c.args.schema_version in (
      survives_itself old,
      from_after c.args.difference c.requires.after,
      λ clean. (still old (c.requires.open clean), meta_right n old.now c.args.meta.now (begin_meta n old.now.schema c.args.difference (c.requires.difference clean) c.requires.after) (c.requires.meta clean)),
    )

pub loop-table-preserved : goal.loop-table-preserved
loop-table-preserved g c =
    let old = state g.S.Store c.args.conn.now in
    let mid = state g.S.Store c.loop-table.conn in
    let new = state g.S.Store c.check_rows_of.new.conn in
    let n = c.args.schema_version in
    let d = c.args.difference in
    let place = c.loop-table.table-index + 1 in
    let t = get_or after_meta c.loop-table.table-index Meta in
    let here : place_of t ≡ place = place_after c.loop-table.table-index c.loop-table-test.true in
    let was = c.loop-table.invariant in
    let other : d ≢ Some t = is_not c.is_at.result c.if-is_at.false c.is_at.ensures in
    let from = from_next d t place here was.1 other in (
      survives_more old mid new was.0 c.in_ok-right.ensures.look.crash,
      from,
      λ clean.
          let early : HasCleanDisk mid = omega (arith, c.in_ok-right.ensures.look.crash.clean) in
          let start : HasCleanDisk old = omega (arith, c.in_ok-right.ensures.look.crash.clean, was.0.clean) in
          let before = was.2 early in
          let one = c.in_ok-right.ensures.look.same clean in
          let all = unchanged_then old mid new before.0 one in
          let yes : c.in_ok-right.right ≡ true = search rules in
          let right = rw yes at (c.in_ok-right.ensures.reported clean) in
          let differs = subst (λ (db : Database). Differs n db.schema d) (sym all.0.now_is) (c.requires.difference start) in
          let so_far = subst (λ (db : Database). AreRightTo n db place) (sym one.0.now_is) before.1 in
          (all, right_more n new.now t place here so_far (right_row n new.now t (begin_at n new.now.schema d t place here differs from) right)),
    )

pub check_rows_of-requires-clause-begin : goal.check_rows_of-requires-clause-begin
check_rows_of-requires-clause-begin g c clean =
    let old = state g.S.Store c.args.conn.now in
    let mid = state g.S.Store c.loop-table.conn in
    let n = c.args.schema_version in
    let d = c.args.difference in
    let place = c.loop-table.table-index + 1 in
    let t = get_or after_meta c.loop-table.table-index Meta in
    let here : place_of t ≡ place = place_after c.loop-table.table-index c.loop-table-test.true in
    let was = c.loop-table.invariant in
    let other : d ≢ Some t = is_not c.is_at.result c.if-is_at.false c.is_at.ensures in
    let start : HasCleanDisk old = omega (arith, was.0.clean) in
    let differs = subst (λ (db : Database). Differs n db.schema d) (sym (was.2 clean).0.0.now_is) (c.requires.difference start) in
    begin_at n mid.now.schema d t place here differs (from_next d t place here was.1 other)

pub returns-then-is_at-clause-reported : goal.returns-then-is_at-clause-reported
returns-then-is_at-clause-reported g c clean =
    let old = state g.S.Store c.args.conn.now in
    let mid = state g.S.Store c.loop-table.conn in
    let n = c.args.schema_version in
    let d = c.args.difference in
    let t = get_or after_meta c.loop-table.table-index Meta in
    let here : place_of t ≡ c.loop-table.table-index + 1 = place_after c.loop-table.table-index c.loop-table-test.true in
    let was = c.loop-table.invariant in
    let start : HasCleanDisk old = omega (arith, was.0.clean) in
    let before = was.2 clean in
    let differs = subst (λ (db : Database). Differs n db.schema d) (sym before.0.0.now_is) (c.requires.difference start) in
    stated_by_form n mid.now t (λ u less. before.1 u (omega (arith, here, less))) (at_table n mid.now.schema d t (c.is_at.ensures.0 c.if-is_at.true) differs)

pub returns-then-not-right-clause-reported : goal.returns-then-not-right-clause-reported
returns-then-not-right-clause-reported g c clean =
    let mid = state g.S.Store c.loop-table.conn in
    let new = state g.S.Store c.check_rows_of.new.conn in
    let n = c.args.schema_version in
    let place = c.loop-table.table-index + 1 in
    let t = get_or after_meta c.loop-table.table-index Meta in
    let here : place_of t ≡ place = place_after c.loop-table.table-index c.loop-table-test.true in
    let early : HasCleanDisk mid = omega (arith, c.in_ok-right.ensures.look.crash.clean) in
    let one = c.in_ok-right.ensures.look.same clean in
    let wrong : c.in_ok-right.right ≡ false = c.if-not-right.true in
    let so_far = subst (λ (db : Database). AreRightTo n db place) (sym one.0.now_is) (c.loop-table.invariant.2 early).1 in
    stated_by_rows n new.now t (λ u less. so_far u (omega (arith, here, less))) (rw wrong at (c.in_ok-right.ensures.reported clean)) (c.in_ok-right.ensures.damaged clean wrong)

pub returns-clause-reported : goal.returns-clause-reported
returns-clause-reported g c clean =
    let old = state g.S.Store c.args.conn.now in
    let mid = state g.S.Store c.loop-table.conn in
    let n = c.args.schema_version in
    let was = c.loop-table.invariant in
    let start : HasCleanDisk old = omega (arith, was.0.clean) in
    let before = was.2 clean in
    let end : c.loop-table.table-index + 1 ≡ 12 = omega (arith, c.loop-table-test.false, c.loop-table.auto.table-index-end) in
    let differs = subst (λ (db : Database). Differs n db.schema c.args.difference) (sym before.0.0.now_is) (c.requires.difference start) in
    all_right n mid.now (subst (AreRightTo n mid.now) end before.1) (no_difference n mid.now.schema c.args.difference differs (subst (λ (k : ℕ). IsFrom k c.args.difference) end was.1))
