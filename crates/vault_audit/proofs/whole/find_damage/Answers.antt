use Rattle.std.proofs.Common.{rules, ◌≡◌, Some, None, sym, subst, ◌∙◌, arith}
use Rattle.sqlite.specs.Effect.{Database}
use Rattle.sqlite.specs.State.{HasCleanDisk}
use Rattle.sqlite.specs.Held.{state}
use Rattle.vault_base.specs.declared.refusal.Table.TheVariants.{Meta, Entries}
use Rattle.vault_audit_records.specs.Meta.{IsMetaOf}
use Rattle.vault_audit.specs.InOrder.{ReportedInOrder}
use Rattle.vault_audit.specs.Looks.{Differs}
use Rattle.vault_audit.proofs.OrderLemmas.{at_table, begin_meta, differs_as, is_not, meta_by_form, meta_by_rows, stated_beside_others}
use Rattle.vault_audit.proofs.SoundLemmas.{sound_vault}
use Rattle.vault_audit.proofs.whole.find_damage.Goals as goal

pub returns-then-is_at-clause-reported : goal.returns-then-is_at-clause-reported
returns-then-is_at-clause-reported g c clean =
    let db = (state g.S.Store c.args.conn.now).now in
    let n = c.args.schema_version in
    let d = c.check_schema-difference.result in
    (meta_by_form n db (at_table n db.schema d Meta (c.is_at.ensures.0 c.if-is_at.true) (differs_as n db.schema d c.check_schema-difference.ensures.found c.check_schema-difference.ensures.reported))).1

pub returns-then-is_at-clause-order : goal.returns-then-is_at-clause-order
returns-then-is_at-clause-order g c clean =
    let db = (state g.S.Store c.args.conn.now).now in
    let n = c.args.schema_version in
    let d = c.check_schema-difference.result in
    (meta_by_form n db (at_table n db.schema d Meta (c.is_at.ensures.0 c.if-is_at.true) (differs_as n db.schema d c.check_schema-difference.ensures.found c.check_schema-difference.ensures.reported))).0

pub check_meta-requires : goal.check_meta-requires
check_meta-requires g c clean =
    let s = (state g.S.Store c.args.conn.now).now.schema in
    let d = c.check_schema-difference.result in
    begin_meta c.args.schema_version s d (differs_as c.args.schema_version s d c.check_schema-difference.ensures.found c.check_schema-difference.ensures.reported) (is_not c.is_at.result c.if-is_at.false c.is_at.ensures)

pub returns-in_default-clause-order : goal.returns-in_default-clause-order
returns-in_default-clause-order g c clean =
    let db = (state g.S.Store c.check_meta.new.conn).now in
    (meta_by_rows c.args.schema_version db (rw c.in_default.is at (c.in_ok-meta.ensures.reported clean)) (c.in_ok-meta.ensures.damaged clean c.in_default.is)).0

pub look_at_tables-requires-clause-difference : goal.look_at_tables-requires-clause-difference
look_at_tables-requires-clause-difference g c clean =
    let n = c.args.schema_version in
    let s = (state g.S.Store c.args.conn.now).now.schema in
    let d = c.check_schema-difference.result in
    subst (λ (db : Database). Differs n db.schema d) (sym (c.in_ok-meta.ensures.look.same clean).0.now_is) (differs_as n s d c.check_schema-difference.ensures.found c.check_schema-difference.ensures.reported)

pub look_at_tables-requires-clause-after : goal.look_at_tables-requires-clause-after
look_at_tables-requires-clause-after g c = is_not c.is_at.result c.if-is_at.false c.is_at.ensures

pub look_at_tables-requires-clause-meta : goal.look_at_tables-requires-clause-meta
look_at_tables-requires-clause-meta g c clean = rw c.in-Some.is at (c.in_ok-meta.ensures.reported clean)

pub look_at_tables-requires-clause-open : goal.look_at_tables-requires-clause-open
look_at_tables-requires-clause-open g c clean = (c.in_ok-meta.ensures.look.same clean).0.is_open

pub returns-in-Some-2-clause-reported : goal.returns-in-Some-2-clause-reported
returns-in-Some-2-clause-reported g c clean = let stated = rw c.in-Some-2.is at (c.in_ok-table.ensures.reported clean) in stated.1

pub returns-in-Some-2-clause-order : goal.returns-in-Some-2-clause-order
returns-in-Some-2-clause-order g c clean = let stated = rw c.in-Some-2.is at (c.in_ok-table.ensures.reported clean) in stated.0

pub look_again-requires : goal.look_again-requires
look_again-requires g c clean =
    let right : c.in_ok-table.field-0 ≡ None = search rules in
    (rw right at (c.in_ok-table.ensures.reported clean)).0

pub returns-in-Some-3-clause-reported : goal.returns-in-Some-3-clause-reported
returns-in-Some-3-clause-reported g c clean =
    let later : HasCleanDisk (state g.S.Store c.look_at_tables.new.conn) = omega (arith, c.in_ok-table-2.ensures.look.crash.clean) in
    let early : HasCleanDisk (state g.S.Store c.check_meta.new.conn) = omega (arith, c.in_ok-table.ensures.look.crash.clean, later) in
    let same = (c.in_ok-table-2.ensures.look.same clean).0.now_is ∙ (c.in_ok-table.ensures.look.same later).0.now_is in
    let meta = rw c.in-Some.is at (c.in_ok-meta.ensures.reported early) in
    (rw c.in-Some-3.is at (c.in_ok-table-2.ensures.reported clean)) (subst (λ (db : Database). IsMetaOf c.args.schema_version db (Some c.in-Some.meta)) (sym same) meta)

pub returns-in-Some-3-clause-order : goal.returns-in-Some-3-clause-order
returns-in-Some-3-clause-order g c clean =
    let later : HasCleanDisk (state g.S.Store c.look_at_tables.new.conn) = omega (arith, c.in_ok-table-2.ensures.look.crash.clean) in
    let right : c.in_ok-table.field-0 ≡ None = search rules in
    let all = rw right at (c.in_ok-table.ensures.reported later) in
    stated_beside_others c.args.schema_version (state g.S.Store c.look_again.new.conn).now c.in-Some-3.table (subst (λ (db : Database). ReportedInOrder c.args.schema_version db None) (sym (c.in_ok-table-2.ensures.look.same clean).0.now_is) all)

pub returns-clause-reported : goal.returns-clause-reported
returns-clause-reported g c clean =
    let n = c.args.schema_version in
    let later : HasCleanDisk (state g.S.Store c.look_at_tables.new.conn) = omega (arith, c.in_ok-table-2.ensures.look.crash.clean) in
    let early : HasCleanDisk (state g.S.Store c.check_meta.new.conn) = omega (arith, c.in_ok-table.ensures.look.crash.clean, later) in
    let same = (c.in_ok-table-2.ensures.look.same clean).0 in
    let last = same.now_is in
    let middle = (c.in_ok-table.ensures.look.same later).0.now_is in
    let right : c.in_ok-table.field-0 ≡ None = search rules in
    let sound : c.in_ok-table-2.field-0 ≡ None = search rules in
    let m = c.in-Some.meta in
    let meta = subst (λ (db : Database). IsMetaOf n db (Some m)) (sym (last ∙ middle)) (rw c.in-Some.is at (c.in_ok-meta.ensures.reported early)) in
    let all = subst (λ (db : Database). ReportedInOrder n db None) (sym last) (rw right at (c.in_ok-table.ensures.reported later)) in
    let found = rw sound at (c.in_ok-table-2.ensures.reported clean) in
    sound_vault n (state g.S.Store c.look_again.new.conn).now m all.0 (c.references_hold.ensures same.is_open all.0) meta ((all.1 Entries).1 m meta) found
