use Rattle.std.proofs.Common.{rules, ◌≡◌, ◌+◌, length, true, List, sym, subst, ◌∙◌, arith}
use Rattle.sqlite.specs.State.{HasCleanDisk}
use Rattle.sqlite.specs.Held.{state}
use Rattle.vault_audit_model.specs.declared.rows.DepartmentRow.{DepartmentRow}
use Rattle.vault_audit_model.specs.Tables.{entries_tree}
use Rattle.vault_audit_records.specs.ByName.{AreDepartmentsByName}
use Rattle.vault_audit.proofs.second_pass.departments.look_at_departments.Goals as goal

pub returns-clause-reported : goal.returns-clause-reported
returns-clause-reported g c clean =
    let later : HasCleanDisk (state g.S.Store c.check_departments_by_name.new.conn) = omega (arith, c.in_ok-sums.ensures.look.crash.clean) in
    let early : HasCleanDisk (state g.S.Store c.check_next.new.conn) = omega (arith, c.in_ok-departments.ensures.look.crash.clean, c.in_ok-sums.ensures.look.crash.clean) in
    let last = (c.in_ok-sums.ensures.look.same clean).0.now_is in
    let middle = (c.in_ok-departments.ensures.look.same later).0.now_is in
    let counted : c.in_ok-next.next ≡ true = search rules in
    let named : c.in_ok-departments.departments ≡ true = search rules in
    let summed : c.in_ok-sums.sums ≡ true = search rules in
    let next = rw counted at (c.in_ok-next.ensures.reported early) in
    let departments = rw named at (c.in_ok-departments.ensures.reported later) in
    record {
      next = subst (λ db. c.args.meta.now.next ≡ length (db.trees entries_tree) + 1) (sym (last ∙ middle)) next;
      departments = subst (λ db. (ds : List DepartmentRow) × AreDepartmentsByName c.args.schema_version db ds) (sym last) departments;
      sums = λ v buckets entries past tenures. rw summed at (c.in_ok-sums.ensures.reported clean v buckets entries past tenures);
    }
