use Rattle.std.proofs.Common.{List, Option, IfSome, sym, ap, subst, ◌∙◌}
use Rattle.std.specs.Prelude.{slice_get}
use Rattle.vault_audit_model.specs.declared.rows.DepartmentRow.{DepartmentRow}
use Rattle.vault_core_model.specs.Totals.{IsRowFor}
use Rattle.vault_core_model.specs.declared.records.Tenure.{Tenure}
use Rattle.vault_store_model.proofs.KnownLemmas.{marker_known, meta_admits, version_known}
use Rattle.vault_store_model.proofs.known.Known.admit.Goals as goal

pub returns-in_default : goal.returns-in_default
returns-in_default c v sound later is known =
    let a = c.args.admission.now in
    let none = ap (λ (ts : List Tenure). slice_get ts 0) (sym c.as_slice.ensures) ∙ sym c.in_default.ensures.value in (
      meta_admits c.args.self.now.meta c.next_meta-self.result v c.args.at a known.0 c.next_meta-self.ensures,
      known.1,
      marker_known v c.args.at a c.args.self.now.sums is none known.2,
      tt,
    )

pub returns : goal.returns
returns c v sound later is known =
    let a = c.args.admission.now in
    let one = ap (λ (ts : List Tenure). slice_get ts 0) (sym c.as_slice.ensures) ∙ sym c.in-Some.ensures.value in (
      meta_admits c.args.self.now.meta c.next_meta-self.result v c.args.at a known.0 c.next_meta-self.ensures,
      known.1,
      version_known v c.args.at a c.in-Some.tenure.now c.take.result c.sums_with.result sound later c.moment_is_in_range.ensures is one
          (subst (λ (o : Option DepartmentRow). IfSome o (λ d. IsRowFor v d.name d.sums)) (sym c.take.ensures.value) known.2) c.sums_with.ensures,
      tt,
    )
