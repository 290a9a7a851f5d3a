use Rattle.std.proofs.Common.{◌≡◌, ◌==◌, ℕ, Bool, true, false, refl, sym, ap, ◌∙◌}
use Rattle.vault_audit_model.specs.declared.rows.MetaRow.{MetaRow}
use Rattle.vault_audit_model.specs.SchemaVersions.{edition_of, number_of}
use Rattle.vault_store.proofs.find.find_external.Goals as goal

by_number : (external : Bool) → (number_of (edition_of external) == 4) ≡ external
by_number false = refl
by_number true = refl

pub returns-clause-value : goal.returns-clause-value
returns-clause-value g c clean v keeps known =
    let meta = c.in_ok-meta.ensures.value clean v keeps known in
    rw (c.number.ensures, ap (λ (m : MetaRow). m.schema) meta) (by_number v.external)
