use Rattle.std.proofs.Common.{◌<◌, length, ap, refl, arith}
use Rattle.std.proofs.lemmas.List.{length-map}
use Rattle.std.proofs.lemmas.Option.{slice_get_read}
use Rattle.vault_audit_schema.specs.declared.table.TableForm.{TableForm}
use Rattle.vault_audit_schema.specs.Forms.{table_of}
use Rattle.vault_audit_schema.proofs.DifferenceLemmas.{named_at}
use Rattle.vault_audit_schema.proofs.difference.table_at.Goals as goal

pub returns-in-Some-clause-at : goal.returns-in-Some-clause-at
returns-in-Some-clause-at c t has here =
    let forms = c.tables_of.result.now in
    let form = c.in-Some.form.now in
    let within : c.args.at < length forms = omega (arith, has, here, ap length c.tables_of.ensures.forms, length-map forms table_of) in
    named_at c.args.schema_version (λ (it : TableForm). it.table) forms c.tables_of.ensures.names form c.args.at (slice_get_read forms (length forms) c.args.at form refl within c.in-Some.ensures.lookup.1) t has here
