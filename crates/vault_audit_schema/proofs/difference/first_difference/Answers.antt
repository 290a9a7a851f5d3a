use Rattle.std.proofs.Common.{◌≡◌, rules}
use Rattle.vault_audit_schema.proofs.DifferenceLemmas.{reported_in, first_in}
use Rattle.vault_audit_schema.proofs.difference.first_difference.Goals as goal

pub returns-in-Some-clause-reported : goal.returns-in-Some-clause-reported
returns-in-Some-clause-reported c =
    let same : c.as_slice.result.now ≡ c.args.schema.now.tables = search rules in
    reported_in c.args.schema_version c.args.schema.now c.as_slice.result.now c.in-Some.table same c.in-Some.ensures

pub returns-in-Some-clause-first : goal.returns-in-Some-clause-first
returns-in-Some-clause-first c =
    let same : c.as_slice.result.now ≡ c.args.schema.now.tables = search rules in
    first_in c.args.schema_version c.args.schema.now c.as_slice.result.now c.in-Some.table same c.in-Some.ensures
