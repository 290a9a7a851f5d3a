use Rattle.std.proofs.Common.{rules, ◌≡◌, length}
use Rattle.sqlite_value.specs.declared.value.Value.TheVariants.{Text}
use Rattle.sqlite_value.specs.Order.{column}
use Rattle.vault_audit_model.specs.Rows.{author_kind, author_name, removal_at, removal_cause, removal_by}
use Rattle.vault_audit_model.specs.Values.{number, flag, bytes_or_null}
use Rattle.vault_audit_rows.proofs.RowLemmas.{row_of_12}
use Rattle.vault_audit_rows.proofs.records.read_entry.Goals as goal

pub returns-clause-row : goal.returns-clause-row
returns-clause-row c =
    let row = c.args.row.now in
    let e = c.in_ok-marker.field-0 in
    let size : length row ≡ 12 = search rules in
    let id : column row 0 ≡ number c.in_ok-id.id = search rules in
    let bucket : column row 1 ≡ Text c.in_ok-bucket.bucket = search rules in
    let key : column row 2 ≡ Text c.in_ok-key.key = search rules in
    let marker : column row 3 ≡ flag e.marker = search rules in
    let bytes : column row 4 ≡ number e.size = search rules in
    let digest : column row 5 ≡ bytes_or_null e.digest = search rules in
    let admitted : column row 6 ≡ number c.in_ok-admitted.admitted = search rules in
    let kind : column row 7 ≡ author_kind c.in_ok-by.by = search rules in
    let by : column row 8 ≡ author_name c.in_ok-by.by = search rules in
    let at : column row 9 ≡ removal_at c.in_ok-removal.removal = search rules in
    let cause : column row 10 ≡ removal_cause c.in_ok-removal.removal = search rules in
    let who : column row 11 ≡ removal_by c.in_ok-removal.removal = search rules in
    row_of_12 row _ _ _ _ _ _ _ _ _ _ _ _ size id bucket key marker bytes digest admitted kind by at cause who
