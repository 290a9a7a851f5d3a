use Rattle.std.proofs.Common.{rules, ◌≡◌, length}
use Rattle.sqlite_value.specs.declared.value.Value.TheVariants.{Text, Blob}
use Rattle.sqlite_value.specs.Order.{column}
use Rattle.vault_audit_model.specs.Rows.{retention_mode, retention_until}
use Rattle.vault_audit_model.specs.Values.{number, flag_or_null}
use Rattle.vault_audit_rows.proofs.RowLemmas.{row_of_10}
use Rattle.vault_audit_rows.proofs.records.read_note.Goals as goal

pub returns-clause-row : goal.returns-clause-row
returns-clause-row c =
    let row = c.args.row.now in
    let size : length row ≡ 10 = search rules in
    let bucket : column row 0 ≡ Text c.in_ok-bucket.bucket = search rules in
    let batch : column row 1 ≡ Text c.in_ok-batch.batch = search rules in
    let line : column row 2 ≡ number c.in_ok-line.line = search rules in
    let key : column row 3 ≡ Text c.in_ok-key.key = search rules in
    let bytes : column row 4 ≡ number c.in_ok-size.size = search rules in
    let digest : column row 5 ≡ Blob c.in_ok-digest.digest = search rules in
    let mode : column row 6 ≡ retention_mode c.in_ok-retention.retention = search rules in
    let until : column row 7 ≡ retention_until c.in_ok-retention.retention = search rules in
    let hold : column row 8 ≡ flag_or_null c.in_ok-hold.hold = search rules in
    let id : column row 9 ≡ number c.in_ok-id.id = search rules in
    row_of_10 row _ _ _ _ _ _ _ _ _ _ size bucket batch line key bytes digest mode until hold id
