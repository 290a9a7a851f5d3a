use Rattle.std.proofs.Common.{rules, ◌≡◌, length, ap, ◌∙◌}
use Rattle.sqlite_value.specs.declared.value.Value.TheVariants.{Text, Blob}
use Rattle.sqlite_value.specs.Order.{column}
use Rattle.vault_audit_model.specs.Values.{number}
use Rattle.vault_audit_rows.proofs.RowLemmas.{row_of_14}
use Rattle.vault_audit_entries.proofs.intake.read_noted.Goals as goal

pub returns-clause-row : goal.returns-clause-row
returns-clause-row c =
    let row = c.args.row.now in
    let its = c.in_ok-note.ensures in
    let size : length row ≡ 14 = search rules in
    let bucket : column row 10 ≡ Text c.in_ok-bucket.bucket.now = search rules in
    let same_bucket : c.in_ok-bucket.bucket.now ≡ c.in_ok-note.note.bucket = search rules in
    let key : column row 11 ≡ Text c.in_ok-key.key.now = search rules in
    let same_key : c.in_ok-key.key.now ≡ c.in_ok-note.note.key = search rules in
    let extent : column row 12 ≡ number c.in_ok-size.size = search rules in
    let same_size : c.in_ok-size.size ≡ c.in_ok-note.note.size = search rules in
    let bytes : column row 13 ≡ Blob c.in_ok-digest.digest.now = search rules in
    let same_bytes : c.in_ok-digest.digest.now ≡ c.in_ok-note.note.digest = search rules in
    row_of_14 row _ _ _ _ _ _ _ _ _ _ _ _ _ _ size its.names.0 its.names.1 its.names.2 its.names.3 its.extent.0 its.extent.1 its.lock.0 its.lock.1 its.lock.2 its.id
    (bucket ∙ ap (λ t. Text t) same_bucket) (key ∙ ap (λ t. Text t) same_key) (extent ∙ ap number same_size) (bytes ∙ ap (λ b. Blob b) same_bytes)
