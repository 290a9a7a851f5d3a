use Rattle.std.proofs.Common.{rules, ◌≡◌, length, ap, ◌∙◌}
use Rattle.sqlite_value.specs.declared.value.Value.TheVariants.{Null, Text}
use Rattle.sqlite_value.specs.Order.{column}
use Rattle.vault_audit_rows.proofs.RowLemmas.{row_of_7}
use Rattle.vault_audit_entries.proofs.heads.by_key.read_headed.Goals as goal

pub returns-clause-row : goal.returns-clause-row
returns-clause-row c =
    let row = c.args.row.now in
    let its = c.in_ok-found.ensures in
    let size : length row ≡ 7 = search rules in
    let bucket : column row 4 ≡ Text c.in_ok-bucket.bucket.now = search rules in
    let same_bucket : c.in_ok-bucket.bucket.now ≡ c.in_ok-found.found.bucket = search rules in
    let key : column row 5 ≡ Text c.in_ok-key.key.now = search rules in
    let same_key : c.in_ok-key.key.now ≡ c.in_ok-found.found.key = search rules in
    let held : column row 6 ≡ Null = search rules in
    row_of_7 row _ _ _ _ _ _ _ size its.names.0 its.names.1 its.numbers.0 its.numbers.1
    (bucket ∙ ap (λ t. Text t) same_bucket) (key ∙ ap (λ t. Text t) same_key) held
