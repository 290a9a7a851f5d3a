use Rattle.std.proofs.Common.{rules, ◌≡◌, ◌≤◌, length, ◌∙◌, ap}
use Rattle.sha2.specs.Sha256.{sha256}
use Rattle.sqlite_value.specs.declared.value.Value.TheVariants.{Null, Blob}
use Rattle.sqlite_value.specs.Order.{column}
use Rattle.vault_base.specs.Limits.{most_content}
use Rattle.vault_audit_model.specs.Values.{number}
use Rattle.vault_audit_rows.proofs.RowLemmas.{row_of_5}
use Rattle.vault_audit_entries.proofs.contents.beside.read_held.Goals as goal

pub returns-clause-ok : goal.returns-clause-ok
returns-clause-ok c =
    let row = c.args.row.now in
    let count : length row ≡ 5 = search rules in
    let id : column row 0 ≡ number c.in_ok-id.id = search rules in
    let content : column row 1 ≡ Blob c.in_ok-content.content = search rules in
    let shown : column row 2 ≡ number c.in_ok-size.size = search rules in
    let sized : c.in_ok-size.size ≡ length c.in_ok-content.content = search rules in
    let bytes : column row 3 ≡ Blob c.in_ok-digest.digest.now = search rules in
    let digested : c.in_ok-digest.digest.now ≡ sha256 c.in_ok-content.content = search rules in
    let null : column row 4 ≡ Null = search rules in
    let small : length c.in_ok-content.content ≤ most_content = search rules in
    (row_of_5 row _ _ _ _ _ count id content (shown ∙ ap number sized) (bytes ∙ ap Blob digested) null, record { id = search rules; size = small })
