-- The running checks of contents.
use Rattle.std.specs.Prelude.{◌+◌, ◌≤◌}
use Rattle.vault_audit_model.specs.declared.rows.ContentRow.{ContentRow}
use Rattle.vault_audit_model.specs.Limits.{IsContentRow}
use Rattle.vault_audit_entries.specs.declared.contents.beside.ContentPass.{ContentPass}

-- bytes of a greater id than those before them
abbrev pub ComesLater : ContentPass → ContentRow → Type 0
ComesLater p c = IsContentRow c × (p.next ≤ c.id)

abbrev pub with_content : ContentPass → ContentRow → ContentPass
with_content p c = record { next = c.id + 1; count = p.count + 1 }
