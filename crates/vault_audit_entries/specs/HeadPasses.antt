-- The running check of heads.
use Rattle.std.specs.Prelude.{◌+◌, Some}
use Rattle.vault_audit_model.specs.declared.rows.HeadRow.{HeadRow}
use Rattle.vault_audit_model.specs.Limits.{IsHeadRow}
use Rattle.vault_audit_entries.specs.declared.heads.by_key.HeadPass.{HeadPass}
use Rattle.vault_audit_entries.specs.Heads.{IsAfter, up_to_most}

-- a head in its limits, after those before it
abbrev pub ComesAfter : HeadPass → HeadRow → Type 0
ComesAfter p h = IsHeadRow h × IsAfter p.last h

abbrev pub with_head : HeadPass → HeadRow → HeadPass
with_head p h = record { last = Some h; total = up_to_most (p.total + h.head.count) }
