-- Notes beside the versions that they are about.
use Rattle.std.specs.Prelude.{◌≡◌, [], ◌∷◌, Option, None, Some}
use Rattle.std.specs.declared.cmp.Ordering.TheVariants.{Less}
use Rattle.sqlite_value.specs.declared.value.Value.TheVariants.{Text, Blob}
use Rattle.sqlite_value.specs.Order.{Row}
use Rattle.vault_core_model.specs.declared.records.Note.{Note}
use Rattle.vault_core_model.specs.Order.{note_cmp}
use Rattle.vault_audit_model.specs.Rows.{retention_mode, retention_until}
use Rattle.vault_audit_model.specs.Values.{number, flag_or_null}

-- what is shown of a note beside its entry, where that is of its bucket, key, size and digest
abbrev pub noted_row : Note → Row
noted_row n =
    Text n.bucket ∷ Text n.batch ∷ number n.line ∷ Text n.key ∷ number n.size ∷ Blob n.digest
    ∷ retention_mode n.retention ∷ retention_until n.retention ∷ flag_or_null n.hold ∷ number n.id
    ∷ Text n.bucket ∷ Text n.key ∷ number n.size ∷ Blob n.digest ∷ []

-- the note comes after the last one, where there is one
abbrev pub IsAfter : Option Note → Note → Type 0
IsAfter None n = Unit {0}
IsAfter (Some m) n = note_cmp m n ≡ Less
