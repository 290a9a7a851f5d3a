-- The running check of notes.
use Rattle.std.specs.Prelude.{Some}
use Rattle.vault_core_model.specs.declared.records.Note.{Note}
use Rattle.vault_audit_model.specs.Limits.{IsNote}
use Rattle.vault_audit_entries.specs.declared.intake.NotePass.{NotePass}
use Rattle.vault_audit_entries.specs.Notes.{IsAfter}

-- a note in its limits, after those before it
abbrev pub ComesAfter : NotePass → Note → Type 0
ComesAfter p n = IsNote p.external n × IsAfter p.last n

abbrev pub with_note : NotePass → Note → NotePass
with_note p n = record { external = p.external; last = Some n }
