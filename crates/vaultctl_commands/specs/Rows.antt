-- What is printed of a vault's register and of its events.
use Rattle.std.specs.Prelude.{ℕ, List, Option, Result, Ok, Err}
use Rattle.std.specs.Io.KnownBytes.{Appends}
use Rattle.vault_core_evidence.specs.Events.{events_asked}
use Rattle.vault_core_model.specs.Reads.{removed_entries}
use Rattle.vault_core_model.specs.Vault.{Vault}
use Rattle.vault_files_events.specs.EventsText.{events_text}
use Rattle.vault_files_texts.specs.Register.{register}
use Rattle.vault_io.specs.Begins.{Begins}
use Rattle.vaultctl_commands.specs.declared.fault.JobFault.{JobFault}
use Rattle.vaultctl_commands.specs.declared.outcome.Outcome.{Outcome}
use Rattle.vaultctl_commands.specs.declared.outcome.Outcome.TheVariants.{Done, Refused}

-- the text, or a beginning of it where a fault stopped that; it is never refused
abbrev pub PrintsText : List ℕ → Result Outcome JobFault → Option (List ℕ) → Option (List ℕ) → Type 0
PrintsText text (Ok Done) before after = Appends before after text
PrintsText text (Ok Refused) before after = ⊥
PrintsText text (Err fault) before after = Begins before after text

-- the vault's register
abbrev pub PrintsRegister : Vault → Result Outcome JobFault → Option (List ℕ) → Option (List ℕ) → Type 0
PrintsRegister v = PrintsText (register (removed_entries v))

-- the vault's events, before a moment or all
abbrev pub PrintsEvents : Option ℕ → Vault → Result Outcome JobFault → Option (List ℕ) → Option (List ℕ) → Type 0
PrintsEvents given v = PrintsText (events_text (events_asked given v))
