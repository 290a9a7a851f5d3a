-- What parts of a command on entries find, and what they may go on with.
use Rattle.std.specs.Prelude.{ℕ, ◌+◌, ◌≤◌, List, None, Result}
use Rattle.vault_base.specs.declared.refusal.Refusal.{Refusal}
use Rattle.vault_core_model.specs.Allowed.{IsAdmission}
use Rattle.vault_core_model.specs.EntryOutcomes.{new_marker}
use Rattle.vault_core_model.specs.IntakeOutcome.{intake_by}
use Rattle.vault_core_model.specs.Totals.{admitted_bytes, received_bytes}
use Rattle.vault_core_model.specs.Vault.{Vault, note_of}
use Rattle.vault_core_model.specs.declared.access.Access.{Access}
use Rattle.vault_core_model.specs.declared.command.Delete.{Delete}
use Rattle.vault_core_model.specs.declared.command.Intake.{Intake}
use Rattle.vault_core_model.specs.declared.records.Author.TheVariants as author
use Rattle.vault_core_model.specs.declared.reply.Answer.{Answer}
use Rattle.vault_tally.specs.Row.{quota}

-- with that many bytes more, a department is within its quota
abbrev pub Fits : Vault → List ℕ → ℕ → Type 0
Fits v dept size = admitted_bytes v dept + received_bytes v dept + size ≤ quota

-- the delete marker with that id may be admitted next
abbrev pub MayMark : Vault → ℕ → List ℕ → Delete → ℕ → Type 0
MayMark v t who c id = IsAdmission v t (record { history = new_marker id c.bucket c.key t (author.Caller who); note = None })

-- what a line of an intake batch comes to, by the note of it that is there
abbrev pub intake_as_noted : Vault → ℕ → List ℕ → Intake → Access → Result (Answer × Vault) Refusal
intake_as_noted v t who c a = intake_by v t who c a (note_of v c.put.bucket c.batch c.line)
