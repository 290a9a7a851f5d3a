-- What a job came to, whatever that is: which vaults were opened, made or copied, what was done of them, and what was printed.
use Rattle.std.specs.Prelude.{◌≡◌, ◌⊎◌, ℕ, Bool, List, Option, None, Some, Result, Ok, Err, IfOk, ⊤}
use Rattle.std.specs.Io.KnownBytes.{Appends}
use Rattle.sqlite_disk.specs.declared.Disk.{Ghosts}
use Rattle.sqlite_store.specs.declared.store.FileStore.{FileStore}
use Rattle.sqlite_wal.specs.Recovery.{Image}
use Rattle.sqlite.specs.Files.{file_state}
use Rattle.sqlite.specs.State.{HasCleanDisk}
use Rattle.vault_base.specs.declared.refusal.Refusal.{Refusal}
use Rattle.vault_base.specs.declared.refusal.Table.{Table}
use Rattle.vault_core_model.specs.Vault.{Vault, opening_of}
use Rattle.vault_core_model.specs.declared.reply.Reply.TheVariants as reply
use Rattle.vault_store.specs.Kept.{StandsFor}
use Rattle.vault_values.specs.declared.fault.LineFault.{LineFault}
use Rattle.vault_values.specs.declared.fault.LineFault.TheVariants as line
use Rattle.vaultctl_commands.specs.Asked.{dept_of, caller_of, bucket_of, move_bucket_of, intake_of, run_of, report_of, certificate_of, events_of, seal_of}
use Rattle.vaultctl_commands.specs.Evidence.{PrintsLawful, PrintsSeal}
use Rattle.vaultctl_commands.specs.Rows.{PrintsEvents, PrintsRegister}
use Rattle.vaultctl_commands.specs.Printed.{PrintsReply, printed}
use Rattle.vaultctl_commands.specs.declared.asked.AskedCommand.{AskedCommand}
use Rattle.vaultctl_commands.specs.declared.fault.JobFault.{JobFault}
use Rattle.vaultctl_commands.specs.declared.fault.JobFault.TheVariants as fault
use Rattle.vaultctl_commands.specs.declared.outcome.Outcome.{Outcome}
use Rattle.vaultctl_commands.specs.declared.outcome.Outcome.TheVariants.{Done, Refused}
use Rattle.vaultctl_job.specs.declared.job.Job.{Job}
use Rattle.vaultctl_job.specs.declared.job.Job.TheVariants as job
use Rattle.vaultctl_machine.specs.Closings.{Carries, Closes, Copies}
use Rattle.vaultctl_machine.specs.VaultCounts.{with_copied, with_made, with_opened}
use Rattle.vaultctl_machine.specs.declared.vaults.Machine.{Machine}
use Rattle.vaultctl_work.specs.Asked.{IsDoneAt}
use Rattle.vaultctl_work.specs.Done.{IsAnswered, IsIntakeDone, IsJudgedDone, IsSealDone, IsServed}
use Rattle.vaultctl_work.specs.Printed.{PrintsRows}
use Rattle.vaultctl_work.specs.Scene.{scene}
use Rattle.vaultctl_perform.specs.Printed.{damaged_line, migrated_line, sound_line}
use Rattle.vaultctl_perform.specs.Replay.{AnswersFromNew}

module _ {D E : Type 0} {g : Ghosts D} {h : Ghosts E} (old new : Machine (FileStore D g) (FileStore E h)) where
  -- no vault was given out, and none was closed
  abbrev pub IsUngiven : Type 0
  IsUngiven = (new.given ≡ old.given) × (new.closed ≡ old.closed) × (new.copies ≡ old.copies)

  -- one new vault was made and closed, which registers contents that are kept outside, or doesn't, and no other opened or copied
  abbrev pub IsNew : Bool → Type 0
  IsNew external = (new.given ≡ with_made old.given) × Closes old.closed.items new.closed.items (λ conn. HasCleanDisk (file_state conn) → ∥ StandsFor (file_state conn) (opening_of external) ∥₁)

  -- so it is of a job that was done, and of one that was refused nothing was made
  abbrev pub IsMade : Bool → Result Outcome JobFault → Type 0
  IsMade external outcome = ((outcome ≡ Ok Done) × IsNew external) ⊎ ((outcome ≡ Ok Refused) × IsUngiven)

  -- room for the values of words was refused: nothing was looked for or printed
  abbrev pub IsUnread : Result Outcome JobFault → Option (List ℕ) → Option (List ℕ) → Type 0
  IsUnread outcome before after = (new ≡ old) × (outcome ≡ Err fault.Memory) × (after ≡ before)

  -- a value isn't allowed: its refusal was printed where no fault stopped that, and nothing looked for
  abbrev pub IsValueRefused : Refusal → Result Outcome JobFault → Option (List ℕ) → Option (List ℕ) → Type 0
  IsValueRefused refusal outcome before after = (new ≡ old) × IfOk outcome (λ stated. (stated ≡ Refused) × Appends before after (printed (reply.Refused refusal)))

  -- by values of words: where all are allowed, that was done; else the first that isn't is refused
  abbrev pub IsDoneAsSaid : {X : Type 0} → Result X Refusal → Result Outcome JobFault → Option (List ℕ) → Option (List ℕ) → (X → Type 0) → Type 0
  IsDoneAsSaid (Ok x) outcome before after Does = IsUnread outcome before after ⊎ Does x
  IsDoneAsSaid (Err refusal) outcome before after Does = IsUnread outcome before after ⊎ IsValueRefused refusal outcome before after

  -- the same of values as they were read
  abbrev pub IsDoneAsRead : {X : Type 0} → Result X LineFault → Result Outcome JobFault → Option (List ℕ) → Option (List ℕ) → (X → Type 0) → Type 0
  IsDoneAsRead (Ok x) outcome before after Does = Does x
  IsDoneAsRead (Err line.Memory) outcome before after Does = IsUnread outcome before after
  IsDoneAsRead (Err (line.Refused refusal)) outcome before after Does = IsValueRefused refusal outcome before after

module _ {D E : Type 0} {g : Ghosts D} {h : Ghosts E} (image : Image) (old new : Machine (FileStore D g) (FileStore E h)) where
  -- one vault was opened, and no other made or copied; with the one that was found in the file this was done, and the connection that was closed then stood for the vault that this left
  abbrev pub IsGiven : (Vault → Vault → Type 0) → Type 0
  IsGiven Does = (new.given ≡ with_opened old.given) × Carries image old.closed.items new.closed.items Does

  -- The vault wasn't opened, or was closed as it was found, since its files couldn't be watched: so the job is refused, and nothing printed or read. Or this was printed, and done with the vault.
  abbrev pub IsCarriedOut : Result Outcome JobFault → Type 0 → Type 0 → (Vault → Vault → Type 0) → Type 0
  IsCarriedOut outcome Untouched Prints Does = ((IsUngiven old new ⊎ IsGiven (λ v w. w ≡ v)) × (outcome ≡ Ok Refused) × Untouched) ⊎ (Prints × IsGiven Does)

module _ {D E : Type 0} {g : Ghosts D} {h : Ghosts E} (image : Image) (outcome : Result Outcome JobFault) (old new : Machine (FileStore D g) (FileStore E h)) (before after : Option (List ℕ)) where
  -- a command, where its values are allowed
  abbrev pub IsAskedDone : Result AskedCommand Refusal → Type 0
  IsAskedDone said = IsDoneAsSaid old new said outcome before after (λ asked. IsCarriedOut image old new outcome (after ≡ before) (IfOk outcome (λ stated. PrintsReply stated before after)) (λ v w. IsDoneAt asked.at asked v w outcome before after))

  -- the vault was opened and closed as it was found, and `sound` printed; or it wasn't opened, and nothing is printed but the table that isn't sound
  abbrev pub IsVerified : Type 0
  IsVerified =
      (IsGiven image old new (λ v w. w ≡ v) × IfOk outcome (λ stated. (stated ≡ Done) × Appends before after sound_line))
      ⊎ (IsUngiven old new × IfOk outcome (λ stated. (stated ≡ Refused) × ((after ≡ before) ⊎ ((table : Table) × Appends before after (damaged_line table)))))

  -- the vault of an earlier version was copied into one that registers contents which are kept outside, or doesn't, and `migrated` printed; or no vault was given out, and nothing printed
  abbrev pub IsMigrated : Bool → Type 0
  IsMigrated external =
      (((new.given ≡ with_copied old.given) × Copies external image old.closed.items new.closed.items old.copies.items new.copies.items) × IfOk outcome (λ stated. (stated ≡ Done) × Appends before after migrated_line))
      ⊎ (IsUngiven old new × ((outcome ≡ Ok Refused) × (after ≡ before)))

module _ {D E : Type 0} {g : Ghosts D} {h : Ghosts E} (image : Image) (outcome : Result Outcome JobFault) (old new : Machine (FileStore D g) (FileStore E h)) (input left before after : Option (List ℕ)) where
  -- a script over the vault in a file; without one, from a new vault on
  abbrev pub IsScriptDone : Option (List ℕ) → Type 0
  IsScriptDone None = (new ≡ old) × AnswersFromNew outcome input left before after
  IsScriptDone (Some file) = IsCarriedOut image old new outcome ((left ≡ input) × (after ≡ before)) ⊤ (λ v w. IsAnswered outcome (scene v input before) (scene w left after))

  -- what came of a job, by what was left of the input, and what was printed
  abbrev pub IsPerformed : Job → Type 0
  IsPerformed (job.Init j) = IsMade old new j.external outcome × (after ≡ before)
  IsPerformed (job.Dept j) = IsAskedDone image outcome old new before after (dept_of j)
  IsPerformed (job.Caller j) = IsAskedDone image outcome old new before after (caller_of j)
  IsPerformed (job.Bucket j) = IsAskedDone image outcome old new before after (bucket_of j)
  IsPerformed (job.Move j) = IsAskedDone image outcome old new before after (move_bucket_of j)
  IsPerformed (job.Intake j) = IsDoneAsSaid old new (intake_of j) outcome before after (λ asked. IsCarriedOut image old new outcome (after ≡ before) (IfOk outcome (λ stated. PrintsRows stated before after)) (λ v w. IsIntakeDone asked outcome v w before after))
  IsPerformed (job.Run j) = IsAskedDone image outcome old new before after (run_of j)
  IsPerformed (job.Report j) = IsAskedDone image outcome old new before after (report_of j)
  IsPerformed (job.Certificate j) = IsAskedDone image outcome old new before after (certificate_of j)
  IsPerformed (job.Register j) = IsCarriedOut image old new outcome ((left ≡ input) × (after ≡ before)) ⊤ (λ v w. (w ≡ v) × PrintsRegister v outcome before after)
  IsPerformed (job.Verify j) = IsVerified image outcome old new before after
  IsPerformed (job.Events j) = IsDoneAsSaid old new (events_of j) outcome before after (λ asked. IsCarriedOut image old new outcome (after ≡ before) ⊤ (λ v w. (w ≡ v) × PrintsEvents asked.before v outcome before after))
  IsPerformed (job.Seal j) = IsDoneAsSaid old new (seal_of j) outcome before after (λ asked. IsCarriedOut image old new outcome (after ≡ before) (IfOk outcome (λ stated. PrintsSeal stated before after)) (λ v w. IsSealDone asked outcome v w before after))
  IsPerformed (job.Lawful j) = IsCarriedOut image old new outcome ((left ≡ input) × (after ≡ before)) (IfOk outcome (λ stated. PrintsLawful stated before after)) (λ v w. IsJudgedDone outcome v w before after)
  IsPerformed (job.Replay j) = IsScriptDone j.file
  IsPerformed (job.Serve j) = IsCarriedOut image old new outcome ((left ≡ input) × (after ≡ before)) ⊤ (λ v w. IsServed j v w)
  IsPerformed (job.Migrate j) = IsMigrated image outcome old new before after j.external
