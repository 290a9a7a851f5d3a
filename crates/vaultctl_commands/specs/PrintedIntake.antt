-- What is printed of an intake, and what came of it.
use Rattle.std.specs.Prelude.{◌≡◌, ◌⊎◌, ℕ, List, Option, Some, Result, IfOk, IsTrue, false, if◌then◌else◌}
use Rattle.std.specs.Io.KnownBytes.{Appends}
use Rattle.std.specs.declared.io.Write.{Ghosts as Writing}
use Rattle.vault_base.specs.declared.refusal.Refusal.{Refusal}
use Rattle.vault_base.specs.declared.refusal.Refusal.TheVariants.{Device}
use Rattle.vault_core_model.specs.Leaves.{RoseOrIsFull}
use Rattle.vault_core_model.specs.LeavesMany.{LeavesSteady}
use Rattle.vault_core_model.specs.Vault.{Vault}
use Rattle.vault_core_model.specs.declared.kept.Kept.{Ghosts}
use Rattle.vault_files.specs.TakenIn.{report_names_device, TakesIn}
use Rattle.vault_files.specs.File.{File}
use Rattle.vault_files.specs.RowReply.{RowReply}
use Rattle.vault_files.specs.Lines.{lines, is_accepted}
use Rattle.vaultctl_commands.specs.declared.asked.AskedIntake.{AskedIntake}
use Rattle.vaultctl_commands.specs.declared.fault.JobFault.{JobFault}
use Rattle.vaultctl_commands.specs.declared.outcome.Outcome.{Outcome}
use Rattle.vaultctl_commands.specs.declared.outcome.Outcome.TheVariants.{Done, Refused}

abbrev pub intake_outcome : List RowReply → Option Refusal → Outcome
intake_outcome rows stopped = if is_accepted rows stopped then Done else Refused

-- the lines of these rows and of what stopped the intake are printed, and this came of it
abbrev pub PrintsReport : List RowReply → Option Refusal → Outcome → Option (List ℕ) → Option (List ℕ) → Type 0
PrintsReport rows stopped stated before after = (stated ≡ intake_outcome rows stopped) × Appends before after (lines rows stopped)

-- the lines of an intake are printed, and that came of it
abbrev pub PrintsIntake : Outcome → Option (List ℕ) → Option (List ℕ) → Type 0
PrintsIntake stated before after =
    (rows : List RowReply) × (stopped : Option Refusal) × PrintsReport rows stopped stated before after

-- the files were taken in, whatever came of each
abbrev pub IsTakenIn : Option (List File) → ℕ → List ℕ → List ℕ → List ℕ → List ℕ → Vault → Vault → Type 0
IsTakenIn files at who bucket batch list v v' =
    (rows : List RowReply) × (stopped : Option Refusal) × TakesIn files at who bucket batch list v rows stopped v'

-- the files were taken in so, and that was reported
abbrev pub IntakePrinted : Option (List File) → ℕ → List ℕ → List ℕ → List ℕ → List ℕ → Vault → Vault → Outcome → Option (List ℕ) → Option (List ℕ) → Type 0
IntakePrinted files at who bucket batch list v v' stated before after =
    (rows : List RowReply) × (stopped : Option Refusal) × TakesIn files at who bucket batch list v rows stopped v' × PrintsReport rows stopped stated before after

-- There was one intake, and its lines are printed where anything is. That a device failed stops it only where the count of the vault's failures rose, or that of the folder's, or can rise no further; where neither a row nor the stop states it, the count of the vault's is as it was. Honest says that the vault's device has returned what was written.
abbrev pub SteadyIntake : Type 0 → Option (List File) → ℕ → List ℕ → List ℕ → List ℕ → List ℕ → Vault → Vault → ℕ → ℕ → ℕ → ℕ → Result Outcome JobFault → Option (List ℕ) → Option (List ℕ) → Type 0
SteadyIntake Honest files at who bucket batch list v v' n n' there there' result before after =
    (rows : List RowReply) × (stopped : Option Refusal) × (Honest → TakesIn files at who bucket batch list v rows stopped v')
    × IfOk result (λ stated. PrintsReport rows stopped stated before after)
    × (stopped ≡ Some Device → RoseOrIsFull n n' ⊎ RoseOrIsFull there there') × (report_names_device rows stopped ≡ false → n' ≡ n)

-- what that says of the vault's failures alone: the count of them is as it was, or the lines say that a device failed
abbrev pub IsIntakeSteady : ℕ → ℕ → Result Outcome JobFault → Option (List ℕ) → Option (List ℕ) → Type 0
IsIntakeSteady n n' result before after =
    (n' ≡ n)
    ⊎ ((rows : List RowReply) × (stopped : Option Refusal) × IsTrue (report_names_device rows stopped) × IfOk result (λ stated. PrintsReport rows stopped stated before after))

-- ---- the same, of the keeper and the writer of a call before it and after it, with the files of its folder and how often that failed

-- the files were taken in for that caller, whatever came of each
abbrev pub IsTakenInBy : {K : Type 0} → Ghosts K → K → K → Option (List File) → ℕ → AskedIntake → List ℕ → Type 0
IsTakenInBy g old new files at asked list = IsTakenIn files at asked.who asked.bucket asked.batch list (g.vault old) (g.vault new)

module _ {K : Type 0} (g : Ghosts K) (old new : K) {W : Type 0} (w : Writing W) (before after : W) (files : Option (List File)) where
  -- the list was taken in for that caller, and that was reported
  abbrev pub IntakePrintedBy : ℕ → AskedIntake → List ℕ → Outcome → Type 0
  IntakePrintedBy at asked list stated =
      IntakePrinted files at asked.who asked.bucket asked.batch list (g.vault old) (g.vault new) stated (w.contents before) (w.contents after)

  -- what the keeper is left as: it was taken in once, and that a device failed is reported where it did
  abbrev pub IntakeLeavesBy : ℕ → ℕ → ℕ → AskedIntake → List ℕ → Result Outcome JobFault → Type 0
  IntakeLeavesBy there there' at asked list result =
      LeavesSteady g old new (SteadyIntake (g.is_honest new) files at asked.who asked.bucket asked.batch list (g.vault old) (g.vault new) (g.count old) (g.count new) there there' result (w.contents before) (w.contents after))
