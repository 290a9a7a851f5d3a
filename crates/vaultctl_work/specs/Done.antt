-- What a job did with a vault.
use Rattle.std.specs.Prelude.{◌≡◌, ◌⊎◌, ◌==◌, ℕ, List, Option, None, Some, Result, Ok, Err, IfOk, if◌then◌else◌}
use Rattle.std.specs.Io.KnownBytes.{Consumes, IsAtEnd}
use Rattle.vault_base.specs.declared.refusal.Refusal.{Refusal}
use Rattle.vault_core_evidence.specs.Breaches.{first_breach}
use Rattle.vault_core_model.specs.Vault.{Vault}
use Rattle.vault_files.specs.File.{File}
use Rattle.vault_files.specs.RowReply.{RowReply}
use Rattle.vault_files.specs.TakenIn.{TakesIn}
use Rattle.vaultctl_commands.specs.Evidence.{IsJudged, IsSealed}
use Rattle.vaultctl_commands.specs.PrintedIntake.{PrintsReport}
use Rattle.vaultctl_commands.specs.declared.asked.AskedIntake.{AskedIntake}
use Rattle.vaultctl_commands.specs.declared.asked.AskedSeal.{AskedSeal}
use Rattle.vaultctl_commands.specs.declared.fault.JobFault.{JobFault}
use Rattle.vaultctl_commands.specs.declared.fault.JobFault.TheVariants as fault
use Rattle.vaultctl_commands.specs.declared.outcome.Outcome.{Outcome}
use Rattle.vaultctl_commands.specs.declared.outcome.Outcome.TheVariants.{Done, Refused}
use Rattle.vaultctl_replay.specs.Runs.{AnswersAll, AnswersEnded, AnswersSome}
use Rattle.vaultctl_job.specs.declared.job.ServeJob.{ServeJob}
use Rattle.vaultctl_serve.specs.Serving.{Stepped}
use Rattle.vaultctl_work.specs.Scene.{Scene}

-- a list's files were taken in at that reading, and its lines printed where no fault stopped that
abbrev pub IsTakenInAt : ℕ → AskedIntake → Result Outcome JobFault → Vault → Vault → Option (List ℕ) → Option (List ℕ) → Type 0
IsTakenInAt at asked outcome v v' before after =
    (files : Option (List File)) × (list : List ℕ) × (rows : List RowReply) × (stopped : Option Refusal) × TakesIn files at asked.who asked.bucket asked.batch list v rows stopped v'
    × IfOk outcome (λ stated. PrintsReport rows stopped stated before after)

-- at the reading that is given, or else at one of the clock's
abbrev pub IsTakenInThen : Option ℕ → AskedIntake → Result Outcome JobFault → Vault → Vault → Option (List ℕ) → Option (List ℕ) → Type 0
IsTakenInThen (Some at) asked outcome v v' before after = IsTakenInAt at asked outcome v v' before after
IsTakenInThen None asked outcome v v' before after = (at : ℕ) × IsTakenInAt at asked outcome v v' before after

-- so it was; or nothing was begun, which is no intake that is done, and the vault is as it was
abbrev pub IsIntakeDone : AskedIntake → Result Outcome JobFault → Vault → Vault → Option (List ℕ) → Option (List ℕ) → Type 0
IsIntakeDone asked outcome v v' before after = IsTakenInThen asked.at asked outcome v v' before after ⊎ (IfOk outcome (λ stated. stated ≡ Refused) × (v' ≡ v))

-- the vault is as it was, and the seal that is asked for is printed, or its refusal, where no fault stopped that
abbrev pub IsSealDone : AskedSeal → Result Outcome JobFault → Vault → Vault → Option (List ℕ) → Option (List ℕ) → Type 0
IsSealDone asked outcome v v' before after = (v' ≡ v) × IfOk outcome (λ stated. IsSealed asked.before v stated before after)

-- the vault is as it was, and whether it is lawful is printed where no fault stopped that
abbrev pub IsJudgedDone : Result Outcome JobFault → Vault → Vault → Option (List ℕ) → Option (List ℕ) → Type 0
IsJudgedDone outcome v v' before after = (v' ≡ v) × IfOk outcome (λ stated. IsJudged (first_breach v) stated before after)

-- The whole input was read and carried out, and the replies to its lines are printed. Where the reader failed, so it is of each line whose LF was read; with another fault, of the first lines, and of one more a beginning of its reply. No script is refused. The count of the device's failures goes from n to n'.
abbrev pub IsScriptAnswered : ℕ → ℕ → Result Outcome JobFault → Scene → Scene → Type 0
IsScriptAnswered n n' (Ok Done) old new =
    (input : List ℕ) × Consumes old.input new.input input × IsAtEnd new.input × AnswersAll (Unit {0}) old.vault n old.output input new.vault n' new.output
IsScriptAnswered n n' (Ok Refused) old new = ⊥
IsScriptAnswered n n' (Err fault.Read) old new = (taken : List ℕ) × Consumes old.input new.input taken × AnswersEnded (Unit {0}) old.vault n old.output taken new.vault n' new.output
IsScriptAnswered n n' (Err other) old new =
    (taken : List ℕ) × Consumes old.input new.input taken × AnswersSome (Unit {0}) (IsAtEnd new.input) old.vault n old.output taken new.vault n' new.output

-- with some counts
abbrev pub IsAnswered : Result Outcome JobFault → Scene → Scene → Type 0
IsAnswered outcome old new = (n : ℕ) × (n' : ℕ) × IsScriptAnswered n n' outcome old new

-- how many requests and lines are served at most where this many are asked for: a million, which is the default, is no limit
abbrev pub most_with_lines : ℕ → ℕ
most_with_lines count = if count == 1000000 then 4294967295 else count

-- how many requests are served at most, and lines too where they come in
abbrev pub most_served : Option (List ℕ) → ℕ → ℕ
most_served None count = count
most_served (Some place) count = most_with_lines count

-- at most as many commands as requests and lines were asked for, one after another
abbrev pub IsServed : ServeJob → Vault → Vault → Type 0
IsServed job v v' = Stepped (most_served job.lines job.count) v v'
