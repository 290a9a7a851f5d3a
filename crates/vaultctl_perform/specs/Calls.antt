-- What a job is named by: its subcommand and the vault's file.
use Rattle.std.specs.Prelude.{ℕ, [], List, Option, codes, unwrap_or}
use Rattle.vaultctl_job.specs.declared.job.Job.{Job}
use Rattle.vaultctl_job.specs.declared.job.Job.TheVariants as job

-- the name of its subcommand
abbrev pub name_in : Job → List ℕ
name_in (job.Init j) = codes "init"
name_in (job.Dept j) = codes "dept"
name_in (job.Caller j) = codes "caller"
name_in (job.Bucket j) = codes "bucket"
name_in (job.Move j) = codes "move"
name_in (job.Intake j) = codes "intake"
name_in (job.Run j) = codes "run"
name_in (job.Report j) = codes "report"
name_in (job.Certificate j) = codes "certificate"
name_in (job.Register j) = codes "register"
name_in (job.Verify j) = codes "verify"
name_in (job.Events j) = codes "events"
name_in (job.Seal j) = codes "seal"
name_in (job.Lawful j) = codes "lawful"
name_in (job.Replay j) = codes "replay"
name_in (job.Serve j) = codes "serve"
name_in (job.Migrate j) = codes "migrate"

-- the path that is given; none where none is
abbrev pub given_in : Option (List ℕ) → List ℕ
given_in file = unwrap_or file []

-- the vault's file; of a copy, the one that it is made of
abbrev pub file_in : Job → List ℕ
file_in (job.Init j) = j.file
file_in (job.Dept j) = j.file
file_in (job.Caller j) = j.file
file_in (job.Bucket j) = j.file
file_in (job.Move j) = j.file
file_in (job.Intake j) = j.file
file_in (job.Run j) = j.file
file_in (job.Report j) = j.file
file_in (job.Certificate j) = j.file
file_in (job.Register j) = j.file
file_in (job.Verify j) = j.file
file_in (job.Events j) = j.file
file_in (job.Seal j) = j.file
file_in (job.Lawful j) = j.file
file_in (job.Replay j) = given_in j.file
file_in (job.Serve j) = j.file
file_in (job.Migrate j) = j.old
