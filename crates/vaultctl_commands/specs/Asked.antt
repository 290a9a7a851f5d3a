-- What a job asks of a vault: its values in the order of the members of the script's line, the reading first,
-- then the caller who asks.
use Rattle.std.specs.Prelude.{if◌then◌else◌, Result, Ok}
use Rattle.vault_base.specs.declared.refusal.Refusal.{Refusal}
use Rattle.vault_core_model.specs.declared.command.Command.{Command}
use Rattle.vault_core_model.specs.declared.command.Command.TheVariants as command
use Rattle.vault_values.specs.Fault.{◌>>=◌}
use Rattle.vault_values.specs.Named.{asker_named, bucket_named, name_of}
use Rattle.vault_values.specs.Rights.{rights_named}
use Rattle.vaultctl_job.specs.declared.job.BucketJob.{BucketJob}
use Rattle.vaultctl_job.specs.declared.job.CallerJob.{CallerJob}
use Rattle.vaultctl_job.specs.declared.job.CertificateJob.{CertificateJob}
use Rattle.vaultctl_job.specs.declared.job.DeptJob.{DeptJob}
use Rattle.vaultctl_job.specs.declared.job.EventsJob.{EventsJob}
use Rattle.vaultctl_job.specs.declared.job.IntakeJob.{IntakeJob}
use Rattle.vaultctl_job.specs.declared.job.MoveJob.{MoveJob}
use Rattle.vaultctl_job.specs.declared.job.ReportJob.{ReportJob}
use Rattle.vaultctl_job.specs.declared.job.RunJob.{RunJob}
use Rattle.vaultctl_job.specs.declared.job.SealJob.{SealJob}
use Rattle.vaultctl_commands.specs.Words.{optional_moment, optional_reading, optional_dept, version_named}
use Rattle.vaultctl_commands.specs.declared.asked.AskedCommand.{AskedCommand}
use Rattle.vaultctl_commands.specs.declared.asked.AskedEvents.{AskedEvents}
use Rattle.vaultctl_commands.specs.declared.asked.AskedIntake.{AskedIntake}
use Rattle.vaultctl_commands.specs.declared.asked.AskedSeal.{AskedSeal}

unfoldable pub dept_of : DeptJob → Result AskedCommand Refusal
dept_of job = do
  at ← optional_reading job.asking.at
  who ← asker_named job.asking.who
  dept ← name_of job.name
  Ok (record { at = at; who = who; command = command.AddDept (record { dept = dept }) })

unfoldable pub new_caller_of : CallerJob → Result Command Refusal
new_caller_of job = do
  caller ← name_of job.name
  dept ← optional_dept job.dept
  rights ← rights_named job.rights
  Ok (command.AddCaller (record { caller = caller; dept = dept; rights = rights }))

-- rights and a department aren't looked at
unfoldable pub closed_caller_of : CallerJob → Result Command Refusal
closed_caller_of job = do
  caller ← name_of job.name
  Ok (command.CloseCaller (record { caller = caller }))

abbrev pub caller_command_of : CallerJob → Result Command Refusal
caller_command_of job = if job.close then closed_caller_of job else new_caller_of job

unfoldable pub caller_of : CallerJob → Result AskedCommand Refusal
caller_of job = do
  at ← optional_reading job.asking.at
  who ← asker_named job.asking.who
  asked ← caller_command_of job
  Ok (record { at = at; who = who; command = asked })

unfoldable pub bucket_of : BucketJob → Result AskedCommand Refusal
bucket_of job = do
  at ← optional_reading job.asking.at
  who ← asker_named job.asking.who
  bucket ← bucket_named job.name
  dept ← name_of job.dept
  Ok (record { at = at; who = who; command = command.AddBucket (record { bucket = bucket; dept = dept }) })

unfoldable pub move_bucket_of : MoveJob → Result AskedCommand Refusal
move_bucket_of job = do
  at ← optional_reading job.asking.at
  who ← asker_named job.asking.who
  bucket ← bucket_named job.bucket
  dept ← name_of job.dept
  Ok (record { at = at; who = who; command = command.MoveBucket (record { bucket = bucket; dept = dept }) })

unfoldable pub run_of : RunJob → Result AskedCommand Refusal
run_of job = do
  at ← optional_reading job.asking.at
  who ← asker_named job.asking.who
  bucket ← bucket_named job.bucket
  Ok (record { at = at; who = who; command = command.Run (record { bucket = bucket }) })

unfoldable pub report_of : ReportJob → Result AskedCommand Refusal
report_of job = do
  at ← optional_reading job.asking.at
  who ← asker_named job.asking.who
  dept ← name_of job.dept
  Ok (record { at = at; who = who; command = command.Report (record { dept = dept }) })

unfoldable pub certificate_of : CertificateJob → Result AskedCommand Refusal
certificate_of job = do
  at ← optional_reading job.asking.at
  who ← asker_named job.asking.who
  bucket ← bucket_named job.bucket
  id ← version_named job.version
  Ok (record { at = at; who = who; command = command.Certificate (record { bucket = bucket; id = id }) })

unfoldable pub intake_of : IntakeJob → Result AskedIntake Refusal
intake_of job = do
  at ← optional_reading job.asking.at
  who ← asker_named job.asking.who
  bucket ← bucket_named job.bucket
  batch ← name_of job.batch
  Ok (record { at = at; who = who; bucket = bucket; batch = batch })

unfoldable pub events_of : EventsJob → Result AskedEvents Refusal
events_of job = do
  before ← optional_moment job.before
  Ok (record { before = before })

unfoldable pub seal_of : SealJob → Result AskedSeal Refusal
seal_of job = do
  before ← optional_moment job.before
  Ok (record { before = before })
