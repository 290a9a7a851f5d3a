-- What a subcommand with its words asks for.
use Rattle.std.specs.Prelude.{◌≡◌, ◌&&◌, false, nat_lt, ℕ, Bool, List, [], length, codes, Option, Some, None, if◌then◌else◌, unwrap_or}
use Rattle.std.specs.Char.{digit_value}
use Rattle.std.specs.List.{list_all}
use Rattle.std.specs.Str.{bytes_eq}
use Rattle.std.specs.Str.Parse.{digits_value, without_leading_plus}
use Rattle.clap.specs.Words.{Row, Text, all_of, first_of, one_of}
use Rattle.vaultctl_job.specs.declared.job.Asking.{Asking}
use Rattle.vaultctl_job.specs.declared.job.InitJob.{InitJob}
use Rattle.vaultctl_job.specs.declared.job.DeptJob.{DeptJob}
use Rattle.vaultctl_job.specs.declared.job.CallerJob.{CallerJob}
use Rattle.vaultctl_job.specs.declared.job.BucketJob.{BucketJob}
use Rattle.vaultctl_job.specs.declared.job.MoveJob.{MoveJob}
use Rattle.vaultctl_job.specs.declared.job.IntakeJob.{IntakeJob}
use Rattle.vaultctl_job.specs.declared.job.RunJob.{RunJob}
use Rattle.vaultctl_job.specs.declared.job.ReportJob.{ReportJob}
use Rattle.vaultctl_job.specs.declared.job.CertificateJob.{CertificateJob}
use Rattle.vaultctl_job.specs.declared.job.RegisterJob.{RegisterJob}
use Rattle.vaultctl_job.specs.declared.job.VerifyJob.{VerifyJob}
use Rattle.vaultctl_job.specs.declared.job.EventsJob.{EventsJob}
use Rattle.vaultctl_job.specs.declared.job.SealJob.{SealJob}
use Rattle.vaultctl_job.specs.declared.job.LawfulJob.{LawfulJob}
use Rattle.vaultctl_job.specs.declared.job.ReplayJob.{ReplayJob}
use Rattle.vaultctl_job.specs.declared.job.ServeJob.{ServeJob}
use Rattle.vaultctl_job.specs.declared.job.MigrateJob.{MigrateJob}
use Rattle.vaultctl_job.specs.declared.job.Job.{Job}
use Rattle.vaultctl_job.specs.declared.job.Job.TheVariants as job

-- where memory isn't short after, it wasn't before, and this holds
abbrev pub IfEnough : Bool → Bool → Type 0 → Type 0
IfEnough before after P = after ≡ false → (before ≡ false) × P

-- the text of a word; clap takes no words without those that have to be there
abbrev pub text_of : Text → List Row → Text
text_of id rows = unwrap_or (first_of id rows) []

abbrev pub texts_of : Text → List Row → List Text
texts_of id rows = unwrap_or (all_of id rows) []

abbrev pub is_set : Text → List Row → Bool
is_set id rows = bytes_eq (text_of id rows) (codes "true")

abbrev pub is_number_below : ℕ → List ℕ → Bool
is_number_below limit ds = nat_lt 0 (length ds) && list_all (λ d. nat_lt (digit_value d) 10) ds && nat_lt (digits_value 10 ds) limit

-- the number that digits write; clap takes no words where they write none below the limit
abbrev pub number_below : ℕ → Text → ℕ
number_below limit text =
    let ds = without_leading_plus text in
    if is_number_below limit ds then digits_value 10 ds else 0

abbrev pub number_of : ℕ → Text → List Row → ℕ
number_of limit id rows = number_below limit (unwrap_or (one_of id rows) [])

abbrev pub asking_of : List Row → Asking
asking_of rows = record { who = text_of (codes "as") rows; at = first_of (codes "at") rows }

abbrev pub file_of : List Row → Text
file_of rows = text_of (codes "FILE") rows

unfoldable pub init_of : List Row → InitJob
init_of rows = record { file = file_of rows; external = is_set (codes "external") rows }

unfoldable pub dept_of : List Row → DeptJob
dept_of rows = record { file = file_of rows; name = text_of (codes "NAME") rows; asking = asking_of rows }

unfoldable pub caller_of : List Row → CallerJob
caller_of rows = record {
  file = file_of rows;
  name = text_of (codes "NAME") rows;
  rights = texts_of (codes "RIGHT") rows;
  asking = asking_of rows;
  dept = first_of (codes "dept") rows;
  close = is_set (codes "close") rows;
}

unfoldable pub bucket_of : List Row → BucketJob
bucket_of rows = record { file = file_of rows; name = text_of (codes "NAME") rows; dept = text_of (codes "DEPT") rows; asking = asking_of rows }

unfoldable pub move_of : List Row → MoveJob
move_of rows = record { file = file_of rows; bucket = text_of (codes "BUCKET") rows; dept = text_of (codes "DEPT") rows; asking = asking_of rows }

unfoldable pub intake_of : List Row → IntakeJob
intake_of rows = record {
  file = file_of rows;
  bucket = text_of (codes "BUCKET") rows;
  batch = text_of (codes "BATCH") rows;
  list = text_of (codes "LIST") rows;
  folder = text_of (codes "FOLDER") rows;
  asking = asking_of rows;
}

unfoldable pub run_of : List Row → RunJob
run_of rows = record { file = file_of rows; bucket = text_of (codes "BUCKET") rows; asking = asking_of rows }

unfoldable pub report_of : List Row → ReportJob
report_of rows = record { file = file_of rows; dept = text_of (codes "DEPT") rows; asking = asking_of rows }

unfoldable pub certificate_of : List Row → CertificateJob
certificate_of rows = record {
  file = file_of rows;
  bucket = text_of (codes "BUCKET") rows;
  version = text_of (codes "VERSION") rows;
  asking = asking_of rows;
}

unfoldable pub register_of : List Row → RegisterJob
register_of rows = record { file = file_of rows }

unfoldable pub verify_of : List Row → VerifyJob
verify_of rows = record { file = file_of rows }

unfoldable pub events_of : List Row → EventsJob
events_of rows = record { file = file_of rows; before = first_of (codes "before") rows }

unfoldable pub seal_of : List Row → SealJob
seal_of rows = record { file = file_of rows; before = first_of (codes "before") rows }

unfoldable pub lawful_of : List Row → LawfulJob
lawful_of rows = record { file = file_of rows }

unfoldable pub replay_of : List Row → ReplayJob
replay_of rows = record { file = first_of (codes "FILE") rows }

unfoldable pub serve_of : List Row → ServeJob
serve_of rows = record {
  file = file_of rows;
  port = number_of 65536 (codes "PORT") rows;
  count = number_of 4294967296 (codes "count") rows;
  lines = first_of (codes "lines") rows;
  hosts = texts_of (codes "host") rows;
  log = is_set (codes "log") rows;
  journal = first_of (codes "journal") rows;
}

unfoldable pub migrate_of : List Row → MigrateJob
migrate_of rows = record { old = text_of (codes "OLD") rows; new = text_of (codes "NEW") rows; external = is_set (codes "external") rows }

-- what a subcommand of that name asks for with these words
abbrev pub job_named : Text → List Row → Option Job
job_named name rows =
    if bytes_eq name (codes "init") then Some (job.Init (init_of rows))
    else if bytes_eq name (codes "dept") then Some (job.Dept (dept_of rows))
    else if bytes_eq name (codes "caller") then Some (job.Caller (caller_of rows))
    else if bytes_eq name (codes "bucket") then Some (job.Bucket (bucket_of rows))
    else if bytes_eq name (codes "move") then Some (job.Move (move_of rows))
    else if bytes_eq name (codes "intake") then Some (job.Intake (intake_of rows))
    else if bytes_eq name (codes "run") then Some (job.Run (run_of rows))
    else if bytes_eq name (codes "report") then Some (job.Report (report_of rows))
    else if bytes_eq name (codes "certificate") then Some (job.Certificate (certificate_of rows))
    else if bytes_eq name (codes "register") then Some (job.Register (register_of rows))
    else if bytes_eq name (codes "verify") then Some (job.Verify (verify_of rows))
    else if bytes_eq name (codes "events") then Some (job.Events (events_of rows))
    else if bytes_eq name (codes "seal") then Some (job.Seal (seal_of rows))
    else if bytes_eq name (codes "lawful") then Some (job.Lawful (lawful_of rows))
    else if bytes_eq name (codes "replay") then Some (job.Replay (replay_of rows))
    else if bytes_eq name (codes "serve") then Some (job.Serve (serve_of rows))
    else if bytes_eq name (codes "migrate") then Some (job.Migrate (migrate_of rows))
    else None
