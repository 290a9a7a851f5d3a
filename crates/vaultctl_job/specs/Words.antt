-- The command line, as one of clap's simple commands.
use Rattle.std.specs.Prelude.{◌||◌, Bool, List, [], ◌∷◌, codes, false, fold, Option, true, option_and_then}
use Rattle.std.specs.Str.{bytes_eq}
use Rattle.clap.specs.Words.{App, Row, Shape, Text, new_app, with_rule, with_subcommand, subcommand_of}
use Rattle.vaultctl_job.specs.Arguments as arg
use Rattle.vaultctl_job.specs.Jobs.{job_named}
use Rattle.vaultctl_job.specs.declared.fault.WordsFault.{WordsFault}
use Rattle.vaultctl_job.specs.declared.fault.WordsFault.TheVariants.{Refused, Memory}
use Rattle.vaultctl_job.specs.declared.job.Job.{Job}

-- a subcommand with FILE
abbrev pub on_file : Text → App
on_file name = with_rule (new_app name) (arg.place (codes "FILE"))

abbrev pub asked : App → App
asked a = with_rule (with_rule a arg.asker) arg.moment

-- init FILE [--external]
abbrev pub init_app : App
init_app = with_rule (on_file (codes "init")) arg.external

-- dept FILE NAME --as C [--at T]
abbrev pub dept_app : App
dept_app = asked (with_rule (on_file (codes "dept")) (arg.place (codes "NAME")))

-- caller FILE NAME [RIGHT]... --as C [--at T] [--dept D] [--close]
abbrev pub caller_app : App
caller_app = with_rule (with_rule (asked (with_rule (with_rule (on_file (codes "caller")) (arg.place (codes "NAME"))) arg.rights)) arg.home) arg.close

-- bucket FILE NAME DEPT --as C [--at T]
abbrev pub bucket_app : App
bucket_app = asked (with_rule (with_rule (on_file (codes "bucket")) (arg.place (codes "NAME"))) (arg.place (codes "DEPT")))

-- move FILE BUCKET DEPT --as C [--at T]
abbrev pub move_app : App
move_app = asked (with_rule (with_rule (on_file (codes "move")) (arg.place (codes "BUCKET"))) (arg.place (codes "DEPT")))

-- intake FILE BUCKET BATCH LIST FOLDER --as C [--at T]
abbrev pub intake_app : App
intake_app = asked (with_rule (with_rule (with_rule (with_rule (on_file (codes "intake")) (arg.place (codes "BUCKET"))) (arg.place (codes "BATCH"))) (arg.place (codes "LIST"))) (arg.place (codes "FOLDER")))

-- run FILE BUCKET --as C [--at T]
abbrev pub run_app : App
run_app = asked (with_rule (on_file (codes "run")) (arg.place (codes "BUCKET")))

-- report FILE DEPT --as C [--at T]
abbrev pub report_app : App
report_app = asked (with_rule (on_file (codes "report")) (arg.place (codes "DEPT")))

-- certificate FILE BUCKET VERSION --as C [--at T]
abbrev pub certificate_app : App
certificate_app = asked (with_rule (with_rule (on_file (codes "certificate")) (arg.place (codes "BUCKET"))) (arg.place (codes "VERSION")))

abbrev pub register_app : App
register_app = on_file (codes "register")

abbrev pub verify_app : App
verify_app = on_file (codes "verify")

-- events FILE [--before MOMENT]
abbrev pub events_app : App
events_app = with_rule (on_file (codes "events")) arg.before

-- seal FILE [--before MOMENT]
abbrev pub seal_app : App
seal_app = with_rule (on_file (codes "seal")) arg.before

abbrev pub lawful_app : App
lawful_app = on_file (codes "lawful")

-- replay [FILE]
abbrev pub replay_app : App
replay_app = with_rule (new_app (codes "replay")) (arg.optional_place (codes "FILE"))

-- serve FILE PORT [--count N] [--lines WHERE] [--host NAME]... [--log] [--journal FILE]
abbrev pub serve_app : App
serve_app =
    with_rule (with_rule (with_rule (with_rule (with_rule (with_rule (on_file (codes "serve")) arg.port) arg.count) arg.lines) arg.host) arg.log) arg.journal

-- migrate OLD NEW [--external]
abbrev pub migrate_app : App
migrate_app = with_rule (with_rule (with_rule (new_app (codes "migrate")) (arg.place (codes "OLD"))) (arg.place (codes "NEW"))) arg.external

-- a subcommand is asked for, help is no subcommand, and there is a version to ask for
abbrev pub needing_subcommand : App → App
needing_subcommand a = record a { top = record a.top { has_version = true; subcommand_required = true; disable_help_subcommand = true } }

-- the subcommands on a vault's file as a whole
abbrev pub on_files : List Shape
on_files =
    register_app.top ∷ verify_app.top ∷ events_app.top ∷ seal_app.top ∷ lawful_app.top
    ∷ replay_app.top ∷ serve_app.top ∷ migrate_app.top ∷ []

-- the subcommands, in the order in which help shows them
abbrev pub subcommands : List Shape
subcommands =
    init_app.top ∷ dept_app.top ∷ caller_app.top ∷ bucket_app.top ∷ move_app.top
    ∷ intake_app.top ∷ run_app.top ∷ report_app.top ∷ certificate_app.top ∷ on_files

unfoldable pub vaultctl : App
vaultctl = fold with_subcommand (needing_subcommand (new_app (codes "vaultctl"))) subcommands

-- what a subcommand with its words asks for
abbrev pub job_in : Option (Text × List Row) → Option Job
job_in = option_and_then (λ p. job_named p.0 p.1)

-- what the words ask for
abbrev pub job_for : List Text → Option Job
job_for words = job_in (subcommand_of vaultctl words)

-- the program's name, and one word that asks for the version
abbrev pub asks_version : List Text → Bool
asks_version (program ∷ word ∷ []) = bytes_eq word (codes "--version") || bytes_eq word (codes "-V")
asks_version _ = false

-- the words are refused
abbrev pub IsRefusal : WordsFault → Type 0
IsRefusal (Refused text) = Unit {0}
IsRefusal Memory = ⊥
