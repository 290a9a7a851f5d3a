use Rattle.std.proofs.Common.{◌≡◌, map, take}
use Rattle.std.specs.Prelude.{fold}
use Rattle.clap.specs.Words.{app_of, with_subcommand}
use Rattle.vaultctl_job.specs.Forms.{shape_for}
use Rattle.vaultctl_job.proofs.subcommands.with_subcommands.Given as goal

abbrev pub invariant-loop-subcommand : goal.invariant-loop-subcommand
invariant-loop-subcommand l = app_of l.command ≡ fold with_subcommand (app_of l.initial.command) (map shape_for (take l.subcommand-index l.subcommands))
