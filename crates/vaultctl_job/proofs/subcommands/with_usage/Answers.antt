use Rattle.std.proofs.Common.{ap}
use Rattle.clap.specs.Simple.{app_of_fields}
use Rattle.clap.specs.declared.builder.command.Command.{Command}
use Rattle.clap.specs.declared.builder.command.Command.TheOpen.{Command-F}
use Rattle.vaultctl_job.proofs.subcommands.with_usage.Goals as goal

pub returns-in-Some-clause-app : goal.returns-in-Some-clause-app
returns-in-Some-clause-app c = ap app_of_fields c.override_usage.ensures

pub returns-in-Some-clause-local : goal.returns-in-Some-clause-local
returns-in-Some-clause-local c = ap (λ (f : Command-F Command). f.has_globals) c.override_usage.ensures
