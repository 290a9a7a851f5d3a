use Rattle.std.proofs.Common.{◌≡◌, map, take}
use Rattle.std.specs.Prelude.{fold}
use Rattle.clap.specs.Words.{app_of, with_rule}
use Rattle.clap.specs.declared.builder.command.Command.TheViews.{out-Command}
use Rattle.vaultctl_job.specs.Forms.{rule_for}
use Rattle.vaultctl_job.proofs.arguments.with_arguments.Given as goal

abbrev pub invariant-loop-argument : goal.invariant-loop-argument
invariant-loop-argument l =
    (app_of l.command ≡ fold with_rule (app_of l.initial.command) (map rule_for (take l.argument-index l.arguments)))
    × ((out-Command l.command).has_globals ≡ (out-Command l.initial.command).has_globals)
