-- What the forms of subcommands and of their words mean.
use Rattle.std.specs.Prelude.{Some, true, map, fold}
use Rattle.clap.specs.Words.{App, Rule, Shape, new_app, new_rule, with_rule}
use Rattle.clap.specs.declared.builder.action.ArgAction.TheVariants.{Append, SetTrue}
use Rattle.vaultctl_job.specs.Arguments as arg
use Rattle.vaultctl_job.specs.declared.arguments.Argument.{Argument}
use Rattle.vaultctl_job.specs.declared.arguments.Argument.TheVariants.{Place, OptionalPlace, Places, Port, Count, Option, RequiredOption, Options, Flag}
use Rattle.vaultctl_job.specs.declared.subcommands.Subcommand.{Subcommand}

abbrev pub rule_for : Argument → Rule
rule_for (Place name help) = arg.place name.now
rule_for (OptionalPlace name help) = arg.optional_place name.now
rule_for (Places name help) = record (new_rule name.now) { action = Some Append }
rule_for Port = arg.port
rule_for Count = arg.count
rule_for (Option name value help) = arg.option name.now
rule_for (RequiredOption name value help) = record (arg.option name.now) { required = true }
rule_for (Options name value help) = record (arg.option name.now) { action = Some Append }
rule_for (Flag name help) = record (new_rule name.now) { long = Some name.now; action = Some SetTrue }

abbrev pub app_for : Subcommand → App
app_for form = fold with_rule (new_app form.name.now) (map rule_for form.arguments.now)

abbrev pub shape_for : Subcommand → Shape
shape_for form = (app_for form).top
