use Rattle.std.proofs.Common.{ap, map, ◌∙◌}
use Rattle.std.specs.Prelude.{fold}
use Rattle.std.proofs.lemmas.Result.{IfOk-weaker}
use Rattle.clap.specs.Words.{App, with_rule}
use Rattle.vaultctl_job.specs.Forms.{rule_for}
use Rattle.vaultctl_job.proofs.subcommands.made.Goals as goal

pub returns-clause-app : goal.returns-clause-app
returns-clause-app c =
    IfOk-weaker c.with_arguments.result _ _
    (λ r h. h ∙ ap (λ (a : App). fold with_rule a (map rule_for c.args.subcommand.arguments.now)) (c.with_usage.ensures.app ∙ c.named-command.ensures.app))
    c.with_arguments.ensures.app

pub returns-clause-local : goal.returns-clause-local
returns-clause-local c =
    IfOk-weaker c.with_arguments.result _ _
    (λ r h. h ∙ c.with_usage.ensures.local ∙ c.named-command.ensures.local)
    c.with_arguments.ensures.local
