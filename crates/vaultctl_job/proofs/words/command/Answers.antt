use Rattle.std.proofs.Common.{ap, ◌∙◌}
use Rattle.std.specs.Prelude.{fold}
use Rattle.std.proofs.lemmas.Result.{IfOk-weaker}
use Rattle.clap.specs.Words.{with_subcommand}
use Rattle.vaultctl_job.specs.Words.{needing_subcommand, subcommands, vaultctl}
use Rattle.vaultctl_job.proofs.words.command.Goals as goal

pub returns : goal.returns
unfolding vaultctl
returns c =
    IfOk-weaker c.with_all.result _ _
    (λ r h. h ∙ ap (λ a. fold with_subcommand a subcommands) (c.needs_subcommand.ensures ∙ ap needing_subcommand c.named-top.ensures.app))
    c.with_all.ensures
