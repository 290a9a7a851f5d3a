use Rattle.std.proofs.Common.{ap₂, refl, sym, ◌∙◌}
use Rattle.clap.specs.Words.{with_subcommand}
use Rattle.vaultctl_job.specs.Forms.{shape_for}
use Rattle.vaultctl_job.proofs.FoldLemmas.{fold_map_more}
use Rattle.vaultctl_job.proofs.subcommands.with_subcommands.Goals as goal

pub loop-subcommand-preserved : goal.loop-subcommand-preserved
loop-subcommand-preserved c =
    c.in_ok-command.ensures ∙ ap₂ with_subcommand c.loop-subcommand.invariant refl
    ∙ sym (fold_map_more with_subcommand shape_for _ c.args.subcommands.now c.loop-subcommand.subcommand-index _ c.loop-subcommand-test.true)
