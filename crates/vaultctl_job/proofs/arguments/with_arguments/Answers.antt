use Rattle.std.proofs.Common.{Bool, ◌||◌, ap₂, sym, ◌∙◌}
use Rattle.std.proofs.Math.Bool.{or-false}
use Rattle.clap.specs.Words.{with_rule}
use Rattle.vaultctl_job.specs.Forms.{rule_for}
use Rattle.vaultctl_job.proofs.FoldLemmas.{fold_map_more}
use Rattle.vaultctl_job.proofs.arguments.with_arguments.Goals as goal

pub loop-argument-preserved : goal.loop-argument-preserved
loop-argument-preserved c =
    let before = c.loop-argument.invariant in
    let added = c.in_ok-command.ensures in (
      added.shape c.made.ensures.local ∙ ap₂ with_rule before.0 c.made.ensures.rule
          ∙ sym (fold_map_more with_rule rule_for _ c.args.arguments.now c.loop-argument.argument-index _ c.loop-argument-test.true),
      added.globals ∙ ap₂ (λ (a b : Bool). a || b) before.1 c.made.ensures.local ∙ or-false _,
    )
