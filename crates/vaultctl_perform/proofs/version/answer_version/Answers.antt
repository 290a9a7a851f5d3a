use Rattle.std.proofs.Common.{◌≡◌, sym, ◌∙◌}
use Rattle.std.specs.Io.KnownBytes.{Appends}
use Rattle.vaultctl_commands.specs.declared.outcome.Outcome.TheVariants.{Done}
use Rattle.vaultctl_perform.specs.Printed.{version_line}
use Rattle.vaultctl_perform.proofs.StatusLemmas.{done_at_zero}
use Rattle.vaultctl_perform.proofs.version.answer_version.Goals as goal

pub returns-clause-printed : goal.returns-clause-printed
returns-clause-printed g c = λ z.
    (done_at_zero (λ stated. (stated ≡ Done) × Appends _ _ (version_line c.args.version.now c.args.commit.now)) c.print_version.result c.print_version.ensures (sym c.status.ensures.outcome ∙ z)).1
