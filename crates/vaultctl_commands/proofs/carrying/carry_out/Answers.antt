use Rattle.vault_core_model.proofs.Counts.{no_less}
use Rattle.vaultctl_commands.proofs.carrying.carry_out.Goals as goal

pub returns-clause-leaves : goal.returns-clause-leaves
returns-clause-leaves g c =
    let step = c.step-reply in
    record {
      honest = step.ensures.leaves.honest;
      counted = no_less _ _ _ step.ensures.leaves.counted;
      steady = (step.result, step.ensures.step, c.print_in_words.ensures.ok, step.ensures.leaves.counted);
    }
