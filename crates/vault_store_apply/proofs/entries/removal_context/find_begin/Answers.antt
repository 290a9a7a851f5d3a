use Rattle.std.proofs.Common.{ap, ◌∙◌}
use Rattle.std.specs.Prelude.{Option, option_map, unwrap_or}
use Rattle.vault_core_model.specs.declared.records.Tenure.{Tenure}
use Rattle.vault_store_apply.proofs.entries.removal_context.find_begin.Goals as goal

pub returns-clause-value : goal.returns-clause-value
returns-clause-value g c clean v was =
    c.begin_of.ensures
    ∙ ap (λ (o : Option Tenure). unwrap_or (option_map (λ (t : Tenure). t.from) o) c.args.entry.now.admitted)
    (c.in_ok-tenure.ensures.value clean v was)
