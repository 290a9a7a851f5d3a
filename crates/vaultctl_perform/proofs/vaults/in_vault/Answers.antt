use Rattle.std.proofs.Common.{◌∙◌, Ok, inl, inr, refl}
use Rattle.vaultctl_commands.specs.declared.outcome.Outcome.TheVariants.{Refused}
use Rattle.vaultctl_perform.proofs.DoneLemmas.{along, carries_from}
use Rattle.vaultctl_perform.proofs.vaults.in_vault.Goals as goal

pub returns-in-Ok : goal.returns-in-Ok
returns-in-Ok g c =
    let done = c.with_vault-outcome.ensures in
    record {
      performed = (
        c.with_vault-outcome.result,
        c.status-ended.ensures.outcome,
        inr (done.printed, (done.given ∙ c.in-Ok.ensures.given, carries_from _ _ _ _ _ done.done (along c.in-Ok.ensures.closed (λ l. l.items)))),
      );
    }

pub returns-in-Err : goal.returns-in-Err
returns-in-Err g c = record { performed = (Ok Refused, c.print_cause.ensures, inl (c.in-Err.ensures.unseen, refl, (refl, refl))) }
