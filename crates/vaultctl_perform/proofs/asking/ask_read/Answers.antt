use Rattle.std.proofs.Common.{Err, refl}
use Rattle.vaultctl_commands.specs.declared.fault.JobFault.TheVariants.{Memory}
use Rattle.sqlite_wal.specs.Files.{image_at}
use Rattle.vaultctl_perform.proofs.DoneLemmas.{carried_as, read_ok}
use Rattle.vaultctl_perform.proofs.asking.ask_read.Goals as goal

pub returns-in-Ok : goal.returns-in-Ok
returns-in-Ok g c =
    let it = c.in_vault.ensures.performed in
    record {
      performed = (
        it.0,
        it.1,
        read_ok c.args.machine.now c.in_vault.new.machine it.0 _ _ c.args.asked.now _ c.in-Ok.is
            (carried_as (image_at g.A.Start) c.args.machine.now c.in_vault.new.machine it.0 _ _ _ _ _ _ (λ same. same.1) (λ printed. printed) (λ v w did. (_, _, did)) it.2),
      );
    }

pub returns-in-Err-Memory : goal.returns-in-Err-Memory
returns-in-Err-Memory g c =
    let e = rw c.in-Err-Memory.is at c.in-Err-Memory.field-0-is in
    record { performed = rw (c.in-Err-Memory.is, e) (Err Memory, c.print_fault.ensures.status, (refl, refl, refl)) }
