use Rattle.vaultctl_commands.specs.declared.asked.AskedCommand.{AskedCommand}
use Rattle.sqlite_wal.specs.Files.{image_at}
use Rattle.vaultctl_perform.proofs.DoneLemmas.{as_said, carried_as}
use Rattle.vaultctl_perform.proofs.asking.ask.Goals as goal

pub returns : goal.returns
returns g c =
    let it = c.ask_read.ensures.performed in
    record {
      performed = λ said gives. (
        it.0,
        it.1,
        as_said c.args.machine.now c.ask_read.new.machine it.0 _ _ (λ (x : AskedCommand). x) c.args.asked said _ _ gives it.2
            (λ x. carried_as (image_at g.A.Start) c.args.machine.now c.ask_read.new.machine it.0 _ _ _ _ _ _ (λ same. same) (λ printed. printed.0) (λ v w did. did.2)),
      );
    }
