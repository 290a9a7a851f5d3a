use Rattle.vaultctl_work.specs.declared.intake.Intake.{Intake}
use Rattle.sqlite_wal.specs.Files.{image_at}
use Rattle.vaultctl_perform.proofs.DoneLemmas.{as_said, carried_as}
use Rattle.vaultctl_perform.proofs.asking.take_in.Goals as goal

pub returns : goal.returns
returns g c =
    let it = c.ask_read.ensures.performed in
    record {
      performed = λ said gives. (
        it.0,
        it.1,
        as_said c.args.machine.now c.ask_read.new.machine it.0 _ _ (λ (i : Intake). i.asked) c.args.asked said _ _ gives it.2
            (λ i. carried_as (image_at g.A.Start) c.args.machine.now c.ask_read.new.machine it.0 _ _ _ _ _ _ (λ same. same) (λ printed. printed.0) (λ v w did. did.2)),
      );
    }
