use Rattle.std.proofs.Common.{refl, sym}
use Rattle.sqlite_wal.specs.Files.{image_at}
use Rattle.vaultctl_commands.specs.declared.asked.AskedEvents.{AskedEvents}
use Rattle.vaultctl_commands.specs.declared.asked.AskedSeal.{AskedSeal}
use Rattle.vaultctl_perform.proofs.DoneLemmas.{as_said, carried_as}
use Rattle.vaultctl_perform.proofs.perform.Goals as goal

pub returns-in-Init : goal.returns-in-Init
returns-in-Init g c =
    let it = c.init.ensures.performed in
    record { performed = rw c.in-Init.is (it.0, it.1, (it.2, refl)) }

pub returns-in-Dept : goal.returns-in-Dept
returns-in-Dept g c = record { performed = rw c.in-Dept.is (c.ask.ensures.performed _ c.dept.ensures) }

pub returns-in-Caller : goal.returns-in-Caller
returns-in-Caller g c = record { performed = rw c.in-Caller.is (c.ask-in-Caller.ensures.performed _ c.caller.ensures) }

pub returns-in-Bucket : goal.returns-in-Bucket
returns-in-Bucket g c = record { performed = rw c.in-Bucket.is (c.ask-in-Bucket.ensures.performed _ c.bucket.ensures) }

pub returns-in-Move : goal.returns-in-Move
returns-in-Move g c = record { performed = rw c.in-Move.is (c.ask-in-Move.ensures.performed _ c.move_bucket.ensures) }

pub returns-in-Run : goal.returns-in-Run
returns-in-Run g c = record { performed = rw c.in-Run.is (c.ask-in-Run.ensures.performed _ c.run.ensures) }

pub returns-in-Report : goal.returns-in-Report
returns-in-Report g c = record { performed = rw c.in-Report.is (c.ask-in-Report.ensures.performed _ c.report.ensures) }

pub returns-in-Certificate : goal.returns-in-Certificate
returns-in-Certificate g c = record { performed = rw c.in-Certificate.is (c.ask-in-Certificate.ensures.performed _ c.certificate.ensures) }

pub returns-in-Intake : goal.returns-in-Intake
returns-in-Intake g c = record { performed = rw c.in-Intake.is (c.take_in.ensures.performed _ c.asked.ensures) }

pub returns-in-Register : goal.returns-in-Register
returns-in-Register g c = record { performed = rw c.in-Register.is c.in_vault.ensures.performed }

pub returns-in-Verify : goal.returns-in-Verify
returns-in-Verify g c = record { performed = rw c.in-Verify.is c.verify.ensures.performed }

pub returns-in-Events : goal.returns-in-Events
returns-in-Events g c =
    let it = c.ask_read.ensures.performed in
    record {
      performed = rw c.in-Events.is (
        it.0,
        it.1,
        as_said c.args.machine.now c.ask_read.new.machine it.0 _ _ (λ (x : AskedEvents). x) c.events.result _ _ _ c.events.ensures it.2
            (λ x. carried_as (image_at g.A.Start) c.args.machine.now c.ask_read.new.machine it.0 _ _ _ _ _ _ (λ same. same) (λ printed. printed) (λ v w did. did.2)),
      );
    }

pub returns-in-Seal : goal.returns-in-Seal
returns-in-Seal g c =
    let it = c.ask_read-in-Seal.ensures.performed in
    record {
      performed = rw c.in-Seal.is (
        it.0,
        it.1,
        as_said c.args.machine.now c.ask_read-in-Seal.new.machine it.0 _ _ (λ (x : AskedSeal). x) c.seal.result _ _ _ c.seal.ensures it.2
            (λ x. carried_as (image_at g.A.Start) c.args.machine.now c.ask_read-in-Seal.new.machine it.0 _ _ _ _ _ _ (λ same. same) (λ printed. printed) (λ v w did. did.2)),
      );
    }

pub returns-in-Lawful : goal.returns-in-Lawful
returns-in-Lawful g c = record { performed = rw c.in-Lawful.is c.in_vault-in-Lawful.ensures.performed }

pub returns-in-Replay : goal.returns-in-Replay
returns-in-Replay g c = record { performed = rw c.in-Replay.is c.replay_script.ensures.performed }

pub returns-in-Serve : goal.returns-in-Serve
returns-in-Serve g c = record { performed = rw c.in-Serve.is c.in_vault-in-Serve.ensures.performed }

pub returns-in-Migrate : goal.returns-in-Migrate
returns-in-Migrate g c = record { performed = rw (c.in-Migrate.is, sym c.copying_of-copying.ensures) c.migrate.ensures.performed }
