use Rattle.std.proofs.Common.{◌≡◌, ◌∙◌, List, ℕ, Result, Err, refl}
use Rattle.std.specs.Prelude.{IfOk, string_bytes}
use Rattle.vaultctl_replay.specs.Runs.{Sent}
use Rattle.vaultctl_replay.specs.declared.fault.ReplayFault.{ReplayFault}
use Rattle.vaultctl_replay.specs.declared.fault.ReplayFault.TheVariants as faults
use Rattle.vaultctl_replay.proofs.RunLemmas.{heard_began, heard_finished, heard_weaker, line_sent}
use Rattle.vaultctl_replay.proofs.answer.answer.Goals as goal

-- there is no room for the line of the reply
pub returns-in_default-clause-heard : goal.returns-in_default-clause-heard
returns-in_default-clause-heard g c =
    let w = g.W.Write.contents c.args.writer.now in
    let without : Result (Unit {0}) ReplayFault = Err faults.Memory in
    heard_weaker g.K.Kept c.args.keeper.now c.reply_to.new.keeper g.H.Hears.hears c.args.hears.now c.reply_to.new.hears
    (λ out. IfOk c.reply_to.result (λ text. string_bytes text ≡ out)) (λ out. Sent without w w out) (λ out none. refl) c.args.asked c.reply_to.ensures.heard

pub returns-in_default-clause-err : goal.returns-in_default-clause-err
returns-in_default-clause-err g c =
    let w = g.W.Write.contents c.args.writer.now in
    heard_began g.K.Kept c.args.keeper.now c.reply_to.new.keeper g.H.Hears.hears c.args.hears.now c.reply_to.new.hears {T = Unit {0}} w w c.args.asked (Err faults.Memory) (returns-in_default-clause-heard g c)

-- the line of the reply was written, or a beginning of it
pub returns-clause-heard : goal.returns-clause-heard
returns-clause-heard g c =
    let w = g.W.Write.contents c.args.writer.now in
    let x = g.W.Write.contents c.write_bytes.new.writer in
    heard_weaker g.K.Kept c.args.keeper.now c.reply_to.new.keeper g.H.Hears.hears c.args.hears.now c.reply_to.new.hears
    (λ out. string_bytes c.in-Ok.reply ≡ out) (λ out. Sent c.write_bytes.result w x out)
    (λ out is. line_sent c.write_bytes.result w x c.as_bytes.result.now out (c.as_bytes.ensures.value ∙ is) c.write_bytes.ensures.ok c.write_bytes.ensures.err c.write_bytes.ensures.write)
    c.args.asked c.in-Ok.ensures.heard

pub returns-clause-ok : goal.returns-clause-ok
returns-clause-ok g c =
    heard_finished g.K.Kept c.args.keeper.now c.reply_to.new.keeper g.H.Hears.hears c.args.hears.now c.reply_to.new.hears
    (g.W.Write.contents c.args.writer.now) (g.W.Write.contents c.write_bytes.new.writer) c.args.asked c.write_bytes.result (returns-clause-heard g c)

pub returns-clause-err : goal.returns-clause-err
returns-clause-err g c =
    heard_began g.K.Kept c.args.keeper.now c.reply_to.new.keeper g.H.Hears.hears c.args.hears.now c.reply_to.new.hears
    (g.W.Write.contents c.args.writer.now) (g.W.Write.contents c.write_bytes.new.writer) c.args.asked c.write_bytes.result (returns-clause-heard g c)
