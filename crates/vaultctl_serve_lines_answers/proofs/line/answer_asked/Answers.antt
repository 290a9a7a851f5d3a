use Rattle.std.proofs.Common.{Result, Ok, Err, subst}
use Rattle.vaultctl_replay.specs.Runs.{Sent}
use Rattle.vaultctl_replay.specs.declared.fault.ReplayFault.{ReplayFault}
use Rattle.vaultctl_replay.proofs.RunLemmas.{heard_weaker}
use Rattle.vaultctl_serve_lines_answers.specs.declared.line.Next.{Next}
use Rattle.vaultctl_serve_lines_answers.specs.declared.line.Next.TheVariants as next
use Rattle.vaultctl_serve_lines_answers.proofs.line.answer_asked.Goals as goal

pub returns-in-Ok-clause-heard : goal.returns-in-Ok-clause-heard
returns-in-Ok-clause-heard g c =
    let a = g.W.Write.contents c.args.writer.now in
    let b = g.W.Write.contents c.answer.new.writer in
    let on : Result Next ReplayFault = Ok next.On in
    heard_weaker g.K.Kept c.args.keeper.now c.answer.new.keeper g.H.Hears.hears c.args.hears.now c.answer.new.hears (λ out. Sent c.answer.result a b out) (λ out. Sent on a b out)
    (λ out s. subst (λ (r : Result (Unit {0}) ReplayFault). Sent r a b out) c.in-Ok.is s) c.args.asked c.answer.ensures.heard

pub returns-in-Err-clause-heard : goal.returns-in-Err-clause-heard
returns-in-Err-clause-heard g c =
    let a = g.W.Write.contents c.args.writer.now in
    let b = g.W.Write.contents c.answer.new.writer in
    let failed : Result Next ReplayFault = Err c.in-Err.fault in
    heard_weaker g.K.Kept c.args.keeper.now c.answer.new.keeper g.H.Hears.hears c.args.hears.now c.answer.new.hears (λ out. Sent c.answer.result a b out) (λ out. Sent failed a b out)
    (λ out s. subst (λ (r : Result (Unit {0}) ReplayFault). Sent r a b out) c.in-Err.is s) c.args.asked c.answer.ensures.heard
