use Rattle.std.proofs.Common.{sym, ap, ◌∙◌}
use Rattle.vault_rules.specs.Walk.{dues, unless}
use Rattle.vault_rules.proofs.Lasts.{last_mark-last}
use Rattle.vault_rules.proofs.plan.mark_of.Goals as goal

pub returns-then-last : goal.returns-then-last
returns-then-last c =
    let d = dues c.args.rules.now c.args.key.now c.args.now in
    let x = c.in_ok-last.last.now in
    sym (last_mark-last d c.args.held.now x c.in_ok-last.ensures.value ∙ ap (λ b. unless b (d.current x.size x.admitted)) c.if-last.true)

pub returns : goal.returns
returns c =
    let d = dues c.args.rules.now c.args.key.now c.args.now in
    let x = c.in_ok-last.last.now in
    c.first_for_current.ensures ∙ sym (last_mark-last d c.args.held.now x c.in_ok-last.ensures.value ∙ ap (λ b. unless b (d.current x.size x.admitted)) c.if-last.false)
