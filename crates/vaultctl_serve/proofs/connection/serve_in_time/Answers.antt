use Rattle.std.proofs.Common.{◌≡◌, ℕ, List, Option, IfErr, OnOk, ap, subst}
use Rattle.std.proofs.lemmas.Result.{IfErr-weaker}
use Rattle.vault_http.specs.Calls.{Steps, StepsHeard}
use Rattle.vault_http.specs.Exchange.{Answered}
use Rattle.vault_http.specs.Left.{Unanswered}
use Rattle.vaultctl_serve.specs.InTime.{known_in_time}
use Rattle.vaultctl_serve.specs.declared.scan.Scan.TheVariants.{Leading}
use Rattle.vaultctl_serve.proofs.InTimeLemmas.{left_of, request-remaining}
use Rattle.vaultctl_serve.proofs.StrangerLemmas.{refuses-strangers}
use Rattle.vaultctl_serve.proofs.WholeLemmas.{vaults-alone, waits-for-all}
use Rattle.vaultctl_serve.proofs.connection.serve_in_time.Goals as goal

-- what is read ahead is what comes in time
pub returns-clause-ok : goal.returns-clause-ok
returns-clause-ok g c =
    let unread = left_of c.in-Ok.reader (λ r. r.scan) (λ r. g.I.Inbound.coming r.inbound) in
    let known = known_in_time Leading (g.I.Inbound.coming c.args.inbound) in
    let same : unread ≡ known = request-remaining c.in-Ok.reader c.new.result (λ r. r.scan) (λ r. g.I.Inbound.coming r.inbound) Leading (g.I.Inbound.coming c.args.inbound)
    c.in-Ok.ensures.inner c.in-Ok.ensures.empty c.in-Ok.ensures.capacity c.new.ensures.scan (ap (λ i. g.I.Inbound.coming i) c.new.ensures.inbound) in
    let Carries = StepsHeard g.K.Kept c.args.keeper.now c.serve_for.new.keeper g.H.Hears.hears in
    let P : Option (List ℕ) → Type 0 = λ bytes. OnOk c.serve_for.result (Answered c.args.occasion.now.hosts.now Carries c.args.occasion.now.moment bytes (g.K.Kept.vault c.args.keeper.now, c.args.hears.now) (g.K.Kept.vault c.serve_for.new.keeper, c.serve_for.new.hears) (g.W.Write.contents c.args.writer.now) (g.W.Write.contents c.serve_for.new.writer)) in
    λ h. subst P same (c.serve_for.ensures.ok h)

pub returns-clause-err : goal.returns-clause-err
returns-clause-err g c =
    let unread = left_of c.in-Ok.reader (λ r. r.scan) (λ r. g.I.Inbound.coming r.inbound) in
    let known = known_in_time Leading (g.I.Inbound.coming c.args.inbound) in
    let same : unread ≡ known = request-remaining c.in-Ok.reader c.new.result (λ r. r.scan) (λ r. g.I.Inbound.coming r.inbound) Leading (g.I.Inbound.coming c.args.inbound)
    c.in-Ok.ensures.inner c.in-Ok.ensures.empty c.in-Ok.ensures.capacity c.new.ensures.scan (ap (λ i. g.I.Inbound.coming i) c.new.ensures.inbound) in
    let Carries = StepsHeard g.K.Kept c.args.keeper.now c.serve_for.new.keeper g.H.Hears.hears in
    let rest = left_of c.serve_for.new.reader (λ r. r.scan) (λ r. g.I.Inbound.coming r.inbound) in
    let P : Option (List ℕ) → Type 0 = λ bytes. IfErr c.serve_for.result (λ e. Unanswered c.args.occasion.now.hosts.now Carries e c.args.occasion.now.moment bytes rest (g.K.Kept.vault c.args.keeper.now, c.args.hears.now) (g.K.Kept.vault c.serve_for.new.keeper, c.serve_for.new.hears) (g.W.Write.contents c.args.writer.now) (g.W.Write.contents c.serve_for.new.writer)) in
    λ h. IfErr-weaker c.serve_for.result _ _ (λ e d. (rest, d)) (subst P same (c.serve_for.ensures.err h))

pub returns-clause-late : goal.returns-clause-late
returns-clause-late g c = λ h.
    let before = c.args.keeper.now in
    let after = c.serve_for.new.keeper in
    let known = known_in_time Leading (g.I.Inbound.coming c.args.inbound) in
    let a = g.W.Write.contents c.args.writer.now in
    let b = g.W.Write.contents c.serve_for.new.writer in
    let alone = vaults-alone (StepsHeard g.K.Kept before after g.H.Hears.hears) (Steps g.K.Kept before after) (λ s s' t reply d. d.0) (g.K.Kept.vault before, c.args.hears.now) (g.K.Kept.vault after, c.serve_for.new.hears)
    c.args.occasion.now.hosts.now c.args.occasion.now.moment known a b c.serve_for.result (returns-clause-ok g c h) (returns-clause-err g c h) in
    waits-for-all c.args.occasion.now.hosts.now (Steps g.K.Kept before after) c.args.occasion.now.moment known (g.K.Kept.vault before) (g.K.Kept.vault after) a b c.serve_for.result alone.0 alone.1

pub returns-clause-strangers : goal.returns-clause-strangers
returns-clause-strangers g c = λ h.
    let before = c.args.keeper.now in
    let after = c.serve_for.new.keeper in
    let known = known_in_time Leading (g.I.Inbound.coming c.args.inbound) in
    let a = g.W.Write.contents c.args.writer.now in
    let b = g.W.Write.contents c.serve_for.new.writer in
    let alone = vaults-alone (StepsHeard g.K.Kept before after g.H.Hears.hears) (Steps g.K.Kept before after) (λ s s' t reply d. d.0) (g.K.Kept.vault before, c.args.hears.now) (g.K.Kept.vault after, c.serve_for.new.hears)
    c.args.occasion.now.hosts.now c.args.occasion.now.moment known a b c.serve_for.result (returns-clause-ok g c h) (returns-clause-err g c h) in
    refuses-strangers c.args.occasion.now.hosts.now (Steps g.K.Kept before after) c.args.occasion.now.moment known (g.K.Kept.vault before) (g.K.Kept.vault after) a b c.serve_for.result alone.0 alone.1
