use Rattle.std.proofs.Common.{◌≡◌, ◌∙◌, ℕ, Option, FitsSigned, rules, subst, sym, to_z, to_z-of_z, of_z, w64}
use Rattle.vault_base.specs.Days.{moment_at}
use Rattle.vault_core.specs.Hearing.{AtMostOne}
use Rattle.vaultctl_serve.proofs.AccountLemmas.{late-unread}
use Rattle.vaultctl_serve_lines.proofs.turns.serve_request.Goals as goal

-- the reading is what the clock shows
pub returns-clause-timely : goal.returns-clause-timely
returns-clause-timely g c =
    let reading = c.reading-reading.result in
    let old = g.K.Kept.vault c.args.keeper.now in
    let new = g.K.Kept.vault c.serve_connection-served.new.keeper in
    let fits : FitsSigned w64 reading = search rules in
    let same : to_z w64 (of_z w64 reading) ≡ reading = to_z-of_z fits in
    let shown : c.from_secs-moment.result ≡ moment_at reading = rw same at c.from_secs-moment.ensures in
    let P : Option ℕ → Type 0 = λ m. AtMostOne m old new in
    λ h. (moment_at reading, c.reading-reading.ensures, subst P shown (c.serve_connection-served.ensures.once h))

-- what is heard is the entry of the request that was served
pub returns-clause-logged : goal.returns-clause-logged
returns-clause-logged g c =
    let reading = c.reading-reading.result in
    let old = g.K.Kept.vault c.args.keeper.now in
    let new = g.K.Kept.vault c.serve_connection-served.new.keeper in
    let fits : FitsSigned w64 reading = search rules in
    let same : to_z w64 (of_z w64 reading) ≡ reading = to_z-of_z fits in
    let shown : c.from_secs-moment.result ≡ moment_at reading = rw same at c.from_secs-moment.ensures in
    let P : Option ℕ → Type 0 = λ m. AtMostOne m old new in
    let entry = c.request.result in
    λ h. (
      moment_at reading,
      c.reading-reading.ensures,
      (
        entry.facts,
        entry.asked.now,
        entry.answered.now,
        _,
        c.log.ensures.logs,
        (c.request.ensures.door, rw same at c.request.ensures.moment, subst P shown (c.serve_connection-served.ensures.once h)),
        λ late. c.serve_connection-served.ensures.unread (late-unread c.serve_connection-served.result (sym c.trouble_of.ensures ∙ sym c.request.ensures.trouble ∙ late)),
      ),
    )

pub returns-clause-heard : goal.returns-clause-heard
returns-clause-heard g c = λ h. (_, c.serve_connection-served.ensures.heard h)

-- and whatever the device does, it is the one entry that is heard of
pub returns-clause-log : goal.returns-clause-log
returns-clause-log g c = (c.request.result.facts, c.request.result.asked.now, c.request.result.answered.now, _, c.log.ensures.logs)
