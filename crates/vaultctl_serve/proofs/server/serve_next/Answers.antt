use Rattle.std.proofs.Common.{◌≡◌, ℤ, Option, None, List, [], inl, refl, FitsSigned, rules, subst, sym, to_z, to_z-of_z, of_z, w64}
use Rattle.vault_base.specs.Days.{moment_at}
use Rattle.vault_core.specs.Hearing.{AtMostOne}
use Rattle.vaultctl_serve.specs.Serving.{SteppedOnTime, Try}
use Rattle.vaultctl_serve.proofs.ServingLemmas.{OnTime-taken}
use Rattle.vaultctl_serve.proofs.server.serve_next.Goals as goal

-- the reading is what the clock shows as the connection was taken, and what is logged changes nothing of what comes
pub returns-in-Ok-clause-timely : goal.returns-in-Ok-clause-timely
returns-in-Ok-clause-timely g c =
    let reading = c.reading-reading.result in
    let before = g.A.Arrivals.tries c.args.arrivals.now in
    let old = g.K.Kept.vault c.args.keeper.now in
    let new = g.K.Kept.vault c.serve_taken.new.keeper in
    let fits : FitsSigned w64 reading = search rules in
    let same : to_z w64 (of_z w64 reading) ≡ reading = to_z-of_z fits in
    let P : ℤ → Type 0 = λ z. AtMostOne (moment_at z) old new in
    let Q : Option (List Try) → Type 0 = λ after. SteppedOnTime 1 before after old new in
    λ h. subst Q (sym c.serve_taken.ensures.tries) (OnTime-taken before (g.A.Arrivals.tries c.take.new.self) (g.A.Arrivals.shown c.take.new.self) (moment_at reading) old new c.in-Ok.ensures.tried c.reading-reading.ensures (subst P same (c.serve_taken.ensures.once h)))

pub returns-in-Ok-clause-heard : goal.returns-in-Ok-clause-heard
returns-in-Ok-clause-heard g c = λ h. (_, c.serve_taken.ensures.heard h)

pub returns-in-Err-clause-heard : goal.returns-in-Err-clause-heard
returns-in-Err-clause-heard g c = λ h. (None, inl (refl, refl))

-- the one entry of the connection
pub returns-in-Ok-clause-logged : goal.returns-in-Ok-clause-logged
returns-in-Ok-clause-logged g c =
    let log = c.serve_taken.ensures.log in
    (log.0, (c.take.new.self, log.1, log.2, log.3, c.in-Ok.ensures.silent, log.4))

-- that of a connection that couldn't be taken
pub returns-in-Err-clause-logged : goal.returns-in-Err-clause-logged
returns-in-Err-clause-logged g c =
    let log = c.miss.ensures.logged.2 in
    (log.0, (c.take.new.self, [], [], log.1, c.in-Err.ensures.silent, log.2))
