use Rattle.std.proofs.Common.{ℕ, List, [], ◌∷◌, Option, None, inl, refl, subst, sym, ◌∙◌}
use Rattle.vaultctl_serve.specs.Serving.{Missed, Taken, Tries, Try}
use Rattle.vaultctl_serve_lines.specs.Doors.{LogsInTurns, SteppedInTurns, taken_by}
use Rattle.vaultctl_serve_lines.proofs.LogTurnLemmas.{LogsInTurns-missed, LogsInTurns-taken}
use Rattle.vaultctl_serve_lines.proofs.TurnLemmas.{takes-one, Turns-taken}
use Rattle.vaultctl_serve_lines.proofs.turns.serve_turn.Goals as goal

-- the request is served at what the clock shows as it was taken, and what is logged changes nothing of what comes
pub returns-in-Request-clause-timely : goal.returns-in-Request-clause-timely
returns-in-Request-clause-timely g c =
    let old = g.K.Kept.vault c.args.keeper.now in
    let new = g.K.Kept.vault c.serve_request.new.keeper in
    let before = g.D.Doors.tries c.args.doors.now in
    let Q : Option (List Try) → Type 0 = λ after. SteppedInTurns 1 1 before after old new in
    λ h. let steps = c.serve_request.ensures.timely h in
    subst Q (sym c.serve_request.ensures.tries) (Turns-taken before (g.D.Doors.tries c.next.new.self) (g.D.Doors.shown c.next.new.self) steps.0 old new c.in-Request.ensures.arrived steps.1 steps.2)

-- the same of a line, whose connection is kept or closed then
pub returns-in-Line-clause-timely : goal.returns-in-Line-clause-timely
returns-in-Line-clause-timely g c =
    let old = g.K.Kept.vault c.args.keeper.now in
    let new = g.K.Kept.vault c.answer_heard-answered.new.keeper in
    let before = g.D.Doors.tries c.args.doors.now in
    let Q : Option (List Try) → Type 0 = λ after. SteppedInTurns 1 1 before after old new in
    let R : ℕ → Type 0 = λ n. SteppedInTurns 1 n before (g.D.Doors.tries c.part.new.doors) old new in
    λ h. let steps = c.answer_heard-answered.ensures.timely h in
    subst R (takes-one c.answer_heard-answered.result c.turn_of.result c.turn_of.ensures)
    (subst Q (sym (c.part.ensures.tries ∙ c.answer_heard-answered.ensures.tries)) (Turns-taken before (g.D.Doors.tries c.next.new.self) (g.D.Doors.shown c.next.new.self) steps.0 old new c.in-Line.ensures.arrived steps.1 steps.2))

-- nothing came
pub returns-in-Nothing-clause-timely : goal.returns-in-Nothing-clause-timely
returns-in-Nothing-clause-timely g c = λ h. (Missed ∷ [], refl, refl, c.in-Nothing.ensures.arrived, refl)

pub returns-in-Nothing-clause-heard : goal.returns-in-Nothing-clause-heard
returns-in-Nothing-clause-heard g c = λ h. (None, inl (refl, refl))

-- the entry of the request
pub returns-in-Request-clause-logged : goal.returns-in-Request-clause-logged
returns-in-Request-clause-logged g c =
    let shown = g.D.Doors.shown c.next.new.self in
    let Q : Option (List Try) → Type 0 = λ after. Tries (g.D.Doors.tries c.args.doors.now) after (Taken shown ∷ []) in
    LogsInTurns-taken g.D.Doors.tries g.D.Doors.silent g.D.Doors.logs c.args.doors.now c.next.new.self c.serve_request.new.doors shown
    (subst Q (sym c.serve_request.ensures.tries) c.in-Request.ensures.arrived) c.next.ensures.silent c.serve_request.ensures.log

-- that of the line
pub returns-in-Line-clause-logged : goal.returns-in-Line-clause-logged
returns-in-Line-clause-logged g c =
    let shown = g.D.Doors.shown c.next.new.self in
    let Q : Option (List Try) → Type 0 = λ after. Tries (g.D.Doors.tries c.args.doors.now) after (Taken shown ∷ []) in
    let R : ℕ → Type 0 = λ n. LogsInTurns g.D.Doors.tries g.D.Doors.silent g.D.Doors.logs 1 n c.args.doors.now c.part.new.doors in
    let log = c.answer_heard-answered.ensures.log in
    subst R (takes-one c.answer_heard-answered.result c.turn_of.result c.turn_of.ensures)
    (LogsInTurns-taken g.D.Doors.tries g.D.Doors.silent g.D.Doors.logs c.args.doors.now c.next.new.self c.part.new.doors shown
    (subst Q (sym (c.part.ensures.tries ∙ c.answer_heard-answered.ensures.tries)) c.in-Line.ensures.arrived) c.next.ensures.silent
    (log.0, log.1, log.2, log.3, c.part.ensures.logs c.next.new.self log.0 log.1 log.2 log.3 log.4))

-- nothing came, and nothing is logged
pub returns-in-Nothing-clause-logged : goal.returns-in-Nothing-clause-logged
returns-in-Nothing-clause-logged g c =
    LogsInTurns-missed g.D.Doors.tries g.D.Doors.silent g.D.Doors.logs c.args.doors.now c.next.new.self c.in-Nothing.ensures.arrived c.next.ensures.silent
