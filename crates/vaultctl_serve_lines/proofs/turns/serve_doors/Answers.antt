use Rattle.std.proofs.Common.{◌≡◌, ◌∙◌, ◌+◌, ◌≤◌, ℕ, arith, inl, inr, refl, subst, sym}
use Rattle.vaultctl_serve.proofs.ReportLemmas.{reports-then}
use Rattle.vaultctl_serve.proofs.ServingLemmas.{HearsAll-more, HearsAll-none, Stepped-reached}
use Rattle.vaultctl_serve_lines.specs.Doors.{LogsInTurns, SteppedInTurns, taken_by}
use Rattle.vaultctl_serve_lines.specs.declared.turns.Turn.{Turn}
use Rattle.vaultctl_serve_lines.proofs.LogTurnLemmas.{LogsInTurns-append, LogsInTurns-none}
use Rattle.vaultctl_serve_lines.proofs.TurnLemmas.{Turns-append, Turns-none, Turns-stepped}
use Rattle.vaultctl_serve_lines.proofs.turns.serve_doors.Goals as goal
use Rattle.vaultctl_serve_lines.proofs.turns.serve_doors.Goals.{in-Idle, in-Taken}

pub loop-turn-init : goal.loop-turn-init
loop-turn-init g c = record {
  within = omega arith;
  honest = λ h. h;
  counted = omega arith;
  reported = inl (refl, refl);
  logged = LogsInTurns-none g.D.Doors.tries g.D.Doors.silent g.D.Doors.logs c.args.doors.now;
  timely = λ h. Turns-none (g.D.Doors.tries c.args.doors.now) (g.K.Kept.vault c.args.keeper.now);
  heard = λ h. HearsAll-none g.H.Hears.going g.H.Hears.hears c.args.hears.now (g.K.Kept.vault c.args.keeper.now);
}

-- as many were taken as were counted
pub returns-then-taken-count-clause-timely : goal.returns-then-taken-count-clause-timely
returns-then-taken-count-clause-timely g c = λ h. (c.loop-turn._turn, c.loop-turn.taken, c.loop-turn.invariant.within, λ ended going. inl c.if-taken-count.true, c.loop-turn.invariant.timely h)

pub returns-then-taken-count-clause-stepped : goal.returns-then-taken-count-clause-stepped
returns-then-taken-count-clause-stepped g c = λ h. Turns-stepped _ c.loop-turn.taken c.args.count _ _ _ _ c.loop-turn.invariant.within (c.loop-turn.invariant.timely h)

pub returns-then-taken-count-clause-reached : goal.returns-then-taken-count-clause-reached
returns-then-taken-count-clause-reached g c = λ h before. Stepped-reached c.args.count _ _ (returns-then-taken-count-clause-stepped g c h) before

-- who hears lets no more be carried out
pub returns-then-not-goes_on-clause-timely : goal.returns-then-not-goes_on-clause-timely
returns-then-not-goes_on-clause-timely g c = λ h. (
  c.loop-turn._turn,
  c.loop-turn.taken,
  c.loop-turn.invariant.within,
  λ ended going. absurd (cc (going, c.goes_on.ensures, c.if-not-goes_on.true)),
  c.loop-turn.invariant.timely h,
)

pub returns-then-not-goes_on-clause-stepped : goal.returns-then-not-goes_on-clause-stepped
returns-then-not-goes_on-clause-stepped g c = λ h. Turns-stepped _ c.loop-turn.taken c.args.count _ _ _ _ c.loop-turn.invariant.within (c.loop-turn.invariant.timely h)

pub returns-then-not-goes_on-clause-reached : goal.returns-then-not-goes_on-clause-reached
returns-then-not-goes_on-clause-reached g c = λ h before. Stepped-reached c.args.count _ _ (returns-then-not-goes_on-clause-stepped g c h) before

-- a line ended the server, and it was taken too
pub returns-in-End-clause-timely : goal.returns-in-End-clause-timely
returns-in-End-clause-timely g c =
    let taken = c.loop-turn.taken in
    let before = g.D.Doors.tries c.args.doors.now in
    let mid = g.D.Doors.tries c.loop-turn.doors in
    let after = g.D.Doors.tries c.watch_turn.new.doors in
    let old = g.K.Kept.vault c.args.keeper.now in
    let between = g.K.Kept.vault c.loop-turn.keeper in
    let new = g.K.Kept.vault c.watch_turn.new.keeper in
    let room : taken + 1 ≤ c.args.count = omega (arith, c.loop-turn.invariant.within, c.if-taken-count.false) in
    let P : Turn → Type 0 = λ turn. SteppedInTurns 1 (taken_by turn) mid after between new in
    λ h. (
      c.loop-turn._turn + 1,
      taken + 1,
      room,
      λ ended going. absurd (cc ended),
      Turns-append c.loop-turn._turn 1 taken 1 before mid after old between new (c.loop-turn.invariant.timely (c.watch_turn.ensures.leaves.honest h)) (subst P c.in-End.is (c.watch_turn.ensures.timely h)),
    )

pub returns-in-End-clause-stepped : goal.returns-in-End-clause-stepped
returns-in-End-clause-stepped g c = λ h. let made = returns-in-End-clause-timely g c h in Turns-stepped made.0 made.1 c.args.count _ _ _ _ made.2 made.4

pub returns-in-End-clause-reached : goal.returns-in-End-clause-reached
returns-in-End-clause-reached g c = λ h before. Stepped-reached c.args.count _ _ (returns-in-End-clause-stepped g c h) before

pub returns-in-End-clause-heard : goal.returns-in-End-clause-heard
returns-in-End-clause-heard g c = λ h. HearsAll-more g.H.Hears.going g.H.Hears.hears _ _ _ _ _ _ (c.loop-turn.invariant.heard (c.watch_turn.ensures.leaves.honest h)) (sym c.goes_on.ensures ∙ c.if-not-goes_on.false) (c.watch_turn.ensures.heard h)

-- the turns so far, and then this one, which took nothing or one
pub loop-turn-preserved : goal.loop-turn-preserved
loop-turn-preserved g c =
    let taken = c.loop-turn.taken in
    let before = g.D.Doors.tries c.args.doors.now in
    let mid = g.D.Doors.tries c.loop-turn.doors in
    let after = g.D.Doors.tries c.watch_turn.new.doors in
    let old = g.K.Kept.vault c.args.keeper.now in
    let between = g.K.Kept.vault c.loop-turn.keeper in
    let new = g.K.Kept.vault c.watch_turn.new.keeper in
    let summed : c.match-watch_turn.taken ≡ taken + taken_by c.watch_turn.result = elim c.match-watch_turn.branch [
      | in-Idle w ↦ rw w.in-Idle.is (omega (arith, w.taken-is))
      | in-Taken w ↦ rw w.in-Taken.is (omega (arith, w.taken-is))
    ] in
    let room : c.match-watch_turn.taken ≤ c.args.count = elim c.match-watch_turn.branch [
      | in-Idle w ↦ omega (arith, w.taken-is, c.loop-turn.invariant.within)
      | in-Taken w ↦ omega (arith, w.taken-is, c.loop-turn.invariant.within, c.if-taken-count.false)
    ] in
    let P : ℕ → Type 0 = λ n. SteppedInTurns (c.loop-turn._turn + 1) n before after old new in
    let Q : ℕ → Type 0 = λ n. LogsInTurns g.D.Doors.tries g.D.Doors.silent g.D.Doors.logs (c.loop-turn._turn + 1) n c.args.doors.now c.watch_turn.new.doors in
    record {
      within = room;
      honest = λ h. c.loop-turn.invariant.honest (c.watch_turn.ensures.leaves.honest h);
      counted = omega (arith, c.loop-turn.invariant.counted, c.watch_turn.ensures.leaves.counted);
      reported = reports-then g.T.Reporter.fails _ _ _ _ _ _ _ c.faults-since.ensures c.loop-turn.invariant.counted c.watch_turn.ensures.leaves.counted c.loop-turn.invariant.reported c.watch_turn.ensures.reported c.watch_turn.ensures.once;
      logged = subst Q (sym summed) (LogsInTurns-append g.D.Doors.tries g.D.Doors.silent g.D.Doors.logs c.loop-turn._turn 1 taken (taken_by c.watch_turn.result) c.args.doors.now c.loop-turn.doors c.watch_turn.new.doors c.loop-turn.invariant.logged c.watch_turn.ensures.logged);
      timely = λ h. subst P (sym summed) (Turns-append c.loop-turn._turn 1 taken (taken_by c.watch_turn.result) before mid after old between new (c.loop-turn.invariant.timely (c.watch_turn.ensures.leaves.honest h)) (c.watch_turn.ensures.timely h));
      heard = λ h. HearsAll-more g.H.Hears.going g.H.Hears.hears _ _ _ _ _ _ (c.loop-turn.invariant.heard (c.watch_turn.ensures.leaves.honest h)) (sym c.goes_on.ensures ∙ c.if-not-goes_on.false) (c.watch_turn.ensures.heard h);
    }

-- these were the most turns
pub returns-clause-timely : goal.returns-clause-timely
returns-clause-timely g c = λ h. (c.loop-turn._turn, c.loop-turn.taken, c.loop-turn.invariant.within, λ ended going. inr (omega arith), c.loop-turn.invariant.timely h)

pub returns-clause-stepped : goal.returns-clause-stepped
returns-clause-stepped g c = λ h. Turns-stepped _ c.loop-turn.taken c.args.count _ _ _ _ c.loop-turn.invariant.within (c.loop-turn.invariant.timely h)

pub returns-clause-reached : goal.returns-clause-reached
returns-clause-reached g c = λ h before. Stepped-reached c.args.count _ _ (returns-clause-stepped g c h) before

-- ---- what is logged

pub returns-then-taken-count-clause-logged : goal.returns-then-taken-count-clause-logged
returns-then-taken-count-clause-logged g c = (c.loop-turn._turn, c.loop-turn.taken, c.loop-turn.invariant.within, λ ended going. inl c.if-taken-count.true, c.loop-turn.invariant.logged)

pub returns-then-not-goes_on-clause-logged : goal.returns-then-not-goes_on-clause-logged
returns-then-not-goes_on-clause-logged g c = (
  c.loop-turn._turn,
  c.loop-turn.taken,
  c.loop-turn.invariant.within,
  λ ended going. absurd (cc (going, c.goes_on.ensures, c.if-not-goes_on.true)),
  c.loop-turn.invariant.logged,
)

pub returns-in-End-clause-logged : goal.returns-in-End-clause-logged
returns-in-End-clause-logged g c =
    let taken = c.loop-turn.taken in
    let room : taken + 1 ≤ c.args.count = omega (arith, c.loop-turn.invariant.within, c.if-taken-count.false) in
    let P : Turn → Type 0 = λ turn. LogsInTurns g.D.Doors.tries g.D.Doors.silent g.D.Doors.logs 1 (taken_by turn) c.loop-turn.doors c.watch_turn.new.doors in (
      c.loop-turn._turn + 1,
      taken + 1,
      room,
      λ ended going. absurd (cc ended),
      LogsInTurns-append g.D.Doors.tries g.D.Doors.silent g.D.Doors.logs c.loop-turn._turn 1 taken 1 c.args.doors.now c.loop-turn.doors c.watch_turn.new.doors c.loop-turn.invariant.logged (subst P c.in-End.is c.watch_turn.ensures.logged),
    )

pub returns-clause-logged : goal.returns-clause-logged
returns-clause-logged g c = (c.loop-turn._turn, c.loop-turn.taken, c.loop-turn.invariant.within, λ ended going. inr (omega arith), c.loop-turn.invariant.logged)
