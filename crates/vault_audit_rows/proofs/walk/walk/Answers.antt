use Rattle.std.proofs.Common.{◌≡◌, List, [], ◌∷◌, ◌++◌, true, false, refl, sym, subst, rules, arith}
use Rattle.sqlite_value.specs.Order.{Row}
use Rattle.sqlite.specs.State.{HasCleanDisk, IsUnchanged, Survives, Shown, Begins, CommitsShowing, FailsToQuery}
use Rattle.sqlite.specs.Held.{Held, state}
use Rattle.sqlite.specs.Given.{HasGiven}
use Rattle.vault_audit_rows.specs.Health.{IsHealthy, IsMemory}
use Rattle.vault_audit_rows.proofs.CauseLemmas.{cause_of, cause_later}
use Rattle.sqlite.proofs.Callers.{given_begin, begun_plain, unchanged_then}
use Rattle.vault_audit_rows.specs.Walk.{Goes}
use Rattle.vault_audit_rows.proofs.WalkLemmas.{commits_nothing, shown_from, goes_on}
use Rattle.vault_audit_rows.proofs.walk.walk.Goals as goal

pub returns-in_err-rows-clause-look : goal.returns-in_err-rows-clause-look
returns-in_err-rows-clause-look g c = record {
  same = search rules;
  crash =
      let old = state g.S.Store c.args.conn.now in
      let new = state g.S.Store c.query.follows.lender-at-none in
      let held = c.query.follows.holds-at-none in
      let kept : Survives old new (CommitsShowing c.args.sql.now [] old) = search rules in
      commits_nothing c.args.sql.now [] old new c.requires kept;
}

pub returns-in_err-rows-clause-err : goal.returns-in_err-rows-clause-err
returns-in_err-rows-clause-err g c well asks =
    let old = state g.S.Store c.args.conn.now in
    let new = state g.S.Store c.query.follows.lender-at-none in
    let held = c.query.follows.holds-at-none in
    let kept : Survives old new (CommitsShowing c.args.sql.now [] old) = search rules in
    let early : HasCleanDisk old = omega (arith, kept.clean, well.clean) in
    let late : HasCleanDisk new = well.clean in
    let failed : FailsToQuery c.args.sql.now [] old new c.in_err-rows.field-0.0 = search rules in
    let one : IsMemory c.in_err-rows.field-0.0 = cause_of c.args.sql.now old new well kept.limit (c.requires early) (asks early) c.in_err-rows.field-0.0 failed in
    search rules

pub rows-init : goal.rows-init
rows-init g c =
    let made = c.in_ok-rows.ensures in (
      refl,
      commits_nothing _ _ _ _ c.requires made.survives,
      λ clean.
          let early : HasCleanDisk (state g.S.Store c.args.conn.now) = omega (arith, made.survives.clean) in
          let it = begun_plain g.S.Store _ _ c.args.conn.now _ (c.requires early) (made.begun clean) in ([], it.0, it.1, refl),
    )

pub returns-in_err-row-clause-err : goal.returns-in_err-row-clause-err
returns-in_err-row-clause-err g c well asks =
    let first = state g.S.Store c.args.conn.now in
    let moved = c.next.follows.holds-at-none in
    let now = c.next.follows.lender-at-none.conn.now in
    let same : now ≡ c.conn-in_err-row-1.given.0 = search rules in
    let late : IsHealthy (state g.S.Store now) = subst (λ (h : Held g.row.S.Denot). IsHealthy (state g.S.Store h)) (sym same) well in
    let was = c.rows.invariant.2 (omega (arith, moved.survives.clean, late.clean)) in
    let early : HasCleanDisk first = omega (arith, c.rows.invariant.1.clean, moved.survives.clean, late.clean) in
    let failed = (rw c.in_err-row.was at (moved.err late.clean)) c.args.sql.now [] was.0 was.1 in
    let one : IsMemory c.in_err-row.field-0.0 = cause_later c.args.sql.now first _ (state g.S.Store now) late moved.survives was.2 (c.requires early) (asks early) c.in_err-row.field-0.0 failed in
    search rules

pub returns-in_default-clause-walked : goal.returns-in_default-clause-walked
returns-in_default-clause-walked g c clean =
    let moved = c.next.follows.holds-at-none in
    let now = c.next.follows.lender-at-none.conn.now in
    let same : now ≡ c.conn-in_default-1.given.0 = search rules in
    let late : HasCleanDisk (state g.S.Store now) = search rules in
    let was = c.rows.invariant.2 (omega (arith, moved.survives.clean)) in
    let shown = (rw (c.in_ok-row.was, c.in_default.is) at (moved.ok late)) c.args.sql.now [] was.0 was.1 in
    let early : HasCleanDisk (state g.S.Store c.args.conn.now) = omega (arith, c.rows.invariant.1.clean, moved.survives.clean) in
    let first = shown_from c.args.sql.now [] (state g.S.Store c.args.conn.now) _ (state g.S.Store now) was.0 (c.requires early) was.2 shown in
    (was.0, subst (λ (h : Held g.row.S.Denot). Shown c.args.sql.now [] (state g.S.Store c.args.conn.now) (state g.S.Store h) was.0) same first, was.3)

pub returns-then-not-branch-clause-walked : goal.returns-then-not-branch-clause-walked
returns-then-not-branch-clause-walked g c clean =
    let moved = c.next.follows.holds-at-none in
    let now = c.next.follows.lender-at-none.conn.now in
    let same : now ≡ c.conn-then-not-branch-1.given.0 = search rules in
    let late : HasCleanDisk (state g.S.Store now) = search rules in
    let was = c.rows.invariant.2 (omega (arith, moved.survives.clean)) in
    let given = (rw (c.in_ok-row.was, c.in-Some.is) at (moved.ok late)) c.args.sql.now [] was.0 was.1 in
    let begins = given_begin g.S.Store c.args.sql.now [] now _ given in
    let refused : c.in_ok-take.field-0 ≡ false = search rules in
    (was.0, c.in-Some.row.now, c.rows.pass, subst (λ (h : Held g.row.S.Denot). Begins c.args.sql.now [] (state g.S.Store h) (was.0 ++ c.in-Some.row.now ∷ [])) same begins, was.3, rw refused at c.in_ok-take.ensures.reported)

pub rows-preserved : goal.rows-preserved
rows-preserved g c =
    let moved = c.next.follows.holds-at-none in
    let now = c.next.follows.lender-at-none.conn.now in
    let taken : c.in_ok-take.field-0 ≡ true = search rules in
    let one = rw taken at c.in_ok-take.ensures.reported in
    let fact = λ (late : HasCleanDisk (state g.S.Store now)).
    let was = c.rows.invariant.2 (omega (arith, moved.survives.clean)) in
    let given = (rw (c.in_ok-row.was, c.in-Some.is) at (moved.ok late)) c.args.sql.now [] was.0 was.1 in
    let same = rw c.in_ok-row.was at (moved.same late) in
    let all : (rows : List Row) × HasGiven g.S.Store c.args.sql.now [] now rows × IsUnchanged (state g.S.Store c.args.conn.now) (state g.S.Store now) × Goes g.P.Pass.goes c.args.pass.now rows c.take.new.self =
    (was.0 ++ c.in-Some.row.now ∷ [], given, unchanged_then _ _ _ was.2 same, goes_on g.P.Pass.goes c.args.pass.now c.rows.pass c.take.new.self was.0 c.in-Some.row.now was.3 one) in all in
    (search rules, search rules, fact)
