use Rattle.std.proofs.Common.{◌≡◌, ◌⊎◌, inl, sym, List, [], ◌∷◌, ◌++◌, IsTrue, refl, ◌∙◌, subst, rules, arith}
use Rattle.sqlite_value.specs.Order.{Row}
use Rattle.sqlite.specs.Effect.{Database}
use Rattle.sqlite.specs.State.{HasCleanDisk, IsUnchanged, Survives, Shown, CommitsShowing, FailsToQuery}
use Rattle.sqlite.specs.Held.{Held, state}
use Rattle.sqlite.specs.Given.{HasGiven}
use Rattle.sqlite.proofs.Callers.{begun_plain, given_begin, unchanged_then}
use Rattle.vault_audit_rows.specs.Health.{IsHealthy, IsMemory}
use Rattle.vault_audit_rows.specs.Walk.{Goes}
use Rattle.vault_audit_rows.proofs.CauseLemmas.{cause_of, cause_later}
use Rattle.vault_audit_rows.proofs.WalkLemmas.{commits_nothing, shown_from, goes_on}
use Rattle.vault_store_create.specs.Copied.{PutsRow, StopsAt}
use Rattle.vault_store_create.proofs.StopLemmas.{stopped}
use Rattle.vault_store_edits.proofs.QueryLemmas.{survives_itself, survives_more}
use Rattle.vault_store_create.proofs.copy.tables.copy_rows.Goals as goal

pub returns-in_err-rows-clause-look : goal.returns-in_err-rows-clause-look
returns-in_err-rows-clause-look g c = record {
  same = search rules;
  crash =
      let old = state g.O.Store c.args.old.now in
      let new = state g.O.Store c.query.follows.lender-at-none in
      let held = c.query.follows.holds-at-none in
      let kept : Survives old new (CommitsShowing c.args.select.now [] old) = search rules in
      commits_nothing c.args.select.now [] old new c.requires.plain kept;
}

pub rows-init : goal.rows-init
rows-init g c =
    let made = c.in_ok-rows.ensures in (
      refl,
      refl,
      commits_nothing _ _ _ _ c.requires.plain made.survives,
      survives_itself (state g.S.Store c.args.tx.now.conn.now),
      λ clean inside is_open. (inside, is_open, refl),
      λ clean.
          let early : HasCleanDisk (state g.O.Store c.args.old.now) = omega (arith, made.survives.clean) in
          let it = begun_plain g.O.Store _ _ c.args.old.now _ (c.requires.plain early) (made.begun clean) in ([], it.0, it.1, λ late inside is_open. refl),
    )

pub returns-in_default-clause-copied : goal.returns-in_default-clause-copied
returns-in_default-clause-copied g c clean after inside is_open =
    let moved = c.next.follows.holds-at-none in
    let now = c.next.follows.lender-at-none.conn.now in
    let same : now ≡ c.old-in_default-1.given.0 = search rules in
    let late : HasCleanDisk (state g.O.Store now) = search rules in
    let was = c.rows.invariant.5 (omega (arith, moved.survives.clean)) in
    let shown = (rw (c.in_ok-row.was, c.in_default.is) at (moved.ok late)) c.args.select.now [] was.0 was.1 in
    let early : HasCleanDisk (state g.O.Store c.args.old.now) = omega (arith, c.rows.invariant.2.clean, moved.survives.clean) in
    let first = shown_from c.args.select.now [] (state g.O.Store c.args.old.now) _ (state g.O.Store now) was.0 (c.requires.plain early) was.2 shown in
    let frame = c.rows.invariant.4 after inside is_open in (
      was.0,
      subst (λ (h : Held g.row.O.Denot). Shown c.args.select.now [] (state g.O.Store c.args.old.now) (state g.O.Store h) was.0) same first,
      record { was_open = is_open; is_open = frame.1; inside = frame.0; committed = frame.2; goes = was.3 after inside is_open },
    )

pub rows-preserved : goal.rows-preserved
rows-preserved g c =
    let moved = c.next.follows.holds-at-none in
    let now = c.next.follows.lender-at-none.conn.now in
    let before = state g.S.Store c.args.tx.now.conn.now in
    let mid = state g.S.Store c.rows.tx.conn.now in
    let after = state g.S.Store c.put_row.new.tx.conn.now in
    let put = c.in_ok-put_row.ensures in
    let frame = λ (clean : HasCleanDisk after) (inside : IsTrue c.args.tx.now.conn.now.in_transaction) (is_open : IsTrue before.is_open).
    let was = c.rows.invariant.4 (omega (arith, put.survives.clean)) inside is_open in
    let it = put.put clean was.0 in
    let all : IsTrue c.put_row.new.tx.conn.now.in_transaction × IsTrue after.is_open × (after.committed ≡ before.committed) = (it.inside, it.is_open, it.committed ∙ was.2) in all in
    let fact = λ (late : HasCleanDisk (state g.O.Store now)).
    let was = c.rows.invariant.5 (omega (arith, moved.survives.clean)) in
    let given = (rw (c.in_ok-row.was, c.in-Some.is) at (moved.ok late)) c.args.select.now [] was.0 was.1 in
    let same = rw c.in_ok-row.was at (moved.same late) in
    let gone = λ (clean : HasCleanDisk after) (inside : IsTrue c.args.tx.now.conn.now.in_transaction) (is_open : IsTrue before.is_open).
    let soon : HasCleanDisk mid = omega (arith, put.survives.clean) in
    let there = c.rows.invariant.4 soon inside is_open in
    let step : Goes {P = Database} (λ x row y. PutsRow c.args.external c.args.table row x y) before.now (was.0 ++ c.in-Some.row.now ∷ []) after.now =
    goes_on {P = Database} (λ x row y. PutsRow c.args.external c.args.table row x y) before.now mid.now after.now was.0 c.in-Some.row.now (was.3 soon inside is_open) (put.put clean there.0).goes in step in
    let all : (rows : List Row) × HasGiven g.O.Store c.args.select.now [] now rows × IsUnchanged (state g.O.Store c.args.old.now) (state g.O.Store now)
    × (HasCleanDisk after → IsTrue c.args.tx.now.conn.now.in_transaction → IsTrue before.is_open → Goes {P = Database} (λ x row y. PutsRow c.args.external c.args.table row x y) before.now rows after.now) =
    (was.0 ++ c.in-Some.row.now ∷ [], given, unchanged_then _ _ _ was.2 same, gone) in all in
    (search rules, put.same_reference ∙ c.rows.invariant.1, search rules, survives_more before mid after c.rows.invariant.3 put.survives, frame, fact)

pub returns-in_err-rows-clause-refused : goal.returns-in_err-rows-clause-refused
returns-in_err-rows-clause-refused g c asks has well_old well inside is_open =
    let old = state g.O.Store c.args.old.now in
    let new = state g.O.Store c.query.follows.lender-at-none in
    let held = c.query.follows.holds-at-none in
    let kept : Survives old new (CommitsShowing c.args.select.now [] old) = search rules in
    let early : HasCleanDisk old = omega (arith, kept.clean, well_old.clean) in
    let late : HasCleanDisk new = well_old.clean in
    let failed : FailsToQuery c.args.select.now [] old new c.in_err-rows.field-0.0 = search rules in
    let one : IsMemory c.in_err-rows.field-0.0 = cause_of c.args.select.now old new well_old kept.limit (c.requires.plain early) asks.asks c.in_err-rows.field-0.0 failed in
    let all : IsMemory c.in_err-rows.field-0.0 ⊎ StopsAt c.args.external c.args.table c.args.select.now old (state g.S.Store c.args.tx.now.conn.now).now = inl one in
    search rules

pub returns-in_err-row-clause-refused : goal.returns-in_err-row-clause-refused
returns-in_err-row-clause-refused g c asks has well_old well inside is_open =
    let first = state g.O.Store c.args.old.now in
    let moved = c.next.follows.holds-at-none in
    let now = c.next.follows.lender-at-none.conn.now in
    let same : now ≡ c.old-in_err-row-1.given.0 = search rules in
    let late : IsHealthy (state g.O.Store now) = subst (λ (h : Held g.row.O.Denot). IsHealthy (state g.O.Store h)) (sym same) well_old in
    let was = c.rows.invariant.5 (omega (arith, moved.survives.clean, late.clean)) in
    let early : HasCleanDisk first = omega (arith, c.rows.invariant.2.clean, moved.survives.clean, late.clean) in
    let failed = (rw c.in_err-row.was at (moved.err late.clean)) c.args.select.now [] was.0 was.1 in
    let one : IsMemory c.in_err-row.field-0.0 = cause_later c.args.select.now first _ (state g.O.Store now) late moved.survives was.2 (c.requires.plain early) asks.asks c.in_err-row.field-0.0 failed in
    let all : IsMemory c.in_err-row.field-0.0 ⊎ StopsAt c.args.external c.args.table c.args.select.now first (state g.S.Store c.args.tx.now.conn.now).now = inl one in
    search rules

pub returns-in_err-put_row-clause-refused : goal.returns-in_err-put_row-clause-refused
returns-in_err-put_row-clause-refused g c asks has well_old well inside is_open =
    let first = state g.O.Store c.args.old.now in
    let start = (state g.S.Store c.args.tx.now.conn.now).now in
    let mid = state g.S.Store c.rows.tx.conn.now in
    let moved = c.next.follows.holds-at-none in
    let now = c.next.follows.lender-at-none.conn.now in
    let same : now ≡ c.old-in_err-put_row-1.given.0 = search rules in
    let late : IsHealthy (state g.O.Store now) = subst (λ (h : Held g.row.O.Denot). IsHealthy (state g.O.Store h)) (sym same) well_old in
    let was = c.rows.invariant.5 (omega (arith, moved.survives.clean, late.clean)) in
    let soon : HasCleanDisk mid = omega (arith, c.put_row.ensures.survives.clean, well.clean) in
    let there = c.rows.invariant.4 soon inside is_open in
    let sql = c.args.select.now in
    let row = c.in-Some.row.now in
    let given = (rw (c.in_ok-row.was, c.in-Some.is) at (moved.ok late.clean)) sql [] was.0 was.1 in
    let still = unchanged_then _ _ _ was.2 (rw c.in_ok-row.was at (moved.same late.clean)) in
    let t = c.args.table in
    let refused = c.in_err-put_row.ensures.refused well there.0 in
    let all : IsMemory c.in_err-put_row.field-0.0 ⊎ StopsAt c.args.external t sql first start =
    stopped c.args.external t sql first asks start mid.now was.0 row (state g.O.Store now) still (given_begin g.O.Store sql [] now (was.0 ++ row ∷ []) given) has (was.3 soon inside is_open) c.in_err-put_row.field-0.0 refused in
    search rules
