use Rattle.std.proofs.Common.{◌≡◌, true, false, refl, sym, subst, rules, arith}
use Rattle.sqlite.specs.Held.{state}
use Rattle.sqlite.specs.State.{HasCleanDisk}
use Rattle.sqlite.specs.Given.{IsPlain}
use Rattle.sqlite.specs.Listing.{understood}
use Rattle.vault_audit_rows.specs.Health.{Asks, IsMemory}
use Rattle.vault_audit_tenures.proofs.SumTextLemmas.{tenures_text, tenures_plain, tenures_asks}
use Rattle.vault_audit_tenures.proofs.TenureSumLemmas.{tenures_yes, tenures_no}
use Rattle.vault_audit_tenures.proofs.sums.tenures.sum_tenures.Goals as goal

pub walk-requires : goal.walk-requires
walk-requires g c clean = subst (λ s. IsPlain (understood s tenures_text)) (sym (c.requires.schema clean)) (tenures_plain c.args.schema_version c.requires.table)

pub returns-then-not-whole-clause-reported : goal.returns-then-not-whole-clause-reported
returns-then-not-whole-clause-reported g c clean v entries are =
    let early : HasCleanDisk (state g.S.Store c.args.conn.now) = omega (arith, c.in_ok-whole.ensures.look.crash.clean) in
    let no : c.in_ok-whole.whole ≡ false = search rules in
    tenures_no c.args.schema_version c.requires.table (state g.S.Store c.args.conn.now) (state g.S.Store c.walk.new.conn) (c.requires.schema early) (c.in_ok-whole.ensures.look.same clean) _ c.walk.new.pass v entries are (rw no at (c.in_ok-whole.ensures.walked clean))

pub returns-clause-reported : goal.returns-clause-reported
returns-clause-reported g c clean v entries are =
    let early : HasCleanDisk (state g.S.Store c.args.conn.now) = omega (arith, c.in_ok-whole.ensures.look.crash.clean) in
    let yes : c.in_ok-whole.whole ≡ true = search rules in
    tenures_yes c.args.schema_version c.requires.table (state g.S.Store c.args.conn.now) (state g.S.Store c.walk.new.conn) (c.requires.schema early) (c.in_ok-whole.ensures.look.same clean) _ c.walk.new.pass v entries are c.new.ensures refl (rw yes at (c.in_ok-whole.ensures.walked clean)) c.count_left.new.totals c.in_ok-count_left.ensures.ok

pub returns-in_err-whole-clause-err : goal.returns-in_err-whole-clause-err
returns-in_err-whole-clause-err g c well = let it : IsMemory c.in_err-whole.field-0.0 = c.in_err-whole.ensures.err well (λ clean. subst (λ s. Asks s tenures_text) (sym (c.requires.schema clean)) (tenures_asks c.args.schema_version c.requires.table)) in search rules
