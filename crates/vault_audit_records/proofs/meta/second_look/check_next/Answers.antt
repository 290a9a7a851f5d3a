use Rattle.std.proofs.Common.{rules, ◌≡◌, sym, subst, ◌∙◌, arith}
use Rattle.sqlite.specs.State.{HasCleanDisk}
use Rattle.vault_audit_rows.specs.Health.{Asks, IsMemory}
use Rattle.sqlite.specs.Held.{state}
use Rattle.sqlite.specs.Given.{IsPlain}
use Rattle.sqlite.specs.Listing.{understood}
use Rattle.vault_audit_records.specs.MetaCount.{DecidesNext}
use Rattle.vault_audit_records.proofs.MetaCountLemmas.{ids_text, ids_scan, ids_asks, all_counted, next_of, stated}
use Rattle.vault_audit_records.proofs.meta.second_look.check_next.Goals as goal

pub walk-requires : goal.walk-requires
walk-requires g c clean = subst (λ s. IsPlain (understood s ids_text)) (sym (c.requires clean)) (ids_scan c.args.schema_version).plain

pub returns-clause-reported : goal.returns-clause-reported
returns-clause-reported g c clean =
    let early : HasCleanDisk (state g.S.Store c.args.conn.now) = omega (arith, c.in_ok-_whole.ensures.look.crash.clean) in
    let all = (all_counted c.args.schema_version) (state g.S.Store c.args.conn.now) (state g.S.Store c.walk.new.conn) (c.requires early) (c.in_ok-_whole.ensures.look.same clean) (record { count = 0 }) c.walk.new.pass c.in_ok-_whole._whole (c.in_ok-_whole.ensures.walked clean) in
    stated (state g.S.Store c.walk.new.conn).now c.walk.new.pass.count c.args.next (omega (arith, all)) (search rules)

pub returns-clause-damaged : goal.returns-clause-damaged
returns-clause-damaged g c clean missed m is next v it =
    subst (DecidesNext (state g.S.Store c.walk.new.conn).now c.args.next) missed (returns-clause-reported g c clean) (sym next ∙ (next_of c.args.schema_version) (state g.S.Store c.walk.new.conn).now v m is it)

pub returns-then-next-eq0-clause-damaged : goal.returns-then-next-eq0-clause-damaged
returns-then-next-eq0-clause-damaged g c clean missed m is next v it =
    let zero : c.args.next ≡ 0 = search rules in
    let there = (next_of c.args.schema_version) (state g.S.Store c.walk.new.conn).now v m is it in
    absurd (omega (arith, zero, next, there))

pub returns-in_err-_whole-clause-err : goal.returns-in_err-_whole-clause-err
returns-in_err-_whole-clause-err g c well = let it : IsMemory c.in_err-_whole.field-0.0 = c.in_err-_whole.ensures.err well (λ clean. subst (λ s. Asks s ids_text) (sym (c.requires clean)) (ids_asks c.args.schema_version)) in search rules
