use Rattle.std.proofs.Common.{◌≡◌, true, false, Some, None, sym, subst, rules, arith}
use Rattle.sqlite.specs.Held.{state}
use Rattle.sqlite.specs.State.{HasCleanDisk}
use Rattle.vault_audit_rows.specs.Health.{Asks, IsMemory}
use Rattle.sqlite.specs.Given.{IsPlain}
use Rattle.sqlite.specs.Listing.{understood}
use Rattle.vault_audit_records.specs.EntriesByNumber.{AreEntriesUpTo}
use Rattle.vault_audit_records.proofs.DamageLemmas.{no_numbers, next_of}
use Rattle.vault_audit_records.proofs.EntryNumberLemmas.{numbers_yes, numbers_no}
use Rattle.vault_audit_records.proofs.EntryTextLemmas.{numbers_walk, numbers_walk_plain, numbers_walk_asks}
use Rattle.vault_audit_records.proofs.entries.second_look.check_numbers.Goals as goal

pub walk-requires : goal.walk-requires
walk-requires g c clean = subst (λ s. IsPlain (understood s numbers_walk)) (sym (c.requires clean)) (numbers_walk_plain c.args.schema_version)

pub returns-then-not-whole-clause-reported : goal.returns-then-not-whole-clause-reported
returns-then-not-whole-clause-reported g c clean =
    let early : HasCleanDisk (state g.S.Store c.args.conn.now) = omega (arith, c.in_ok-whole.ensures.look.crash.clean) in
    let no : c.in_ok-whole.whole ≡ false = search rules in
    subst (λ external. AreEntriesUpTo external (state g.S.Store c.walk.new.conn).now None) c.is_external.ensures
    (numbers_no c.args.schema_version (state g.S.Store c.args.conn.now) (state g.S.Store c.walk.new.conn) (c.requires early) (c.in_ok-whole.ensures.look.same clean) c.is_external.result c.walk.new.pass (rw no at (c.in_ok-whole.ensures.walked clean)))

pub returns-clause-reported : goal.returns-clause-reported
returns-clause-reported g c clean =
    let early : HasCleanDisk (state g.S.Store c.args.conn.now) = omega (arith, c.in_ok-whole.ensures.look.crash.clean) in
    let yes : c.in_ok-whole.whole ≡ true = search rules in
    subst (λ external. AreEntriesUpTo external (state g.S.Store c.walk.new.conn).now (Some c.walk.new.pass.next)) c.is_external.ensures
    (numbers_yes c.args.schema_version (state g.S.Store c.args.conn.now) (state g.S.Store c.walk.new.conn) (c.requires early) (c.in_ok-whole.ensures.look.same clean) c.is_external.result c.walk.new.pass (rw yes at (c.in_ok-whole.ensures.walked clean)))

pub returns-then-not-whole-clause-damaged : goal.returns-then-not-whole-clause-damaged
returns-then-not-whole-clause-damaged g c clean same v = no_numbers c.args.schema_version (state g.S.Store c.walk.new.conn).now v (returns-then-not-whole-clause-reported g c clean)

pub returns-clause-next : goal.returns-clause-next
returns-clause-next g c clean v it = next_of c.args.schema_version (state g.S.Store c.walk.new.conn).now v _ (returns-clause-reported g c clean) it

pub returns-in_err-whole-clause-err : goal.returns-in_err-whole-clause-err
returns-in_err-whole-clause-err g c well = let it : IsMemory c.in_err-whole.field-0.0 = c.in_err-whole.ensures.err well (λ clean. subst (λ s. Asks s numbers_walk) (sym (c.requires clean)) (numbers_walk_asks c.args.schema_version)) in search rules
