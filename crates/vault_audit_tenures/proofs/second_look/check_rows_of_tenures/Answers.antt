use Rattle.std.proofs.Common.{◌≡◌, true, false, subst, rules, arith}
use Rattle.sqlite.specs.Held.{state}
use Rattle.sqlite.specs.State.{HasCleanDisk}
use Rattle.vault_audit_tenures.specs.Presence.{DecidesPresence}
use Rattle.vault_audit_tenures.proofs.DecisionLemmas.{none_stated, last_stated}
use Rattle.vault_audit_tenures.proofs.second_look.check_rows_of_tenures.Goals as goal
use Rattle.vault_audit_model.specs.SchemaVersions.{is_external}

pub returns-then-not-present-clause-reported : goal.returns-then-not-present-clause-reported
returns-then-not-present-clause-reported g c clean =
    let db = (state g.S.Store c.have_tenures.new.conn).now in
    let no : c.in_ok-present.present ≡ false = search rules in
    none_stated c.args.schema_version c.requires.table c.args.moves c.args.last db (subst (DecidesPresence (is_external c.args.schema_version) db) no (c.in_ok-present.ensures.reported clean))

pub returns-clause-reported : goal.returns-clause-reported
returns-clause-reported g c clean =
    let early : HasCleanDisk (state g.S.Store c.have_tenures.new.conn) = omega (arith, c.are_chains.ensures.look.crash.clean) in
    let yes : c.in_ok-present.present ≡ true = search rules in
    last_stated c.args.schema_version c.requires.table c.args.moves c.args.last (state g.S.Store c.have_tenures.new.conn) (state g.S.Store c.are_chains.new.conn) (subst (DecidesPresence (is_external c.args.schema_version) (state g.S.Store c.have_tenures.new.conn).now) yes (c.in_ok-present.ensures.reported early))
    c.are_chains.result (c.are_chains.ensures.look.same clean) (c.are_chains.ensures.reported clean)
