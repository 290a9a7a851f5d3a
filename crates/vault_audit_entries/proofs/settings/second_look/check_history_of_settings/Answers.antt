use Rattle.std.proofs.Common.{◌≡◌, true, false, ap, subst, ◌∙◌, rules, arith}
use Rattle.sqlite.specs.Effect.{Database}
use Rattle.sqlite.specs.Held.{state}
use Rattle.sqlite.specs.State.{HasCleanDisk}
use Rattle.vault_audit_model.specs.SchemaVersions.{is_external}
use Rattle.vault_audit_entries.specs.SettingPlaces.{DecidesPlaces, DecidesPresence}
use Rattle.vault_audit_entries.proofs.SettingDecisionLemmas.{not_placed, not_present, stated, unsound}
use Rattle.vault_audit_entries.proofs.SettingOwnerLemmas.{have_owners}
use Rattle.vault_audit_entries.proofs.settings.second_look.check_history_of_settings.Goals as goal

pub returns-then-not-placed-clause-reported : goal.returns-then-not-placed-clause-reported
returns-then-not-placed-clause-reported g c clean =
    let db = (state g.S.Store c.are_placed.new.conn).now in
    let no : c.in_ok-placed.placed ≡ false = search rules in
    λ es are. not_placed (is_external c.args.schema_version) db es are (subst (DecidesPlaces db) no (c.in_ok-placed.ensures.reported clean))

pub returns-then-not-placed-clause-damaged : goal.returns-then-not-placed-clause-damaged
returns-then-not-placed-clause-damaged g c clean same = (unsound c.args.schema_version) (state g.S.Store c.are_placed.new.conn).now (returns-then-not-placed-clause-reported g c clean)

pub returns-then-not-present-clause-reported : goal.returns-then-not-present-clause-reported
returns-then-not-present-clause-reported g c clean =
    let db = (state g.S.Store c.have_settings.new.conn).now in
    let no : c.in_ok-present.present ≡ false = search rules in
    λ es are. not_present (is_external c.args.schema_version) db es are (subst (DecidesPresence (is_external c.args.schema_version) db) no (c.in_ok-present.ensures.reported clean))

pub returns-then-not-present-clause-damaged : goal.returns-then-not-present-clause-damaged
returns-then-not-present-clause-damaged g c clean same = (unsound c.args.schema_version) (state g.S.Store c.have_settings.new.conn).now (returns-then-not-present-clause-reported g c clean)

pub returns-clause-reported : goal.returns-clause-reported
returns-clause-reported g c clean =
    let before = state g.S.Store c.are_placed.new.conn in
    let after = state g.S.Store c.have_settings.new.conn in
    let early : HasCleanDisk before = omega (arith, c.in_ok-present.ensures.look.crash.clean) in
    let first : HasCleanDisk (state g.S.Store c.args.conn.now) = omega (arith, c.in_ok-placed.ensures.look.crash.clean, c.in_ok-present.ensures.look.crash.clean) in
    let placed : c.in_ok-placed.placed ≡ true = search rules in
    let present : c.in_ok-present.present ≡ true = search rules in
    let same = c.in_ok-present.ensures.look.same clean in
    let schema = ap (λ (db : Database). db.schema) (same.0.now_is ∙ (c.in_ok-placed.ensures.look.same early).0.now_is) ∙ c.requires first in
    let external = is_external c.args.schema_version in
    stated external before after same (subst (DecidesPlaces before.now) placed (c.in_ok-placed.ensures.reported early)) (subst (DecidesPresence external after.now) present (c.in_ok-present.ensures.reported clean))
    (have_owners c.args.schema_version external after.now (c.references_hold.ensures same.0.is_open schema))
