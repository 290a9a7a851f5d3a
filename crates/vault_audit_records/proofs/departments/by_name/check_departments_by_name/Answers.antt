use Rattle.std.proofs.Common.{sym, subst, arith}
use Rattle.sqlite.specs.Held.{state}
use Rattle.sqlite.specs.State.{HasCleanDisk}
use Rattle.vault_audit_rows.specs.Health.{Asks}
use Rattle.sqlite.specs.Given.{IsPlain}
use Rattle.sqlite.specs.Listing.{understood}
use Rattle.vault_core_model.specs.Vault.{Vault}
use Rattle.vault_audit_model.specs.Spells.{AreSoundAs}
use Rattle.vault_audit_records.proofs.DamageLemmas.{refused_if_ok}
use Rattle.vault_audit_records.specs.ByName.{DecidesDepartments}
use Rattle.vault_audit_records.proofs.NameDecisionLemmas.{departments_if_ok, no_departments}
use Rattle.vault_audit_records.proofs.NameTextLemmas.{departments_walk, departments_walk_plain, departments_walk_asks}
use Rattle.vault_audit_records.proofs.departments.by_name.check_departments_by_name.Goals as goal

pub walk-requires : goal.walk-requires
walk-requires g c clean = rw c.departments_walk.ensures (subst (λ s. IsPlain (understood s (departments_walk c.args.schema_version))) (sym (c.requires clean)) (departments_walk_plain c.args.schema_version))

pub returns-clause-reported : goal.returns-clause-reported
returns-clause-reported g c clean =
    let early : HasCleanDisk (state g.S.Store c.args.conn.now) = omega (arith, c.walk.ensures.look.crash.clean) in
    (departments_if_ok c.args.schema_version) (state g.S.Store c.args.conn.now) (state g.S.Store c.walk.new.conn) (c.requires early) c.walk.new.pass c.walk.result (c.walk.ensures.look.same clean) (rw c.departments_walk.ensures at (c.walk.ensures.walked clean))

pub returns-clause-damaged : goal.returns-clause-damaged
returns-clause-damaged g c clean =
    let db = (state g.S.Store c.walk.new.conn).now in
    refused_if_ok (DecidesDepartments c.args.schema_version db) ((v : Vault) → ¬ AreSoundAs c.args.schema_version db v) (λ none v. (no_departments c.args.schema_version) db v none) c.walk.result (returns-clause-reported g c clean)

pub returns-clause-err : goal.returns-clause-err
returns-clause-err g c well = c.walk.ensures.err well (λ clean. rw c.departments_walk.ensures (subst (λ s. Asks s (departments_walk c.args.schema_version)) (sym (c.requires clean)) (departments_walk_asks c.args.schema_version)))
