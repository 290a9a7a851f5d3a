use Rattle.std.proofs.Common.{sym, subst, arith}
use Rattle.sqlite.specs.Held.{state}
use Rattle.sqlite.specs.State.{HasCleanDisk}
use Rattle.vault_audit_rows.specs.Health.{Asks}
use Rattle.sqlite.specs.Given.{IsPlain}
use Rattle.sqlite.specs.Listing.{understood}
use Rattle.vault_audit_model.specs.SchemaVersions.{is_external}
use Rattle.vault_audit_entries.proofs.SettingDecisionLemmas.{presence_if_ok}
use Rattle.vault_audit_entries.proofs.SettingTextLemmas.{settings_beside, settings_beside_is, settings_beside_asks}
use Rattle.vault_audit_entries.proofs.settings.present.have_settings.Goals as goal

pub check_rows-requires : goal.check_rows-requires
check_rows-requires g c clean = subst (λ s. IsPlain (understood s settings_beside)) (sym (c.requires clean)) (settings_beside_is c.args.schema_version).plain

pub returns-clause-reported : goal.returns-clause-reported
returns-clause-reported g c clean =
    let early : HasCleanDisk (state g.S.Store c.args.conn.now) = omega (arith, c.check_rows.ensures.look.crash.clean) in
    (presence_if_ok c.args.schema_version) (state g.S.Store c.args.conn.now) (state g.S.Store c.check_rows.new.conn) (c.requires early) c.check_rows.result (c.check_rows.ensures.look.same clean) (c.check_rows.ensures.checked clean) (is_external c.args.schema_version)

pub returns-clause-err : goal.returns-clause-err
returns-clause-err g c well = c.check_rows.ensures.err well (λ clean. subst (λ s. Asks s settings_beside) (sym (c.requires clean)) (settings_beside_asks c.args.schema_version))
