use Rattle.std.proofs.Common.{◌≡◌, map, refl, arith}
use Rattle.sqlite.specs.Held.{state}
use Rattle.sqlite.specs.State.{HasCleanDisk}
use Rattle.vault_core_model.specs.Vault.{Vault}
use Rattle.vault_audit_model.specs.Spells.{AreSoundAs}
use Rattle.vault_audit_model.specs.Tables.{entries_tree}
use Rattle.vault_audit_rows.specs.Records.{AreRecords}
use Rattle.vault_audit_records.proofs.DamageLemmas.{refused_if_ok, no_entries}
use Rattle.vault_audit_model.specs.Rows.{entry_row, entry_columns}
use Rattle.vault_audit_records.specs.Entries.{IsEntryBy}
use Rattle.vault_audit_rows.proofs.RecordLemmas.{records_if_ok}
use Rattle.vault_audit.proofs.TextLemmas.{entries_scan, entries_asks}
use Rattle.vault_audit.proofs.first_pass.entries.check_entries.Goals as goal
use Rattle.vault_audit_model.specs.SchemaVersions.{is_external}

pub check_rows-requires : goal.check_rows-requires
check_rows-requires g c clean = (entries_scan c.args.schema_version (state g.S.Store c.args.conn.now).now.schema (c.requires clean)).plain

pub returns-clause-reported : goal.returns-clause-reported
returns-clause-reported g c clean =
    let early : HasCleanDisk (state g.S.Store c.args.conn.now) = omega (arith, c.check_rows.ensures.look.crash.clean) in
    records_if_ok entry_row (IsEntryBy (is_external c.args.schema_version) c.args.last) (entries_scan c.args.schema_version (state g.S.Store c.args.conn.now).now.schema (c.requires early)) (state g.S.Store c.args.conn.now) (state g.S.Store c.check_rows.new.conn) refl (λ trees. refl) (c.check_rows.result) (c.check_rows.ensures.look.same clean) (rw c.is_external-external.ensures at (c.check_rows.ensures.checked clean))

pub returns-clause-damaged : goal.returns-clause-damaged
returns-clause-damaged g c clean =
    let db = (state g.S.Store c.check_rows.new.conn).now in
    refused_if_ok (AreRecords entry_row (IsEntryBy (is_external c.args.schema_version) c.args.last) (map entry_columns (db.trees entries_tree))) ((v : Vault) → v.last ≡ c.args.last → ¬ AreSoundAs c.args.schema_version db v) (λ none v. no_entries c.args.schema_version db v c.args.last none) c.check_rows.result (returns-clause-reported g c clean)

pub returns-clause-err : goal.returns-clause-err
returns-clause-err g c well = c.check_rows.ensures.err well (λ clean. entries_asks c.args.schema_version (state g.S.Store c.args.conn.now).now.schema (c.requires clean))
