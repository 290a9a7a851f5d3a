use Rattle.std.proofs.Common.{sym, subst, rules, arith}
use Rattle.sqlite.specs.Held.{state}
use Rattle.sqlite.specs.State.{HasCleanDisk}
use Rattle.vault_audit_rows.specs.Health.{Asks, IsMemory}
use Rattle.sqlite.specs.Given.{IsPlain}
use Rattle.sqlite.specs.Listing.{understood}
use Rattle.vault_audit_model.specs.SchemaVersions.{is_external}
use Rattle.vault_audit_entries.proofs.HeadCountLemmas.{counts_text, counts_plain, counts_asks, counts_stated}
use Rattle.vault_audit_entries.proofs.heads.counts.check_counts.Goals as goal

pub check_rows-requires : goal.check_rows-requires
check_rows-requires g c clean = subst (λ s. IsPlain (understood s counts_text)) (sym (c.requires clean)) (counts_plain c.args.schema_version)

pub returns-clause-reported : goal.returns-clause-reported
returns-clause-reported g c clean es hs are decides =
    let early : HasCleanDisk (state g.S.Store c.args.conn.now) = omega (arith, c.in_ok-found.ensures.look.crash.clean) in
    (counts_stated c.args.schema_version) (state g.S.Store c.args.conn.now) (state g.S.Store c.check_rows.new.conn) (c.requires early) (c.in_ok-found.ensures.look.same clean) (is_external c.args.schema_version) es hs are decides c.in_ok-found.found (c.in_ok-found.ensures.checked clean)

pub returns-in_err-found-clause-err : goal.returns-in_err-found-clause-err
returns-in_err-found-clause-err g c well = let it : IsMemory c.in_err-found.field-0.0 = c.in_err-found.ensures.err well (λ clean. subst (λ s. Asks s counts_text) (sym (c.requires clean)) (counts_asks c.args.schema_version)) in search rules
