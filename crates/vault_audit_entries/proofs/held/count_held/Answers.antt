use Rattle.std.proofs.Common.{sym, subst, rules, arith}
use Rattle.sqlite.specs.Held.{state}
use Rattle.sqlite.specs.State.{HasCleanDisk}
use Rattle.vault_audit_rows.specs.Health.{Asks, IsMemory}
use Rattle.sqlite.specs.Given.{IsPlain}
use Rattle.sqlite.specs.Listing.{understood}
use Rattle.vault_audit_model.specs.SchemaVersions.{is_external}
use Rattle.vault_audit_entries.proofs.HeldCountLemmas.{held_all}
use Rattle.vault_audit_entries.proofs.ContentTextLemmas.{held_text, held_scan, held_asks}
use Rattle.vault_audit_entries.proofs.held.count_held.Goals as goal

pub walk-requires : goal.walk-requires
walk-requires g c clean = subst (λ s. IsPlain (understood s held_text)) (sym (c.requires clean)) (held_scan c.args.schema_version).plain

pub returns-clause-reported : goal.returns-clause-reported
returns-clause-reported g c clean es are =
    let early : HasCleanDisk (state g.S.Store c.args.conn.now) = omega (arith, c.in_ok-_whole.ensures.look.crash.clean) in
    (held_all c.args.schema_version) (state g.S.Store c.args.conn.now) (state g.S.Store c.walk.new.conn) (c.requires early) (c.in_ok-_whole.ensures.look.same clean) c.walk.new.pass (is_external c.args.schema_version) es are c.in_ok-_whole._whole (c.in_ok-_whole.ensures.walked clean)

pub returns-in_err-_whole-clause-err : goal.returns-in_err-_whole-clause-err
returns-in_err-_whole-clause-err g c well = let it : IsMemory c.in_err-_whole.field-0.0 = c.in_err-_whole.ensures.err well (λ clean. subst (λ s. Asks s held_text) (sym (c.requires clean)) (held_asks c.args.schema_version)) in search rules
