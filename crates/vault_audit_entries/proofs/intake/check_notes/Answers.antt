use Rattle.std.proofs.Common.{sym, subst, rules, arith}
use Rattle.sqlite.specs.Held.{state}
use Rattle.sqlite.specs.State.{HasCleanDisk}
use Rattle.vault_audit_rows.specs.Health.{Asks, IsMemory}
use Rattle.sqlite.specs.Given.{IsPlain}
use Rattle.sqlite.specs.Listing.{understood}
use Rattle.vault_audit_model.specs.SchemaVersions.{is_external}
use Rattle.vault_audit_entries.proofs.NoteLemmas.{notes_stated, unsound}
use Rattle.vault_audit_entries.proofs.NoteTextLemmas.{notes_walk, notes_walk_plain, notes_walk_asks}
use Rattle.vault_audit_entries.proofs.intake.check_notes.Goals as goal

pub walk-requires : goal.walk-requires
walk-requires g c clean = subst (λ s. IsPlain (understood s notes_walk)) (sym (c.requires clean)) (notes_walk_plain c.args.schema_version)

pub returns-clause-reported : goal.returns-clause-reported
returns-clause-reported g c clean es are =
    let early : HasCleanDisk (state g.S.Store c.args.conn.now) = omega (arith, c.in_ok-found.ensures.look.crash.clean) in
    (notes_stated c.args.schema_version) (state g.S.Store c.args.conn.now) (state g.S.Store c.walk.new.conn) (c.requires early) (c.in_ok-found.ensures.look.same clean) (is_external c.args.schema_version) c.walk.new.pass es are c.in_ok-found.found (rw c.is_external.ensures at (c.in_ok-found.ensures.walked clean))

pub returns-clause-damaged : goal.returns-clause-damaged
returns-clause-damaged g c clean same v = (unsound c.args.schema_version) (state g.S.Store c.walk.new.conn).now (λ es are. rw same at (returns-clause-reported g c clean es are)) v

pub returns-in_err-found-clause-err : goal.returns-in_err-found-clause-err
returns-in_err-found-clause-err g c well = let it : IsMemory c.in_err-found.field-0.0 = c.in_err-found.ensures.err well (λ clean. subst (λ s. Asks s notes_walk) (sym (c.requires clean)) (notes_walk_asks c.args.schema_version)) in search rules
