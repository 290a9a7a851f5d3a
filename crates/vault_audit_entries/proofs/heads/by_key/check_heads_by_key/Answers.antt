use Rattle.std.proofs.Common.{◌≡◌, true, false, sym, subst, rules, arith}
use Rattle.sqlite.specs.Held.{state}
use Rattle.sqlite.specs.State.{HasCleanDisk}
use Rattle.vault_audit_rows.specs.Health.{Asks, IsMemory}
use Rattle.sqlite.specs.Given.{IsPlain}
use Rattle.sqlite.specs.Listing.{understood}
use Rattle.vault_audit_model.specs.SchemaVersions.{is_external}
use Rattle.vault_audit_entries.proofs.CurrentLemmas.{unsound}
use Rattle.vault_audit_entries.proofs.HeadDecisionLemmas.{heads_yes, heads_no}
use Rattle.vault_audit_entries.proofs.HeadTextLemmas.{heads_walk, heads_walk_plain, heads_walk_asks}
use Rattle.vault_audit_entries.proofs.heads.by_key.check_heads_by_key.Goals as goal

pub walk-requires : goal.walk-requires
walk-requires g c clean = subst (λ s. IsPlain (understood s heads_walk)) (sym (c.requires clean)) (heads_walk_plain c.args.schema_version)

pub returns-then-not-whole-clause-reported : goal.returns-then-not-whole-clause-reported
returns-then-not-whole-clause-reported g c clean es are =
    let early : HasCleanDisk (state g.S.Store c.args.conn.now) = omega (arith, c.in_ok-whole.ensures.look.crash.clean) in
    let no : c.in_ok-whole.whole ≡ false = search rules in
    (heads_no c.args.schema_version) (state g.S.Store c.args.conn.now) (state g.S.Store c.walk.new.conn) (c.requires early) (c.in_ok-whole.ensures.look.same clean) c.walk.new.pass (is_external c.args.schema_version) es are (rw no at (c.in_ok-whole.ensures.walked clean))

pub returns-then-not-whole-clause-damaged : goal.returns-then-not-whole-clause-damaged
returns-then-not-whole-clause-damaged g c clean same v = (unsound c.args.schema_version) (state g.S.Store c.walk.new.conn).now (returns-then-not-whole-clause-reported g c clean) v

pub returns-clause-reported : goal.returns-clause-reported
returns-clause-reported g c clean es are =
    let early : HasCleanDisk (state g.S.Store c.args.conn.now) = omega (arith, c.in_ok-whole.ensures.look.crash.clean) in
    let yes : c.in_ok-whole.whole ≡ true = search rules in
    (heads_yes c.args.schema_version) (state g.S.Store c.args.conn.now) (state g.S.Store c.walk.new.conn) (c.requires early) (c.in_ok-whole.ensures.look.same clean) c.walk.new.pass (is_external c.args.schema_version) es are (rw yes at (c.in_ok-whole.ensures.walked clean))

pub returns-in_err-whole-clause-err : goal.returns-in_err-whole-clause-err
returns-in_err-whole-clause-err g c well = let it : IsMemory c.in_err-whole.field-0.0 = c.in_err-whole.ensures.err well (λ clean. subst (λ s. Asks s heads_walk) (sym (c.requires clean)) (heads_walk_asks c.args.schema_version)) in search rules
