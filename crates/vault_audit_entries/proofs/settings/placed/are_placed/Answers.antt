use Rattle.std.proofs.Common.{sym, subst, arith}
use Rattle.sqlite.specs.Held.{state}
use Rattle.sqlite.specs.State.{HasCleanDisk}
use Rattle.vault_audit_rows.specs.Health.{Asks}
use Rattle.sqlite.specs.Given.{IsPlain}
use Rattle.sqlite.specs.Listing.{understood}
use Rattle.vault_audit_entries.proofs.SettingDecisionLemmas.{places_if_ok}
use Rattle.vault_audit_entries.proofs.SettingTextLemmas.{placed_walk, placed_walk_plain, placed_walk_asks}
use Rattle.vault_audit_entries.proofs.settings.placed.are_placed.Goals as goal

pub walk-requires : goal.walk-requires
walk-requires g c clean = subst (λ s. IsPlain (understood s placed_walk)) (sym (c.requires clean)) (placed_walk_plain c.args.schema_version)

pub returns-clause-reported : goal.returns-clause-reported
returns-clause-reported g c clean =
    let early : HasCleanDisk (state g.S.Store c.args.conn.now) = omega (arith, c.walk.ensures.look.crash.clean) in
    (places_if_ok c.args.schema_version) (state g.S.Store c.args.conn.now) (state g.S.Store c.walk.new.conn) (c.requires early) c.walk.new.pass c.walk.result (c.walk.ensures.look.same clean) (c.walk.ensures.walked clean)

pub returns-clause-err : goal.returns-clause-err
returns-clause-err g c well = c.walk.ensures.err well (λ clean. subst (λ s. Asks s placed_walk) (sym (c.requires clean)) (placed_walk_asks c.args.schema_version))
