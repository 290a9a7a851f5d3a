use Rattle.std.proofs.Common.{◌≡◌, true, false, sym, subst, rules, arith}
use Rattle.sqlite.specs.Held.{state}
use Rattle.sqlite.specs.State.{HasCleanDisk}
use Rattle.vault_audit_rows.specs.Health.{Asks, IsMemory}
use Rattle.sqlite.specs.Given.{IsPlain}
use Rattle.sqlite.specs.Listing.{understood}
use Rattle.vault_audit_records.proofs.RuleDecisionLemmas.{rules_stopped, rules_closed}
use Rattle.vault_audit_records.proofs.RuleTextLemmas.{rules_walk, rules_walk_plain, rules_walk_asks}
use Rattle.vault_audit_records.proofs.rules.placed.are_runs.Goals as goal

pub walk-requires : goal.walk-requires
walk-requires g c clean = rw c.rules_walk.ensures (subst (λ s. IsPlain (understood s (rules_walk c.args.schema_version))) (sym (c.requires clean)) (rules_walk_plain c.args.schema_version))

pub returns-then-not-whole-clause-reported : goal.returns-then-not-whole-clause-reported
returns-then-not-whole-clause-reported g c clean =
    let early : HasCleanDisk (state g.S.Store c.args.conn.now) = omega (arith, c.in_ok-whole.ensures.look.crash.clean) in
    let no : c.in_ok-whole.whole ≡ false = search rules in
    rules_stopped c.args.schema_version (state g.S.Store c.args.conn.now) (state g.S.Store c.walk.new.conn) (c.requires early) (c.in_ok-whole.ensures.look.same clean) _ c.new.ensures.items c.walk.new.pass (rw (no, c.rules_walk.ensures) at (c.in_ok-whole.ensures.walked clean))

pub returns-clause-reported : goal.returns-clause-reported
returns-clause-reported g c clean =
    let early : HasCleanDisk (state g.S.Store c.args.conn.now) = omega (arith, c.in_ok-whole.ensures.look.crash.clean) in
    let yes : c.in_ok-whole.whole ≡ true = search rules in
    rules_closed c.args.schema_version (state g.S.Store c.args.conn.now) (state g.S.Store c.walk.new.conn) (c.requires early) (c.in_ok-whole.ensures.look.same clean) _ c.new.ensures.items c.walk.new.pass (rw (yes, c.rules_walk.ensures) at (c.in_ok-whole.ensures.walked clean)) c.close.result c.close.ensures.whole

pub returns-in_err-whole-clause-err : goal.returns-in_err-whole-clause-err
returns-in_err-whole-clause-err g c well = let it : IsMemory c.in_err-whole.field-0.0 = c.in_err-whole.ensures.err well (λ clean. rw c.rules_walk.ensures (subst (λ s. Asks s (rules_walk c.args.schema_version)) (sym (c.requires clean)) (rules_walk_asks c.args.schema_version))) in search rules
