use Rattle.std.proofs.Common.{◌≡◌, true, false, sym, subst, rules, arith}
use Rattle.sqlite.specs.Held.{state}
use Rattle.sqlite.specs.State.{HasCleanDisk}
use Rattle.vault_audit_rows.specs.Health.{Asks, IsMemory}
use Rattle.sqlite.specs.Given.{IsPlain}
use Rattle.sqlite.specs.Listing.{understood}
use Rattle.vault_audit_tenures.proofs.DecisionLemmas.{chains_yes, chains_no}
use Rattle.vault_audit_tenures.proofs.TenureTextLemmas.{chain_text, chain_plain, chain_asks}
use Rattle.vault_audit_tenures.proofs.chain.are_chains.Goals as goal

pub walk-requires : goal.walk-requires
walk-requires g c clean = subst (λ s. IsPlain (understood s chain_text)) (sym (c.requires.schema clean)) (chain_plain c.args.schema_version c.requires.table)

pub returns-in_err-whole-clause-err : goal.returns-in_err-whole-clause-err
returns-in_err-whole-clause-err g c well =
    let it : IsMemory c.in_err-whole.field-0.0 = c.in_err-whole.ensures.err well (λ clean. subst (λ s. Asks s chain_text) (sym (c.requires.schema clean)) (chain_asks c.args.schema_version c.requires.table)) in search rules

pub returns-then-not-whole-clause-reported : goal.returns-then-not-whole-clause-reported
returns-then-not-whole-clause-reported g c clean =
    let early : HasCleanDisk (state g.S.Store c.args.conn.now) = omega (arith, c.in_ok-whole.ensures.look.crash.clean) in
    let no : c.in_ok-whole.whole ≡ false = search rules in
    chains_no c.args.schema_version c.requires.table _ _ (state g.S.Store c.args.conn.now) (state g.S.Store c.walk.new.conn) (c.requires.schema early) (c.in_ok-whole.ensures.look.same clean) c.walk.new.pass (rw no at (c.in_ok-whole.ensures.walked clean))

pub returns-clause-reported : goal.returns-clause-reported
returns-clause-reported g c clean =
    let early : HasCleanDisk (state g.S.Store c.args.conn.now) = omega (arith, c.in_ok-whole.ensures.look.crash.clean) in
    let yes : c.in_ok-whole.whole ≡ true = search rules in
    chains_yes c.args.schema_version c.requires.table _ _ (state g.S.Store c.args.conn.now) (state g.S.Store c.walk.new.conn) (c.requires.schema early) (c.in_ok-whole.ensures.look.same clean) c.walk.new.pass c.is_ended-ended.result c.is_ended-ended.ensures (rw yes at (c.in_ok-whole.ensures.walked clean))
