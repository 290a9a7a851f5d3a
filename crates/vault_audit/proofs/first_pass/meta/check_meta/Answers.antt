use Rattle.std.proofs.Common.{◌≡◌, true, false, subst, rules, arith}
use Rattle.sqlite.specs.Held.{state}
use Rattle.sqlite.specs.State.{HasCleanDisk}
use Rattle.vault_audit_rows.specs.Health.{IsMemory}
use Rattle.vault_audit_records.specs.Meta.{IsMetaOf}
use Rattle.vault_audit_records.proofs.DamageLemmas.{no_meta}
use Rattle.vault_audit.proofs.MetaLemmas.{meta_all, meta_no}
use Rattle.vault_audit.proofs.TextLemmas.{meta_walks, meta_asks}
use Rattle.vault_audit.proofs.first_pass.meta.check_meta.Goals as goal

pub walk-requires : goal.walk-requires
walk-requires g c clean = rw c.meta_query.ensures (meta_walks c.args.schema_version (state g.S.Store c.args.conn.now).now.schema (c.requires clean)).plain

pub returns-then-not-one-clause-reported : goal.returns-then-not-one-clause-reported
returns-then-not-one-clause-reported g c clean =
    let early : HasCleanDisk (state g.S.Store c.args.conn.now) = omega (arith, c.in_ok-one.ensures.look.crash.clean) in
    let no : c.in_ok-one.one ≡ false = search rules in
    meta_no c.args.schema_version (state g.S.Store c.args.conn.now) (state g.S.Store c.walk.new.conn) (c.requires early) (c.in_ok-one.ensures.look.same clean) c.walk.new.pass (rw (no, c.meta_query.ensures) at (c.in_ok-one.ensures.walked clean))

pub returns-clause-reported : goal.returns-clause-reported
returns-clause-reported g c clean =
    let early : HasCleanDisk (state g.S.Store c.args.conn.now) = omega (arith, c.in_ok-one.ensures.look.crash.clean) in
    let yes : c.in_ok-one.one ≡ true = search rules in
    meta_all c.args.schema_version (state g.S.Store c.args.conn.now) (state g.S.Store c.walk.new.conn) (c.requires early) (c.in_ok-one.ensures.look.same clean) c.walk.new.pass (rw (yes, c.meta_query.ensures) at (c.in_ok-one.ensures.walked clean))

pub returns-then-not-one-clause-damaged : goal.returns-then-not-one-clause-damaged
returns-then-not-one-clause-damaged g c clean same v = no_meta c.args.schema_version (state g.S.Store c.walk.new.conn).now v (returns-then-not-one-clause-reported g c clean)

pub returns-clause-damaged : goal.returns-clause-damaged
returns-clause-damaged g c clean same v = no_meta c.args.schema_version (state g.S.Store c.walk.new.conn).now v (subst (IsMetaOf c.args.schema_version (state g.S.Store c.walk.new.conn).now) same (returns-clause-reported g c clean))

pub returns-in_err-one-clause-err : goal.returns-in_err-one-clause-err
returns-in_err-one-clause-err g c well = let it : IsMemory c.in_err-one.field-0.0 = c.in_err-one.ensures.err well (λ clean. rw c.meta_query.ensures (meta_asks c.args.schema_version (state g.S.Store c.args.conn.now).now.schema (c.requires clean))) in search rules
