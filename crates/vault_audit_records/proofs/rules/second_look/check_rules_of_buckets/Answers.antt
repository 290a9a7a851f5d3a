use Rattle.std.proofs.Common.{◌≡◌, true, false, subst, rules, arith}
use Rattle.sqlite.specs.Held.{state}
use Rattle.sqlite.specs.State.{HasCleanDisk}
use Rattle.vault_audit_records.specs.RulesByPlace.{DecidesBucketRows, DecidesRuns}
use Rattle.vault_audit_records.proofs.RuleDecisionLemmas.{not_named, not_placed, last_stated, unsound, damaged_if_ok}
use Rattle.vault_audit_records.proofs.rules.second_look.check_rules_of_buckets.Goals as goal

pub returns-then-not-named-clause-reported : goal.returns-then-not-named-clause-reported
returns-then-not-named-clause-reported g c clean =
    let db = (state g.S.Store c.are_buckets.new.conn).now in
    let no : c.in_ok-named.named ≡ false = search rules in
    not_named c.args.schema_version db (subst (DecidesBucketRows db) no (c.in_ok-named.ensures.reported clean))

pub returns-then-not-named-clause-damaged : goal.returns-then-not-named-clause-damaged
returns-then-not-named-clause-damaged g c clean same = unsound c.args.schema_version (state g.S.Store c.are_buckets.new.conn).now (returns-then-not-named-clause-reported g c clean)

pub returns-then-not-placed-clause-reported : goal.returns-then-not-placed-clause-reported
returns-then-not-placed-clause-reported g c clean =
    let db = (state g.S.Store c.are_runs.new.conn).now in
    let no : c.in_ok-placed.placed ≡ false = search rules in
    not_placed c.args.schema_version db (subst (DecidesRuns c.args.schema_version db) no (c.in_ok-placed.ensures.reported clean))

pub returns-then-not-placed-clause-damaged : goal.returns-then-not-placed-clause-damaged
returns-then-not-placed-clause-damaged g c clean same = unsound c.args.schema_version (state g.S.Store c.are_runs.new.conn).now (returns-then-not-placed-clause-reported g c clean)

pub returns-clause-reported : goal.returns-clause-reported
returns-clause-reported g c clean =
    let mid : HasCleanDisk (state g.S.Store c.are_runs.new.conn) = omega (arith, c.have_buckets.ensures.look.crash.clean) in
    let early : HasCleanDisk (state g.S.Store c.are_buckets.new.conn) = omega (arith, c.in_ok-placed.ensures.look.crash.clean, c.have_buckets.ensures.look.crash.clean) in
    let named : c.in_ok-named.named ≡ true = search rules in
    let placed : c.in_ok-placed.placed ≡ true = search rules in
    last_stated c.args.schema_version (state g.S.Store c.are_buckets.new.conn) (state g.S.Store c.are_runs.new.conn) (state g.S.Store c.have_buckets.new.conn) (c.in_ok-placed.ensures.look.same mid)
    (subst (DecidesBucketRows (state g.S.Store c.are_buckets.new.conn).now) named (c.in_ok-named.ensures.reported early))
    (subst (DecidesRuns c.args.schema_version (state g.S.Store c.are_runs.new.conn).now) placed (c.in_ok-placed.ensures.reported mid))
    c.have_buckets.result (c.have_buckets.ensures.look.same clean) (c.have_buckets.ensures.reported clean)

pub returns-clause-damaged : goal.returns-clause-damaged
returns-clause-damaged g c clean = damaged_if_ok c.args.schema_version (state g.S.Store c.have_buckets.new.conn).now c.have_buckets.result (returns-clause-reported g c clean)
