use Rattle.std.proofs.Common.{rules, ◌≡◌, None, Result, Ok, Err, Bool, IfOk, OnOk, subst, arith}
use Rattle.std.specs.List.{AllByRecursion}
use Rattle.sqlite.specs.State.{State, HasCleanDisk, IsUnchanged}
use Rattle.sqlite.specs.Held.{state}
use Rattle.vault_core_model.specs.Vault.{Vault}
use Rattle.vault_audit_model.specs.declared.schema.SchemaVersion.{SchemaVersion}
use Rattle.vault_audit_model.specs.Relations.{AreBuckets, AreEntries, AreTenuresOf, IsPast, DecidesSums}
use Rattle.vault_audit_model.specs.Spells.{AreSoundAs, entries_in}
use Rattle.vault_audit_records.proofs.DamageLemmas.{refused_if_ok}
use Rattle.vault_audit_tenures.specs.declared.sums.totals.Totals.{Totals}
use Rattle.vault_audit_tenures.specs.DepartmentSums.{HaveTotals}
use Rattle.vault_audit_tenures.specs.Totals.{AreTotals}
use Rattle.vault_audit_tenures.proofs.DepartmentSumLemmas.{table_stated, no_sums}
use Rattle.vault_audit_tenures.proofs.sums.second_look.check_sums.Goals as goal
use Rattle.vault_audit_model.specs.SchemaVersions.{is_external}

-- what is reported beside the totals is said of the table
of_table : {E : Type 0} (n : SchemaVersion) (r : Result Bool E) (a b : State) (t : Totals) → OnOk r (IsUnchanged a b)
    → ((v : Vault) → AreBuckets n a.now v.buckets → AreEntries (is_external n) a.now (entries_in v.histories) → AllByRecursion (IsPast v.last) (entries_in v.histories) → AreTenuresOf n a.now v → AreTotals v.histories t)
    → IfOk r (HaveTotals t n b.now)
    → IfOk r (λ hold. (v : Vault) → AreBuckets n b.now v.buckets → AreEntries (is_external n) b.now (entries_in v.histories) → AllByRecursion (IsPast v.last) (entries_in v.histories) → AreTenuresOf n b.now v → DecidesSums n b.now v.histories hold)
of_table n (Ok hold) a b t same totals stated = λ v buckets entries past tenures.
    let before = subst (λ db. AreBuckets n db v.buckets × AreEntries (is_external n) db (entries_in v.histories) × AreTenuresOf n db v) same.0.now_is (buckets, entries, tenures) in
    table_stated v.histories t (totals v before.0 before.1 past before.2) n b.now hold stated
of_table n (Err e) a b t same totals stated = tt

pub returns-in_default-clause-reported : goal.returns-in_default-clause-reported
returns-in_default-clause-reported g c clean v buckets entries past tenures =
    let none : c.in_ok-totals.field-0 ≡ None = search rules in
    absurd (rw none at (c.in_ok-totals.ensures.reported clean v buckets entries past tenures))

pub returns-clause-reported : goal.returns-clause-reported
returns-clause-reported g c clean =
    let early : HasCleanDisk (state g.S.Store c.take_sums.new.conn) = omega (arith, c.check_totals.ensures.look.crash.clean) in
    let totals = rw c.in-Some.is at (c.in_ok-totals.ensures.reported early) in
    of_table c.args.schema_version c.check_totals.result (state g.S.Store c.take_sums.new.conn) (state g.S.Store c.check_totals.new.conn) c.in-Some.totals (c.check_totals.ensures.look.same clean) totals (c.check_totals.ensures.reported clean)

pub returns-in_default-clause-damaged : goal.returns-in_default-clause-damaged
returns-in_default-clause-damaged g c clean same = no_sums c.args.schema_version (state g.S.Store c.take_sums.new.conn).now (returns-in_default-clause-reported g c clean)

pub returns-clause-damaged : goal.returns-clause-damaged
returns-clause-damaged g c clean =
    let db = (state g.S.Store c.check_totals.new.conn).now in
    refused_if_ok (λ hold. (v : Vault) → AreBuckets c.args.schema_version db v.buckets → AreEntries (is_external c.args.schema_version) db (entries_in v.histories) → AllByRecursion (IsPast v.last) (entries_in v.histories) → AreTenuresOf c.args.schema_version db v → DecidesSums c.args.schema_version db v.histories hold)
    ((v : Vault) → ¬ AreSoundAs c.args.schema_version db v) (no_sums c.args.schema_version db) c.check_totals.result (returns-clause-reported g c clean)
