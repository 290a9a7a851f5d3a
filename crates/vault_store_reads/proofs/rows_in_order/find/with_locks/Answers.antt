use Rattle.std.proofs.Common.{◌≡◌, [], ◌∷◌, ◌++◌, rules}
use Rattle.vault_audit_rows.specs.Health.{IsMemory}
use Rattle.vault_store_reads.specs.Shown.{with_lock_in}
use Rattle.vault_store_reads.proofs.OrderedListLemmas.{made_more}
use Rattle.vault_store_reads.proofs.OpenLemmas.{quiet_then}
use Rattle.vault_store_reads.proofs.rows_in_order.find.with_locks.Goals as goal

pub returns-in_err-one-clause-read : goal.returns-in_err-one-clause-read
returns-in_err-one-clause-read g c = record {
  same = λ clean v was. c.with_lock.ensures.read.same clean v (c.loop-entry.invariant.same (c.with_lock.ensures.read.honest clean) v was);
  honest = λ clean. c.loop-entry.invariant.honest (c.with_lock.ensures.read.honest clean);
  mode = λ alone. c.with_lock.ensures.read.mode (c.loop-entry.invariant.mode alone);
  survives = quiet_then _ _ _ c.loop-entry.invariant.same c.loop-entry.invariant.opened c.loop-entry.invariant.survives c.with_lock.ensures.read.survives;
}

pub returns-in_err-push-clause-read : goal.returns-in_err-push-clause-read
returns-in_err-push-clause-read g c = record {
  same = λ clean v was. c.with_lock.ensures.read.same clean v (c.loop-entry.invariant.same (c.with_lock.ensures.read.honest clean) v was);
  honest = λ clean. c.loop-entry.invariant.honest (c.with_lock.ensures.read.honest clean);
  mode = λ alone. c.with_lock.ensures.read.mode (c.loop-entry.invariant.mode alone);
  survives = quiet_then _ _ _ c.loop-entry.invariant.same c.loop-entry.invariant.opened c.loop-entry.invariant.survives c.with_lock.ensures.read.survives;
}

pub loop-entry-preserved : goal.loop-entry-preserved
loop-entry-preserved g c =
    let pushed : c.push.new.self.items ≡ c.loop-entry.locked.items ++ c.in_ok-one.one ∷ [] = search rules in
    record {
      locked = λ clean v was.
          let mid = c.with_lock.ensures.read.honest clean in
          rw pushed (made_more (with_lock_in v) c.loop-entry.locked.items c.in_ok-one.one c.args.entries.now c.loop-entry.entry-index c.entry-item.result (c.loop-entry.invariant.locked mid v was) c.loop-entry-test.true
          c.entry-item.is (c.in_ok-one.ensures.value clean v (c.loop-entry.invariant.same mid v was)));
      same = λ clean v was. c.with_lock.ensures.read.same clean v (c.loop-entry.invariant.same (c.with_lock.ensures.read.honest clean) v was);
      honest = λ clean. c.loop-entry.invariant.honest (c.with_lock.ensures.read.honest clean);
      mode = λ alone. c.with_lock.ensures.read.mode (c.loop-entry.invariant.mode alone);
      survives = quiet_then _ _ _ c.loop-entry.invariant.same c.loop-entry.invariant.opened c.loop-entry.invariant.survives c.with_lock.ensures.read.survives;
      opened = λ clean _. c.in_ok-one.ensures.open clean;
    }

pub returns-in_err-one-clause-memory : goal.returns-in_err-one-clause-memory
returns-in_err-one-clause-memory g c well v was = let one : IsMemory c.in_err-one.field-0.0 = c.in_err-one.ensures.memory well v (c.loop-entry.invariant.same (c.with_lock.ensures.read.honest well.clean) v was) in search rules
