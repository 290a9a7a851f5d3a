use Rattle.std.proofs.Common.{◌≡◌, length, ◌∙◌, arith, rules}
use Rattle.vault_core_model.specs.Places.{held_at}
use Rattle.vault_audit_rows.specs.Health.{IsMemory}
use Rattle.vault_store_reads.specs.Shown.{held_row}
use Rattle.vault_store_reads.proofs.CountLemmas.{none_shown, shown_in_order}
use Rattle.vault_store_reads.proofs.OpenLemmas.{quiet_then}
use Rattle.vault_store_reads.proofs.rows_in_order.find.find_bare.Goals as goal

pub returns-then-count-eq0-clause-value : goal.returns-then-count-eq0-clause-value
returns-then-count-eq0-clause-value g c clean v was =
    let stated = c.in_ok-count.ensures.value clean v was in
    let hs = held_at v c.args.bucket.now c.args.key.now in
    let none : length hs ≡ 0 = omega (arith, stated.0, c.if-count-eq0.true) in
    (rw c.new.ensures.items (none_shown hs none), stated.1)

pub returns-in_err-rows-clause-read : goal.returns-in_err-rows-clause-read
returns-in_err-rows-clause-read g c = record {
  same = λ clean v was. c.entry_rows.ensures.read.same clean v (c.find_count.ensures.read.same (c.entry_rows.ensures.read.honest clean) v was);
  honest = λ clean. c.find_count.ensures.read.honest (c.entry_rows.ensures.read.honest clean);
  mode = λ alone. c.entry_rows.ensures.read.mode (c.find_count.ensures.read.mode alone);
  survives = quiet_then _ _ _ c.find_count.ensures.read.same (λ clean _. c.in_ok-count.ensures.open clean) c.find_count.ensures.read.survives c.entry_rows.ensures.read.survives;
}

pub returns-in_err-held-clause-read : goal.returns-in_err-held-clause-read
returns-in_err-held-clause-read g c = record {
  same = λ clean v was. c.entry_rows.ensures.read.same clean v (c.find_count.ensures.read.same (c.entry_rows.ensures.read.honest clean) v was);
  honest = λ clean. c.find_count.ensures.read.honest (c.entry_rows.ensures.read.honest clean);
  mode = λ alone. c.entry_rows.ensures.read.mode (c.find_count.ensures.read.mode alone);
  survives = quiet_then _ _ _ c.find_count.ensures.read.same (λ clean _. c.in_ok-count.ensures.open clean) c.find_count.ensures.read.survives c.entry_rows.ensures.read.survives;
}

pub returns-clause-read : goal.returns-clause-read
returns-clause-read g c = record {
  same = λ clean v was. c.entry_rows.ensures.read.same clean v (c.find_count.ensures.read.same (c.entry_rows.ensures.read.honest clean) v was);
  honest = λ clean. c.find_count.ensures.read.honest (c.entry_rows.ensures.read.honest clean);
  mode = λ alone. c.entry_rows.ensures.read.mode (c.find_count.ensures.read.mode alone);
  survives = quiet_then _ _ _ c.find_count.ensures.read.same (λ clean _. c.in_ok-count.ensures.open clean) c.find_count.ensures.read.survives c.entry_rows.ensures.read.survives;
}

pub returns-clause-value : goal.returns-clause-value
returns-clause-value g c clean v was =
    let mid = c.entry_rows.ensures.read.honest clean in
    let stated = c.in_ok-count.ensures.value mid v was in
    let shown = c.in_ok-rows.ensures.rows clean v (c.find_count.ensures.read.same mid v was) in
    let hs = held_at v c.args.bucket.now c.args.key.now in
    let decoded = (rw c.deref.ensures.value at c.in_ok-held.ensures.ok) ∙ shown.0 in
    (rw c.reverse.ensures.items (shown_in_order held_row c.in_ok-held.held.items c.in_ok-count.count hs stated.0 decoded), stated.1)

pub returns-in_err-rows-clause-memory : goal.returns-in_err-rows-clause-memory
returns-in_err-rows-clause-memory g c well v was = let one : IsMemory c.in_err-rows.field-0.0 = c.in_err-rows.ensures.memory well v (c.find_count.ensures.read.same (c.entry_rows.ensures.read.honest well.clean) v was) in search rules

pub returns-in_err-held-clause-memory : goal.returns-in_err-held-clause-memory
returns-in_err-held-clause-memory g c well v was =
    let one : IsMemory c.in_err-held.field-0.0 = c.in_err-held.ensures.memory (rw c.deref.ensures.value (c.in_ok-rows.ensures.readable well.clean v (c.find_count.ensures.read.same (c.entry_rows.ensures.read.honest well.clean) v was))) in search rules
