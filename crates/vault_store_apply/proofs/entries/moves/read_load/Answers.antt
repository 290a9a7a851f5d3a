use Rattle.vault_store_apply.proofs.ReadLemmas.{reads_then}
use Rattle.vault_store_apply.proofs.entries.moves.read_load.Goals as goal

pub returns-clause-value : goal.returns-clause-value
returns-clause-value g c clean v was known =
    let clean1 = c.in_ok-number.ensures.read.honest clean in
    let held = c.in_ok-held.ensures.value clean1 v was known in
    (held.0, held.1, c.in_ok-number.ensures.value clean v (c.in_ok-held.ensures.read.same clean1 v was) known)

pub returns-clause-read : goal.returns-clause-read
returns-clause-read g c = reads_then (g.met.S.Store.shut_if_dirty c.find_held.new.conn.store) (λ clean _. c.in_ok-held.ensures.open clean) c.in_ok-held.ensures.read c.in_ok-number.ensures.read

pub returns-in_err-number-clause-read : goal.returns-in_err-number-clause-read
returns-in_err-number-clause-read g c = reads_then (g.met.S.Store.shut_if_dirty c.find_held.new.conn.store) (λ clean _. c.in_ok-held.ensures.open clean) c.in_ok-held.ensures.read c.in_err-number.ensures.read
