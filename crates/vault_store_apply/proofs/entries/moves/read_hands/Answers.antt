use Rattle.vault_store_apply.proofs.ReadLemmas.{reads_then}
use Rattle.vault_store_apply.proofs.entries.moves.read_hands.Goals as goal

pub returns-clause-value : goal.returns-clause-value
returns-clause-value g c clean v was known =
    let clean2 = c.in_ok-taker.ensures.read.honest clean in
    let clean1 = c.in_ok-giver.ensures.read.honest clean2 in
    let was1 = c.in_ok-config.ensures.read.same clean1 v was in
    let was2 = c.in_ok-giver.ensures.read.same clean2 v was1 in
    (c.in_ok-config.ensures.value clean1 v was known, c.in_ok-giver.ensures.value clean2 v was1 known, c.in_ok-taker.ensures.value clean v was2 known)

pub returns-clause-read : goal.returns-clause-read
returns-clause-read g c =
    let both = reads_then (g.met.S.Store.shut_if_dirty c.read_config.new.conn.store) (λ clean _. c.in_ok-config.ensures.open clean) c.in_ok-config.ensures.read c.in_ok-giver.ensures.read in
    reads_then (g.met.S.Store.shut_if_dirty c.read_sums.new.conn.store) (λ clean _. c.in_ok-giver.ensures.open clean) both c.in_ok-taker.ensures.read

pub returns-in_err-giver-clause-read : goal.returns-in_err-giver-clause-read
returns-in_err-giver-clause-read g c = reads_then (g.met.S.Store.shut_if_dirty c.read_config.new.conn.store) (λ clean _. c.in_ok-config.ensures.open clean) c.in_ok-config.ensures.read c.in_err-giver.ensures.read

pub returns-in_err-taker-clause-read : goal.returns-in_err-taker-clause-read
returns-in_err-taker-clause-read g c =
    let both = reads_then (g.met.S.Store.shut_if_dirty c.read_config.new.conn.store) (λ clean _. c.in_ok-config.ensures.open clean) c.in_ok-config.ensures.read c.in_ok-giver.ensures.read in
    reads_then (g.met.S.Store.shut_if_dirty c.read_sums.new.conn.store) (λ clean _. c.in_ok-giver.ensures.open clean) both c.in_err-taker.ensures.read
