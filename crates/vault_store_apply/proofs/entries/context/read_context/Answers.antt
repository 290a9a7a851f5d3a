use Rattle.vault_store_apply.proofs.ReadLemmas.{reads_then}
use Rattle.vault_store_apply.proofs.entries.context.read_context.Goals as goal

pub returns-clause-value : goal.returns-clause-value
returns-clause-value g c clean v was known =
    let clean2 = c.in_ok-head.ensures.read.honest clean in
    let clean1 = c.in_ok-sums.ensures.read.honest clean2 in
    let was1 = c.in_ok-config.ensures.read.same clean1 v was in
    let was2 = c.in_ok-sums.ensures.read.same clean2 v was1 in
    (c.in_ok-config.ensures.value clean1 v was known, c.in_ok-sums.ensures.value clean2 v was1 known, c.in_ok-head.ensures.value clean v was2)

pub returns-clause-read : goal.returns-clause-read
returns-clause-read g c =
    let both = reads_then (g.met.S.Store.shut_if_dirty c.read_config.new.conn.store) (λ clean _. c.in_ok-config.ensures.open clean) c.in_ok-config.ensures.read c.in_ok-sums.ensures.read in
    reads_then (g.met.S.Store.shut_if_dirty c.read_sums.new.conn.store) (λ clean _. c.in_ok-sums.ensures.open clean) both c.in_ok-head.ensures.read

pub returns-in_err-sums-clause-read : goal.returns-in_err-sums-clause-read
returns-in_err-sums-clause-read g c = reads_then (g.met.S.Store.shut_if_dirty c.read_config.new.conn.store) (λ clean _. c.in_ok-config.ensures.open clean) c.in_ok-config.ensures.read c.in_err-sums.ensures.read

pub returns-in_err-head-clause-read : goal.returns-in_err-head-clause-read
returns-in_err-head-clause-read g c =
    let both = reads_then (g.met.S.Store.shut_if_dirty c.read_config.new.conn.store) (λ clean _. c.in_ok-config.ensures.open clean) c.in_ok-config.ensures.read c.in_ok-sums.ensures.read in
    reads_then (g.met.S.Store.shut_if_dirty c.read_sums.new.conn.store) (λ clean _. c.in_ok-sums.ensures.open clean) both c.in_err-head.ensures.read
