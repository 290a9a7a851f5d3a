use Rattle.vault_store_apply.proofs.ReadLemmas.{reads_then}
use Rattle.vault_store_apply.proofs.entries.removal_context.read_removal_context.Goals as goal

pub returns-clause-value : goal.returns-clause-value
returns-clause-value g c clean v was known is =
    let clean2 = c.in_ok-since.ensures.read.honest clean in
    let clean1 = c.in_ok-newest.ensures.read.honest clean2 in
    let was1 = c.in_ok-external.ensures.read.same clean1 v was in
    (c.in_ok-newest.ensures.value clean2 v was1 is, c.in_ok-since.ensures.value clean v (c.in_ok-newest.ensures.read.same clean2 v was1), c.in_ok-external.ensures.value clean1 v was known)

pub returns-clause-read : goal.returns-clause-read
returns-clause-read g c =
    let both = reads_then (g.met.S.Store.shut_if_dirty c.find_external.new.conn.store) (λ clean _. c.in_ok-external.ensures.open clean) c.in_ok-external.ensures.read c.in_ok-newest.ensures.read in
    reads_then (g.met.S.Store.shut_if_dirty c.find_newest_but.new.conn.store) (λ clean _. c.in_ok-newest.ensures.open clean (c.in_ok-external.ensures.open (c.in_ok-newest.ensures.read.honest clean))) both c.in_ok-since.ensures.read

pub returns-in_err-newest-clause-read : goal.returns-in_err-newest-clause-read
returns-in_err-newest-clause-read g c = reads_then (g.met.S.Store.shut_if_dirty c.find_external.new.conn.store) (λ clean _. c.in_ok-external.ensures.open clean) c.in_ok-external.ensures.read c.in_err-newest.ensures.read

pub returns-in_err-since-clause-read : goal.returns-in_err-since-clause-read
returns-in_err-since-clause-read g c =
    let both = reads_then (g.met.S.Store.shut_if_dirty c.find_external.new.conn.store) (λ clean _. c.in_ok-external.ensures.open clean) c.in_ok-external.ensures.read c.in_ok-newest.ensures.read in
    reads_then (g.met.S.Store.shut_if_dirty c.find_newest_but.new.conn.store) (λ clean _. c.in_ok-newest.ensures.open clean (c.in_ok-external.ensures.open (c.in_ok-newest.ensures.read.honest clean))) both c.in_err-since.ensures.read
