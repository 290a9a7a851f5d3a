use Rattle.sqlite.specs.Held.{state}
use Rattle.vault_store.proofs.CommitLemmas.{commits_or_undoes, commits_or_wants, survives_commit}
use Rattle.vault_store.proofs.migrate.send_commit.Goals as goal

pub returns-clause-committed : goal.returns-clause-committed
returns-clause-committed g c clean =
    (commits_or_undoes (state g.S.Store c.args.conn.now) (state g.S.Store c.execute.new.self) c.requires c.execute.result (c.execute.ensures.runs clean)).0

pub returns-clause-undone : goal.returns-clause-undone
returns-clause-undone g c clean =
    (commits_or_undoes (state g.S.Store c.args.conn.now) (state g.S.Store c.execute.new.self) c.requires c.execute.result (c.execute.ensures.runs clean)).1

pub returns-clause-crash : goal.returns-clause-crash
returns-clause-crash g c = survives_commit (state g.S.Store c.args.conn.now) (state g.S.Store c.execute.new.self) c.requires c.execute.ensures.survives

pub returns-clause-memory : goal.returns-clause-memory
returns-clause-memory g c = commits_or_wants (state g.S.Store c.args.conn.now) (state g.S.Store c.execute.new.self) c.requires c.execute.result c.execute.ensures.runs
