use Rattle.std.proofs.Common.{arith}
use Rattle.sqlite.specs.Held.{state}
use Rattle.sqlite.specs.Values.{bound}
use Rattle.vault_store_reads.proofs.QueryLemmas.{finds, keeps_after, survives_query, if_shown}
use Rattle.vault_store_reads.proofs.OpenLemmas.{open_after}
use Rattle.vault_store_reads.proofs.WantLemmas.{cause_of, if_failed}
use Rattle.vault_store_reads.proofs.query.query_rows.Goals as goal

pub returns-clause-rows : goal.returns-clause-rows
returns-clause-rows g c clean = if_shown c.query_all.result (c.query_all.ensures.ok clean) (λ rows shown v was.
    finds c.args.sql.now (bound c.args.params.now) (state g.S.Store c.args.conn.now) (state g.S.Store c.query_all.new.self) v was rows.items shown)

pub returns-clause-read : goal.returns-clause-read
returns-clause-read g c = record {
  same = λ clean v was.
      keeps_after c.args.sql.now (bound c.args.params.now) (state g.S.Store c.args.conn.now) (state g.S.Store c.query_all.new.self) v was (λ rows. rows.items) c.requires.0 c.requires.1 c.query_all.result
      (c.query_all.ensures.ok clean) (c.query_all.ensures.err clean);
  honest = λ clean. omega (arith, clean, c.query_all.ensures.survives.clean);
  mode = c.query_all.ensures.mode;
  crash = λ v was. survives_query c.args.sql.now (bound c.args.params.now) (state g.S.Store c.args.conn.now) (state g.S.Store c.query_all.new.self) v was c.requires.0 c.requires.1 c.query_all.ensures.survives;
}

pub returns-clause-open : goal.returns-clause-open
returns-clause-open g c clean = open_after _ _ _ _ (λ rows. rows.items) c.query_all.result (c.query_all.ensures.ok clean)

pub returns-clause-memory : goal.returns-clause-memory
returns-clause-memory g c asked well v was = if_failed c.query_all.result (c.query_all.ensures.err well.clean) (λ e failed.
    cause_of c.args.sql.now (bound c.args.params.now) (state g.S.Store c.args.conn.now) (state g.S.Store c.query_all.new.self) v was well c.query_all.ensures.survives.limit c.requires.0 c.requires.1 asked e failed)
