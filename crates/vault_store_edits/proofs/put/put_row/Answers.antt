use Rattle.sqlite.specs.Held.{state}
use Rattle.vault_store_edits.proofs.PutLemmas.{edits, is_sound}
use Rattle.vault_store_edits.proofs.put.put_row.Goals as goal

pub returns-clause-edit : goal.returns-clause-edit
returns-clause-edit g c =
    let p = g.P.Put in
    let x = c.args.what.now in
    let old = state g.S.Store c.args.tx.now.conn.now in
    let new = state g.S.Store c.insert.new.tx.conn.now in
    record {
      edits = λ external clean inside. edits external p.table (p.as_row x) (λ is_there. g.met.P.Put.inserts external is_there x) old new c.insert.result (c.insert.ensures.ran external clean inside);
      sound = λ external clean inside has. is_sound external p.table (p.as_row x) (λ is_there. g.met.P.Put.inserts external is_there x) old new c.insert.result has (c.insert.ensures.ran external clean inside);
      kept = c.insert.ensures.kept;
      survives = c.insert.ensures.survives;
    }
