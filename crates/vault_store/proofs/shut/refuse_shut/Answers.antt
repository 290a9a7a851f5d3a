use Rattle.std.proofs.Common.{[], rules}
use Rattle.sqlite.specs.Held.{state}
use Rattle.vault_audit.specs.Health.{IsMemory}
use Rattle.vault_store_apply.proofs.ReadLemmas.{unchanged_keeps, refused_keeps}
use Rattle.vault_store_reads.proofs.WantLemmas.{not_prepared}
use Rattle.vault_store.proofs.ShutLemmas.{shut_text, shut_plain, shut_unlisted, shut_asked}
use Rattle.vault_store.proofs.shut.refuse_shut.Goals as goal

pub returns-clause-leaves : goal.returns-clause-leaves
returns-clause-leaves g c = record {
  honest = search rules;
  same = λ clean v was.
      unchanged_keeps (state g.S.Store c.args.conn.now) (state g.S.Store c.prepare.new.self) v (c.in_ok-_statement.ensures.ok clean).1 was;
}

pub returns-in_err-_statement-clause-leaves : goal.returns-in_err-_statement-clause-leaves
returns-in_err-_statement-clause-leaves g c = record {
  honest = search rules;
  same = λ clean v was.
      refused_keeps (state g.S.Store c.args.conn.now) (state g.S.Store c.prepare.new.self) _ [] _ v (c.in_err-_statement.ensures.err clean []) was;
}

pub returns-in_err-_statement-clause-memory : goal.returns-in_err-_statement-clause-memory
returns-in_err-_statement-clause-memory g c well v was =
    let one : IsMemory c.in_err-_statement.field-0.0 =
    not_prepared shut_text [] (state g.S.Store c.args.conn.now) (state g.S.Store c.prepare.new.self) v was well c.prepare.ensures.survives.limit shut_plain shut_unlisted shut_asked _ (c.in_err-_statement.ensures.err well.clean []) in
    search rules
