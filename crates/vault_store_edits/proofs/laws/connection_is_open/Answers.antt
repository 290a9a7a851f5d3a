use Rattle.std.proofs.Common.{[]}
use Rattle.sqlite.specs.Held.{state}
use Rattle.vault_store_edits.proofs.TransactionLemmas.{kept_refused, on_err_here}
use Rattle.vault_store_edits.proofs.laws.connection_is_open.Goals as goal

pub returns-in_err-_statement-clause-kept : goal.returns-in_err-_statement-clause-kept
returns-in_err-_statement-clause-kept g c clean =
    on_err_here _ (kept_refused (state g.S.Store c.args.tx.now.conn.now) (state g.S.Store c.prepare.new.self.conn.now) _ [] _ (c.in_err-_statement.ensures.err clean []))
