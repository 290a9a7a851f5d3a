use Rattle.vault_base_time.proofs.MomentGrammar.{moment_reads}
use Rattle.vault_base_time.proofs.moment.Moment.read.Goals as goal

pub returns-clause-grammar : goal.returns-clause-grammar
returns-clause-grammar c = rw c.parse.ensures (moment_reads c.args.text.now)
