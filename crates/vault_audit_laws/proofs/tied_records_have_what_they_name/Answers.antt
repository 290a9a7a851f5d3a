use Rattle.vault_audit_laws.proofs.RecordTies.{callers_employed, buckets_owned, entries_placed, tenures_owned}
use Rattle.vault_audit_laws.proofs.tied_records_have_what_they_name.Goals as goal

pub returns-clause-employed : goal.returns-clause-employed
returns-clause-employed c = λ n db departments callers tied. callers_employed n db tied departments callers

pub returns-clause-owned : goal.returns-clause-owned
returns-clause-owned c = λ n db departments buckets tied. buckets_owned n db tied departments buckets

pub returns-clause-placed : goal.returns-clause-placed
returns-clause-placed c = λ n db buckets entries tied. entries_placed n db tied buckets entries

pub returns-clause-tenured : goal.returns-clause-tenured
returns-clause-tenured c = λ n db departments v tied. tenures_owned n db tied departments v
