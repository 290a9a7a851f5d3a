use Rattle.vault_core_run_laws.proofs.RunLaws.{plans_are_key_by_key, bucket_keys_rise, entries_rise}
use Rattle.vault_core_run_laws.proofs.plans_go_key_by_key.Goals as goal

pub returns-clause-plans : goal.returns-clause-plans
returns-clause-plans c = plans_are_key_by_key

pub returns-clause-keys : goal.returns-clause-keys
returns-clause-keys c = bucket_keys_rise

pub returns-clause-entries : goal.returns-clause-entries
returns-clause-entries c = entries_rise
