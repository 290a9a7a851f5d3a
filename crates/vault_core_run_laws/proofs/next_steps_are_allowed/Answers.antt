use Rattle.vault_core_run_laws.proofs.RunLaws.{next_steps_are_allowed, key_steps_are_allowed, next_steps_remove_free}
use Rattle.vault_core_run_laws.proofs.next_steps_are_allowed.Goals as goal

pub returns-clause-keys : goal.returns-clause-keys
returns-clause-keys c = next_steps_are_allowed

pub returns-clause-key : goal.returns-clause-key
returns-clause-key c = key_steps_are_allowed

pub returns-clause-free : goal.returns-clause-free
returns-clause-free c = next_steps_remove_free
