use Rattle.vault_files_events.proofs.RegisterParts.{last-rest, next-rest, removed-stays, rest-stays, whole-register}
use Rattle.vault_files_events.proofs.laws.parts_make_the_register.Goals as goal

pub returns-clause-whole : goal.returns-clause-whole
returns-clause-whole c = whole-register

pub returns-clause-next : goal.returns-clause-next
returns-clause-next c = next-rest

pub returns-clause-last : goal.returns-clause-last
returns-clause-last c = last-rest

pub returns-clause-stays : goal.returns-clause-stays
returns-clause-stays c = rest-stays

pub returns-clause-kept : goal.returns-clause-kept
returns-clause-kept c = removed-stays
