use Rattle.std.proofs.Common.{refl}
use Rattle.vault_files_events.proofs.Parts.{last-rest, next-rest}
use Rattle.vault_files_events.proofs.Staying.{rest-stays}
use Rattle.vault_files_events.proofs.laws.parts_make_the_text.Goals as goal

pub returns-clause-whole : goal.returns-clause-whole
returns-clause-whole c = λ v m. refl

pub returns-clause-next : goal.returns-clause-next
returns-clause-next c = next-rest

pub returns-clause-last : goal.returns-clause-last
returns-clause-last c = last-rest

pub returns-clause-stays : goal.returns-clause-stays
returns-clause-stays c = rest-stays
