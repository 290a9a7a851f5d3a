use Rattle.vault_files_events.proofs.EqualTexts.{seals-same, texts-same}
use Rattle.vault_files_events.proofs.LawfulDates.{lawful-dated}
use Rattle.vault_files_events.proofs.laws.equal_texts_have_equal_pasts.Goals as goal

pub returns-clause-texts : goal.returns-clause-texts
returns-clause-texts c = texts-same

pub returns-clause-seals : goal.returns-clause-seals
returns-clause-seals c = seals-same

pub returns-clause-dated : goal.returns-clause-dated
returns-clause-dated c = lawful-dated
