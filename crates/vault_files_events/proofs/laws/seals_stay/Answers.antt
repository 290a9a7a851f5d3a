use Rattle.std.proofs.Common.{List, ap, length}
use Rattle.sha2.specs.Sha256.{sha256}
use Rattle.vault_core_evidence.specs.Events.{Event}
use Rattle.vault_core_evidence.proofs.Past.{run-past}
use Rattle.vault_files_events.specs.Counts.{admissions}
use Rattle.vault_files_events.specs.EventsText.{events_text}
use Rattle.vault_files_events.proofs.laws.seals_stay.Goals as goal

pub returns : goal.returns
returns c = λ v after commands replies m sound past run. ap (λ (es : List Event). record { before = m; entries = admissions es; events = length es; digest = sha256 (events_text es) }) (run-past v after commands replies m sound past run)
