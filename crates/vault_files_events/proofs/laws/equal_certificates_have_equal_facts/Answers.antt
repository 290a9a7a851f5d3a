use Rattle.vault_files_events.proofs.CertificateLines.{same-certificate}
use Rattle.vault_files_events.proofs.laws.equal_certificates_have_equal_facts.Goals as goal

pub returns : goal.returns
returns c = same-certificate
