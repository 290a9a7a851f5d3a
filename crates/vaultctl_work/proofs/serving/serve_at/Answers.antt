use Rattle.std.proofs.Common.{refl}
use Rattle.vaultctl_serve.proofs.ServingLemmas.{Stepped-none}
use Rattle.vaultctl_work.proofs.serving.serve_at.Goals as goal

-- no journal can be made
pub returns-in_err-journal : goal.returns-in_err-journal
returns-in_err-journal g c = record { done = λ h. (h, Stepped-none _ _ _ refl) }
