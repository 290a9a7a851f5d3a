use Rattle.std.proofs.lemmas.Result.{IfOk-weaker}
use Rattle.vaultctl_commands.proofs.EvidenceLemmas.{refusal_stated}
use Rattle.vaultctl_commands.proofs.evidence.answer_seal.Goals as goal

pub returns-in-Err-Refused-clause-printed : goal.returns-in-Err-Refused-clause-printed
returns-in-Err-Refused-clause-printed g c =
    IfOk-weaker c.print_unreached.result _ _ (λ stated d. refusal_stated stated _ _ c.in-Err-Refused.refusal d) c.print_unreached.ensures.ok
