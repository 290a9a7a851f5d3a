use Rattle.std.proofs.lemmas.Result.{IfOk-weaker}
use Rattle.vault_core_model.specs.declared.reply.Reply.TheVariants.{Refused}
use Rattle.vaultctl_commands.proofs.carrying.print_refusal.Goals as goal

pub returns-clause-printed : goal.returns-clause-printed
returns-clause-printed g c = IfOk-weaker c.print_reply.result _ _ (λ stated d. (Refused c.args.refusal, d.0, d.1)) c.print_reply.ensures.ok
