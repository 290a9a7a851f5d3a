-- On what is printed of seals.
use Rattle.std.proofs.Common.{◌≡◌, ℕ, List, Option, refl, subst, sym}
use Rattle.std.specs.Io.KnownBytes.{Appends}
use Rattle.vault_base.specs.declared.refusal.Refusal.{Refusal}
use Rattle.vault_core_model.specs.declared.reply.Reply.TheVariants as reply
use Rattle.vaultctl_commands.specs.Evidence.{PrintsSeal}
use Rattle.vaultctl_commands.specs.Printed.{printed}
use Rattle.vaultctl_commands.specs.declared.outcome.Outcome.{Outcome}
use Rattle.vaultctl_commands.specs.declared.outcome.Outcome.TheVariants.{Refused}

-- a refusal that is printed is the reply that refuses a seal
pub refusal_stated : (stated : Outcome) (before after : Option (List ℕ)) (r : Refusal) → (stated ≡ Refused) × Appends before after (printed (reply.Refused r)) → PrintsSeal stated before after
refusal_stated stated before after r (is, it) = subst (λ (o : Outcome). PrintsSeal o before after) (sym is) (reply.Refused r, refl, it)
