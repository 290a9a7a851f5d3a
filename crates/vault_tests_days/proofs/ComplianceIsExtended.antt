-- Compliance can be made longer and not shorter.
use Rattle.std.specs.Prelude.{◌≡◌, refl, List, [], ◌∷◌, true, false, None, codes}
use Rattle.vault_base.specs.declared.refusal.Refusal.TheVariants as refusal
use Rattle.vault_base.specs.declared.refusal.Reason.TheVariants as reason
use Rattle.vault_lock.specs.declared.retention.Mode.TheVariants as mode
use Rattle.vault_core_model.specs.declared.command.Timed.{Timed}
use Rattle.vault_core_model.specs.declared.reply.Answer.TheVariants as answer
use Rattle.vault_core_model.specs.declared.reply.Reply.TheVariants.{Done, Refused}
use Rattle.vault_core_outcome.specs.Outcome.{replies_to}
use Rattle.vault_tests_days.specs.Script.{by, ann, gov, start, compliance, put, set_retention}

abbrev and_never_shortened-script : List Timed
and_never_shortened-script =
    by ann 1705314600 (put (codes "a") (codes "x") (compliance 1893456000) None) ∷
    by ann 1705314601 (set_retention (codes "a") None (record { mode = mode.Compliance; until = 1893456001 }) false) ∷
    by ann 1705314601 (set_retention (codes "a") None (record { mode = mode.Compliance; until = 1893456001 }) false) ∷
    by gov 1705314601 (set_retention (codes "a") None (record { mode = mode.Compliance; until = 1893456000 }) true) ∷ []

and_never_shortened : replies_to start and_never_shortened-script ≡
    Done (answer.Admitted 1) ∷
    Done answer.Nothing ∷
    Done answer.Nothing ∷
    Refused (refusal.AccessDenied reason.RetentionCompliance) ∷ []
and_never_shortened = refl
