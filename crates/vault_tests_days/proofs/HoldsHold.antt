-- A bypass doesn't lift a hold.
use Rattle.std.specs.Prelude.{◌≡◌, refl, List, [], ◌∷◌, true, false, Some, None, codes}
use Rattle.vault_base.specs.declared.refusal.Refusal.TheVariants as refusal
use Rattle.vault_base.specs.declared.refusal.Reason.TheVariants as reason
use Rattle.vault_lock.specs.declared.lock.Permit.TheVariants as permit
use Rattle.vault_core_model.specs.declared.command.Timed.{Timed}
use Rattle.vault_core_model.specs.declared.reply.Answer.TheVariants as answer
use Rattle.vault_core_model.specs.declared.reply.Reply.TheVariants.{Done, Refused}
use Rattle.vault_core_outcome.specs.Outcome.{replies_to}
use Rattle.vault_tests_days.specs.Script.{by, ann, gov, start, governance, put, delete_version, set_hold}

abbrev until_lifted-script : List Timed
until_lifted-script =
    by ann 1705314600 (put (codes "a") (codes "x") (governance 1893456000) (Some true)) ∷
    by gov 1705314601 (delete_version (codes "a") 1 true) ∷
    by ann 1705314601 (set_hold (codes "a") None false) ∷
    by gov 1705314601 (delete_version (codes "a") 1 true) ∷ []

until_lifted : replies_to start until_lifted-script ≡
    Done (answer.Admitted 1) ∷
    Refused (refusal.AccessDenied reason.LegalHold) ∷
    Done answer.Nothing ∷
    Done (answer.Removed (record { id = 1; marker = false; permit = permit.Bypass })) ∷ []
until_lifted = refl
