-- A version in compliance mode can't be removed before its end.
use Rattle.std.specs.Prelude.{◌≡◌, refl, List, [], ◌∷◌, false, None, codes}
use Rattle.vault_base.specs.declared.refusal.Refusal.TheVariants as refusal
use Rattle.vault_base.specs.declared.refusal.Reason.TheVariants as reason
use Rattle.vault_lock.specs.declared.lock.Permit.TheVariants as permit
use Rattle.vault_core_model.specs.declared.command.Timed.{Timed}
use Rattle.vault_core_model.specs.declared.reply.Answer.TheVariants as answer
use Rattle.vault_core_model.specs.declared.reply.Reply.TheVariants.{Done, Refused}
use Rattle.vault_core_outcome.specs.Outcome.{replies_to}
use Rattle.vault_tests_days.specs.Script.{by, ann, start, compliance, put, delete_version}

abbrev to_its_end-script : List Timed
to_its_end-script =
    by ann 1705314600 (put (codes "a") (codes "hello") (compliance 1893456000) None) ∷
    by ann 1893455999 (delete_version (codes "a") 1 false) ∷
    by ann 1893456000 (delete_version (codes "a") 1 false) ∷ []

to_its_end : replies_to start to_its_end-script ≡
    Done (answer.Admitted 1) ∷
    Refused (refusal.AccessDenied reason.RetentionCompliance) ∷
    Done (answer.Removed (record { id = 1; marker = false; permit = permit.Free })) ∷ []
to_its_end = refl
