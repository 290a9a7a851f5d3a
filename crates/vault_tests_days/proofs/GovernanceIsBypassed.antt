-- Governance is lifted by a caller who may bypass and asks for it; after its end no bypass is recorded.
use Rattle.std.specs.Prelude.{◌≡◌, refl, List, [], ◌∷◌, true, false, None, codes}
use Rattle.vault_base.specs.declared.refusal.Refusal.TheVariants as refusal
use Rattle.vault_base.specs.declared.refusal.Reason.TheVariants as reason
use Rattle.vault_lock.specs.declared.lock.Permit.TheVariants as permit
use Rattle.vault_core_model.specs.declared.command.Timed.{Timed}
use Rattle.vault_core_model.specs.declared.reply.Answer.TheVariants as answer
use Rattle.vault_core_model.specs.declared.reply.Reply.TheVariants.{Done, Refused}
use Rattle.vault_core_outcome.specs.Outcome.{replies_to}
use Rattle.vault_tests_days.specs.Script.{by, ann, gov, start, governance, put, delete_version}

abbrev by_right-script : List Timed
by_right-script =
    by ann 1705314600 (put (codes "a") (codes "x") (governance 1893456000) None) ∷
    by ann 1705314600 (put (codes "a") (codes "y") (governance 1893456000) None) ∷
    by ann 1705314601 (delete_version (codes "a") 1 false) ∷
    by ann 1705314601 (delete_version (codes "a") 1 true) ∷
    by gov 1705314601 (delete_version (codes "a") 1 true) ∷
    by gov 1893456000 (delete_version (codes "a") 2 true) ∷ []

by_right : replies_to start by_right-script ≡
    Done (answer.Admitted 1) ∷
    Done (answer.Admitted 2) ∷
    Refused (refusal.AccessDenied reason.RetentionGovernance) ∷
    Refused (refusal.AccessDenied reason.RetentionGovernance) ∷
    Done (answer.Removed (record { id = 1; marker = false; permit = permit.Bypass })) ∷
    Done (answer.Removed (record { id = 2; marker = false; permit = permit.Free })) ∷ []
by_right = refl
