-- Intake lines: admitted, answered again, in conflict.
use Rattle.std.specs.Prelude.{◌≡◌, refl, List, [], ◌∷◌, true, false, Some, None, codes}
use Rattle.sha2.specs.Sha256.{sha256, digest_bytes, hash_after, compress, rounds, schedule, first_words}
use Rattle.vault_base.specs.declared.refusal.Refusal.TheVariants as refusal
use Rattle.vault_lock.specs.declared.lock.Permit.TheVariants as permit
use Rattle.vault_core_model.specs.declared.command.Timed.{Timed}
use Rattle.vault_core_model.specs.declared.reply.Answer.TheVariants as answer
use Rattle.vault_core_model.specs.declared.reply.Reply.TheVariants.{Done, Refused}
use Rattle.vault_core_outcome.specs.Outcome.{replies_to}
use Rattle.vault_tests_days.specs.Script.{by, ann, records, start, governance, delete_version, report, intake}

abbrev lines-script : List Timed
lines-script =
    by ann 1705314600 (intake 1 (codes "2024/a") (codes "x") None None) ∷
    by ann 1705314600 (intake 2 (codes "2024/b") (codes "y") (governance 1893456000) (Some true)) ∷
    by ann 1705314600 (intake 1 (codes "2024/a") (codes "x") None None) ∷
    by ann 1705314600 (intake 2 (codes "2024/b") (codes "y") (governance 1893456000) (Some true)) ∷
    by ann 1705314600 (intake 1 (codes "2024/a") (codes "xy") None None) ∷
    by ann 1705314600 (intake 2 (codes "2024/b") (codes "y") (governance 1893456000) None) ∷
    by ann 1705314600 (intake 0 (codes "2024/a") (codes "x") None None) ∷
    by ann 1705314600 (delete_version (codes "2024/a") 1 false) ∷
    by ann 1705314600 (intake 1 (codes "2024/a") (codes "x") None None) ∷
    by ann 1705314600 (report) ∷ []

lines : replies_to start lines-script ≡
    Done (answer.TakenIn (record { id = 1; again = false })) ∷
    Done (answer.TakenIn (record { id = 2; again = false })) ∷
    Done (answer.TakenIn (record { id = 1; again = true })) ∷
    Done (answer.TakenIn (record { id = 2; again = true })) ∷
    Refused refusal.IntakeConflict ∷
    Refused refusal.IntakeConflict ∷
    Refused refusal.InvalidArgument ∷
    Done (answer.Removed (record { id = 1; marker = false; permit = permit.Free })) ∷
    Done (answer.TakenIn (record { id = 1; again = true })) ∷
    Done (answer.Report (record { dept = records; at = 1705314600; admitted = 2; received = 0; held = 1; removed = 1; handed = 0; byte_days = 0 })) ∷ []
unfolding sha256 digest_bytes hash_after compress rounds schedule first_words
lines = refl
