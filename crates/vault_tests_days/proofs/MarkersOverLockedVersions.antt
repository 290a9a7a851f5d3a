-- A marker above a locked version, and the version current again.
use Rattle.std.specs.Prelude.{◌≡◌, refl, List, [], ◌∷◌, true, false, Some, None, codes}
use Rattle.sha2.specs.Sha256.{sha256}
use Rattle.vault_base.specs.declared.content.Content.TheVariants.{Inside}
use Rattle.vault_base.specs.declared.refusal.Refusal.TheVariants as refusal
use Rattle.vault_lock.specs.declared.lock.Permit.TheVariants as permit
use Rattle.vault_core_model.specs.declared.records.Author.TheVariants as author
use Rattle.vault_core_model.specs.declared.command.Timed.{Timed}
use Rattle.vault_core_model.specs.declared.reply.Answer.TheVariants as answer
use Rattle.vault_core_model.specs.declared.reply.Reply.TheVariants.{Done, Refused}
use Rattle.vault_core_outcome.specs.Outcome.{replies_to}
use Rattle.vault_tests_days.specs.Script.{by, ann, docs, start, compliance, put, get, delete, delete_version}

abbrev markers-script : List Timed
markers-script =
    by ann 1705314600 (put (codes "a") (codes "x") (compliance 1893456000) None) ∷
    by ann 1705314601 (delete (codes "a")) ∷
    by ann 1705314601 (get (codes "a") None) ∷
    by ann 1705314601 (get (codes "a") (Some 2)) ∷
    by ann 1705314601 (delete_version (codes "a") 2 false) ∷
    by ann 1705314601 (get (codes "a") None) ∷ []

markers : replies_to start markers-script ≡
    Done (answer.Admitted 1) ∷
    Done (answer.Marked 2) ∷
    Refused (refusal.NoSuchKey true) ∷
    Refused refusal.MethodNotAllowed ∷
    Done (answer.Removed (record { id = 2; marker = true; permit = permit.Free })) ∷
    Done (answer.Version (record { entry = record { id = 1; bucket = docs; key = (codes "a"); marker = false; size = 1; digest = Some (sha256 (codes "x")); admitted = 1705314600; by = author.Caller ann; removal = None }; lock = record { retention = (compliance 1893456000); hold = false } }) (Inside (codes "x"))) ∷ []
markers = refl
