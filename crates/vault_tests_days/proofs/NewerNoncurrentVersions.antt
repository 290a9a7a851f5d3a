-- Noncurrent versions go by days and by rank; a hold keeps one.
use Rattle.std.specs.Prelude.{◌≡◌, refl, List, [], ◌∷◌, true, false, Some, None, codes}
use Rattle.sha2.specs.Sha256.{sha256}
use Rattle.vault_core_model.specs.declared.records.Author.TheVariants as author
use Rattle.vault_core_model.specs.declared.records.Cause.TheVariants as cause
use Rattle.vault_core_model.specs.declared.command.Timed.{Timed}
use Rattle.vault_core_model.specs.declared.reply.Answer.TheVariants as answer
use Rattle.vault_core_model.specs.declared.reply.Reply.TheVariants.{Done}
use Rattle.vault_core_outcome.specs.Outcome.{replies_to, vault_after}
use Rattle.vault_core_model.specs.Reads.{removed_entries}
use Rattle.vault_tests_days.specs.Script.{by, ann, docs, start, put, set_rules, run}

abbrev ranks-script : List Timed
ranks-script =
    by ann 1388534400 (set_rules ((record { id = (codes "r1"); prefix = []; enabled = true; days = None; lone_markers = false; noncurrent = Some (record { days = 1; newer = Some 2 }); larger = None; smaller = None }) ∷ [])) ∷
    by ann 1709280000 (put (codes "k") (codes "x") None (Some true)) ∷
    by ann 1709283600 (put (codes "k") (codes "x") None None) ∷
    by ann 1709287200 (put (codes "k") (codes "x") None None) ∷
    by ann 1709290800 (put (codes "k") (codes "x") None None) ∷
    by ann 1709294400 (put (codes "k") (codes "x") None None) ∷
    by ann 1709423999 (run) ∷
    by ann 1709424000 (run) ∷
    by ann 1709424000 (run) ∷ []

ranks : replies_to start ranks-script ≡
    Done answer.Nothing ∷
    Done (answer.Admitted 1) ∷
    Done (answer.Admitted 2) ∷
    Done (answer.Admitted 3) ∷
    Done (answer.Admitted 4) ∷
    Done (answer.Admitted 5) ∷
    Done (answer.Ran (record { changes = 0; marked = 0; removed = 0; lone = 0 })) ∷
    Done (answer.Ran (record { changes = 1; marked = 0; removed = 1; lone = 0 })) ∷
    Done (answer.Ran (record { changes = 0; marked = 0; removed = 0; lone = 0 })) ∷ []
ranks = refl

ranks-removed : removed_entries (vault_after start ranks-script) ≡ (record { id = 2; bucket = docs; key = (codes "k"); marker = false; size = 1; digest = Some (sha256 (codes "x")); admitted = 1709283600; by = author.Caller ann; removal = Some (record { at = 1709424000; cause = cause.Rule (codes "r1") }) }) ∷ []
ranks-removed = refl
