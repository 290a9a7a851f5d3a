-- A run marks and then removes what became noncurrent before.
use Rattle.std.specs.Prelude.{◌≡◌, refl, List, [], ◌∷◌, true, false, Some, None, codes}
use Rattle.sha2.specs.Sha256.{sha256}
use Rattle.vault_core_model.specs.declared.records.Author.TheVariants as author
use Rattle.vault_core_model.specs.declared.command.Timed.{Timed}
use Rattle.vault_core_model.specs.declared.reply.Answer.TheVariants as answer
use Rattle.vault_core_model.specs.declared.reply.Reply.TheVariants.{Done}
use Rattle.vault_core_outcome.specs.Outcome.{replies_to}
use Rattle.vault_tests_days.specs.Script.{by, ann, docs, start, put, set_rules, run, list_versions}

abbrev in_one_run-script : List Timed
in_one_run-script =
    by ann 1388534400 (set_rules ((record { id = (codes "r1"); prefix = []; enabled = true; days = Some 1; lone_markers = false; noncurrent = Some (record { days = 1; newer = Some 1 }); larger = None; smaller = None }) ∷ [])) ∷
    by ann 1709280000 (put (codes "k") (codes "x") None None) ∷
    by ann 1709283600 (put (codes "k") (codes "y") None None) ∷
    by ann 1709424000 (run) ∷
    by ann 1709424000 (run) ∷
    by ann 1709424000 (list_versions [] None 1000) ∷ []

in_one_run : replies_to start in_one_run-script ≡
    Done answer.Nothing ∷
    Done (answer.Admitted 1) ∷
    Done (answer.Admitted 2) ∷
    Done (answer.Ran (record { changes = 2; marked = 1; removed = 1; lone = 0 })) ∷
    Done (answer.Ran (record { changes = 0; marked = 0; removed = 0; lone = 0 })) ∷
    Done (answer.Versions (record { entries = (record { entry = record { id = 3; bucket = docs; key = (codes "k"); marker = true; size = 0; digest = None; admitted = 1709424000; by = author.Rule (codes "r1"); removal = None }; current = true }) ∷ (record { entry = record { id = 2; bucket = docs; key = (codes "k"); marker = false; size = 1; digest = Some (sha256 (codes "y")); admitted = 1709283600; by = author.Caller ann; removal = None }; current = false }) ∷ []; more = false })) ∷ []
in_one_run = refl
