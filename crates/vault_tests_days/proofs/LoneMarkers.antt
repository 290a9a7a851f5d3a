-- Lone markers.
use Rattle.std.specs.Prelude.{◌≡◌, refl, List, [], ◌∷◌, true, false, Some, None, codes}
use Rattle.vault_lock.specs.declared.lock.Permit.TheVariants as permit
use Rattle.vault_core_model.specs.declared.command.Timed.{Timed}
use Rattle.vault_core_model.specs.declared.reply.Answer.TheVariants as answer
use Rattle.vault_core_model.specs.declared.reply.Reply.TheVariants.{Done}
use Rattle.vault_core_outcome.specs.Outcome.{replies_to}
use Rattle.vault_tests_days.specs.Script.{by, ann, start, put, delete, delete_version, set_rules, run}

abbrev at_once-script : List Timed
at_once-script =
    by ann 1388534400 (set_rules ((record { id = (codes "r1"); prefix = []; enabled = true; days = None; lone_markers = true; noncurrent = None; larger = None; smaller = None }) ∷ [])) ∷
    by ann 1709280000 (put (codes "k") [] None None) ∷
    by ann 1709280001 (delete (codes "k")) ∷
    by ann 1709280002 (delete_version (codes "k") 1 false) ∷
    by ann 1709280003 (run) ∷ []

at_once : replies_to start at_once-script ≡
    Done answer.Nothing ∷
    Done (answer.Admitted 1) ∷
    Done (answer.Marked 2) ∷
    Done (answer.Removed (record { id = 1; marker = false; permit = permit.Free })) ∷
    Done (answer.Ran (record { changes = 1; marked = 0; removed = 0; lone = 1 })) ∷ []
at_once = refl

abbrev after_days-script : List Timed
after_days-script =
    by ann 1388534400 (set_rules ((record { id = (codes "r1"); prefix = []; enabled = true; days = Some 1; lone_markers = false; noncurrent = None; larger = None; smaller = None }) ∷ [])) ∷
    by ann 1709280000 (delete (codes "k")) ∷
    by ann 1709423999 (run) ∷
    by ann 1709424000 (run) ∷ []

after_days : replies_to start after_days-script ≡
    Done answer.Nothing ∷
    Done (answer.Marked 1) ∷
    Done (answer.Ran (record { changes = 0; marked = 0; removed = 0; lone = 0 })) ∷
    Done (answer.Ran (record { changes = 1; marked = 0; removed = 0; lone = 1 })) ∷ []
after_days = refl

abbrev not_above_a_hold-script : List Timed
not_above_a_hold-script =
    by ann 1388534400 (set_rules ((record { id = (codes "r1"); prefix = []; enabled = true; days = None; lone_markers = true; noncurrent = Some (record { days = 1; newer = None }); larger = None; smaller = None }) ∷ [])) ∷
    by ann 1709280000 (put (codes "k") (codes "x") None (Some true)) ∷
    by ann 1709280001 (delete (codes "k")) ∷
    by ann 1740816001 (run) ∷ []

not_above_a_hold : replies_to start not_above_a_hold-script ≡
    Done answer.Nothing ∷
    Done (answer.Admitted 1) ∷
    Done (answer.Marked 2) ∷
    Done (answer.Ran (record { changes = 0; marked = 0; removed = 0; lone = 0 })) ∷ []
not_above_a_hold = refl
