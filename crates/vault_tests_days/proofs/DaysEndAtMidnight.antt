-- Days are rounded to the next midnight; an exact midnight stays.
use Rattle.std.specs.Prelude.{◌≡◌, refl, List, [], ◌∷◌, true, false, Some, None, codes}
use Rattle.vault_core_model.specs.declared.command.Timed.{Timed}
use Rattle.vault_core_model.specs.declared.reply.Answer.TheVariants as answer
use Rattle.vault_core_model.specs.declared.reply.Reply.TheVariants.{Done}
use Rattle.vault_core_outcome.specs.Outcome.{replies_to}
use Rattle.vault_tests_days.specs.Script.{by, ann, start, put, set_rules, run}

abbrev from_noon-script : List Timed
from_noon-script =
    by ann 1388534400 (set_rules ((record { id = (codes "r1"); prefix = []; enabled = true; days = Some 3; lone_markers = false; noncurrent = None; larger = None; smaller = None }) ∷ [])) ∷
    by ann 1389781800 (put (codes "a") (codes "x") None None) ∷
    by ann 1390089599 (run) ∷
    by ann 1390089600 (run) ∷ []

from_noon : replies_to start from_noon-script ≡
    Done answer.Nothing ∷
    Done (answer.Admitted 1) ∷
    Done (answer.Ran (record { changes = 0; marked = 0; removed = 0; lone = 0 })) ∷
    Done (answer.Ran (record { changes = 1; marked = 1; removed = 0; lone = 0 })) ∷ []
from_noon = refl

abbrev from_midnight-script : List Timed
from_midnight-script =
    by ann 1388534400 (set_rules ((record { id = (codes "r1"); prefix = []; enabled = true; days = Some 3; lone_markers = false; noncurrent = None; larger = None; smaller = None }) ∷ [])) ∷
    by ann 1389744000 (put (codes "a") (codes "x") None None) ∷
    by ann 1390003200 (run) ∷ []

from_midnight : replies_to start from_midnight-script ≡
    Done answer.Nothing ∷
    Done (answer.Admitted 1) ∷
    Done (answer.Ran (record { changes = 1; marked = 1; removed = 0; lone = 0 })) ∷ []
from_midnight = refl
