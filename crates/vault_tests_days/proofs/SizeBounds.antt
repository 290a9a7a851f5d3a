-- Rules with bounds of sizes: both bounds are excluded, a marker's size is 0, and ranks count entries of every size.
use Rattle.std.specs.Prelude.{◌≡◌, refl, List, [], ◌∷◌, true, false, Some, None, codes}
use Rattle.sha2.specs.Sha256.{sha256}
use Rattle.vault_lock.specs.declared.lock.Permit.TheVariants as permit
use Rattle.vault_core_model.specs.declared.records.Author.TheVariants as author
use Rattle.vault_core_model.specs.declared.records.Cause.TheVariants as cause
use Rattle.vault_core_model.specs.declared.command.Timed.{Timed}
use Rattle.vault_core_model.specs.declared.reply.Answer.TheVariants as answer
use Rattle.vault_core_model.specs.declared.reply.Reply.TheVariants.{Done}
use Rattle.vault_core_model.specs.Reads.{removed_entries}
use Rattle.vault_core_outcome.specs.Outcome.{replies_to, vault_after}
use Rattle.vault_tests_days.specs.Script.{by, ann, docs, start, put, delete, delete_version, set_rules, run}

abbrev above_four-script : List Timed
above_four-script =
    by ann 1388534400 (set_rules ((record { id = (codes "r1"); prefix = []; enabled = true; days = None; lone_markers = false; noncurrent = Some (record { days = 1; newer = Some 1 }); larger = Some 4; smaller = None }) ∷ [])) ∷
    by ann 1709280000 (put (codes "k") (codes "hello") None None) ∷
    by ann 1709283600 (put (codes "k") (codes "ab") None None) ∷
    by ann 1709287200 (put (codes "k") (codes "hello") None None) ∷
    by ann 1709290800 (put (codes "k") (codes "x") None None) ∷
    by ann 1709424000 (run) ∷ []

above_four : replies_to start above_four-script ≡
    Done answer.Nothing ∷
    Done (answer.Admitted 1) ∷
    Done (answer.Admitted 2) ∷
    Done (answer.Admitted 3) ∷
    Done (answer.Admitted 4) ∷
    Done (answer.Ran (record { changes = 1; marked = 0; removed = 1; lone = 0 })) ∷ []
above_four = refl

above_four-removed : removed_entries (vault_after start above_four-script) ≡ (record { id = 1; bucket = docs; key = (codes "k"); marker = false; size = 5; digest = Some (sha256 (codes "hello")); admitted = 1709280000; by = author.Caller ann; removal = Some (record { at = 1709424000; cause = cause.Rule (codes "r1") }) }) ∷ []
above_four-removed = refl

abbrev above_five-script : List Timed
above_five-script =
    by ann 1388534400 (set_rules ((record { id = (codes "r1"); prefix = []; enabled = true; days = None; lone_markers = false; noncurrent = Some (record { days = 1; newer = Some 1 }); larger = Some 5; smaller = None }) ∷ [])) ∷
    by ann 1709280000 (put (codes "k") (codes "hello") None None) ∷
    by ann 1709283600 (put (codes "k") (codes "ab") None None) ∷
    by ann 1709287200 (put (codes "k") (codes "hello") None None) ∷
    by ann 1709290800 (put (codes "k") (codes "x") None None) ∷
    by ann 1709424000 (run) ∷ []

above_five : replies_to start above_five-script ≡
    Done answer.Nothing ∷
    Done (answer.Admitted 1) ∷
    Done (answer.Admitted 2) ∷
    Done (answer.Admitted 3) ∷
    Done (answer.Admitted 4) ∷
    Done (answer.Ran (record { changes = 0; marked = 0; removed = 0; lone = 0 })) ∷ []
above_five = refl

abbrev marker_of_no_size-script : List Timed
marker_of_no_size-script =
    by ann 1388534400 (set_rules ((record { id = (codes "r1"); prefix = []; enabled = true; days = None; lone_markers = true; noncurrent = None; larger = Some 0; smaller = None }) ∷ [])) ∷
    by ann 1709280000 (put (codes "k") [] None None) ∷
    by ann 1709280001 (delete (codes "k")) ∷
    by ann 1709280002 (delete_version (codes "k") 1 false) ∷
    by ann 1709280003 (run) ∷ []

marker_of_no_size : replies_to start marker_of_no_size-script ≡
    Done answer.Nothing ∷
    Done (answer.Admitted 1) ∷
    Done (answer.Marked 2) ∷
    Done (answer.Removed (record { id = 1; marker = false; permit = permit.Free })) ∷
    Done (answer.Ran (record { changes = 0; marked = 0; removed = 0; lone = 0 })) ∷ []
marker_of_no_size = refl

abbrev marker_below_one-script : List Timed
marker_below_one-script =
    by ann 1388534400 (set_rules ((record { id = (codes "r1"); prefix = []; enabled = true; days = None; lone_markers = true; noncurrent = None; larger = None; smaller = Some 1 }) ∷ [])) ∷
    by ann 1709280000 (put (codes "k") [] None None) ∷
    by ann 1709280001 (delete (codes "k")) ∷
    by ann 1709280002 (delete_version (codes "k") 1 false) ∷
    by ann 1709280003 (run) ∷ []

marker_below_one : replies_to start marker_below_one-script ≡
    Done answer.Nothing ∷
    Done (answer.Admitted 1) ∷
    Done (answer.Marked 2) ∷
    Done (answer.Removed (record { id = 1; marker = false; permit = permit.Free })) ∷
    Done (answer.Ran (record { changes = 1; marked = 0; removed = 0; lone = 1 })) ∷ []
marker_below_one = refl
