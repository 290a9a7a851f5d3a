-- Byte-days are counted in whole days.
use Rattle.std.specs.Prelude.{◌≡◌, refl, List, [], ◌∷◌, false, None, codes}
use Rattle.vault_lock.specs.declared.lock.Permit.TheVariants as permit
use Rattle.vault_core_model.specs.declared.command.Timed.{Timed}
use Rattle.vault_core_model.specs.declared.reply.Answer.TheVariants as answer
use Rattle.vault_core_model.specs.declared.reply.Reply.TheVariants.{Done}
use Rattle.vault_core_outcome.specs.Outcome.{replies_to}
use Rattle.vault_tests_days.specs.Script.{by, ann, records, admin_name, start, put, delete_version, report}

abbrev next_day-script : List Timed
next_day-script =
    by ann 1705363199 (put (codes "a") (codes "aaaaaaaaaaaaaaaaaaaaaaaaaaaaaaaaaaaaaaaaaaaaaaaaaaaaaaaaaaaaaaaaaaaaaaaaaaaaaaaaaaaaaaaaaaaaaaaaaaaa") None None) ∷
    by ann 1705363200 (delete_version (codes "a") 1 false) ∷
    by ann 1705363200 (report) ∷ []

next_day : replies_to start next_day-script ≡
    Done (answer.Admitted 1) ∷
    Done (answer.Removed (record { id = 1; marker = false; permit = permit.Free })) ∷
    Done (answer.Report (record { dept = records; at = 1705363200; admitted = 100; received = 0; held = 0; removed = 100; handed = 0; byte_days = 100 })) ∷ []
next_day = refl

abbrev same_day-script : List Timed
same_day-script =
    by ann 1705276800 (put (codes "a") (codes "aaaaaaaaaaaaaaaaaaaaaaaaaaaaaaaaaaaaaaaaaaaaaaaaaaaaaaaaaaaaaaaaaaaaaaaaaaaaaaaaaaaaaaaaaaaaaaaaaaaa") None None) ∷
    by ann 1705363199 (delete_version (codes "a") 1 false) ∷
    by ann 1705363199 (report) ∷ []

same_day : replies_to start same_day-script ≡
    Done (answer.Admitted 1) ∷
    Done (answer.Removed (record { id = 1; marker = false; permit = permit.Free })) ∷
    Done (answer.Report (record { dept = records; at = 1705363199; admitted = 100; received = 0; held = 0; removed = 100; handed = 0; byte_days = 0 })) ∷ []
same_day = refl

abbrev nothing_there-script : List Timed
nothing_there-script =
    by admin_name 1388534400 (report) ∷ []

nothing_there : replies_to start nothing_there-script ≡
    Done (answer.Report (record { dept = records; at = 1388534400; admitted = 0; received = 0; held = 0; removed = 0; handed = 0; byte_days = 0 })) ∷ []
nothing_there = refl
