-- Default retention: years by the calendar, an explicit one first, and out of range.
use Rattle.std.specs.Prelude.{◌≡◌, refl, List, [], ◌∷◌, Some, None, codes}
use Rattle.vault_base.specs.declared.refusal.Refusal.TheVariants as refusal
use Rattle.vault_lock.specs.declared.retention.Mode.TheVariants as mode
use Rattle.vault_lock.specs.declared.retention.Period.TheVariants as period
use Rattle.vault_core_model.specs.declared.command.Timed.{Timed}
use Rattle.vault_core_model.specs.declared.reply.Answer.TheVariants as answer
use Rattle.vault_core_model.specs.declared.reply.Reply.TheVariants.{Done, Refused}
use Rattle.vault_core_outcome.specs.Outcome.{replies_to}
use Rattle.vault_base_time.specs.Calendar.{date_of}
use Rattle.vault_tests_days.specs.Script.{by, ann, records, start, compliance, governance, put, get_retention, set_default, report}

abbrev by_the_calendar-script : List Timed
by_the_calendar-script =
    by ann 1705314600 (put (codes "o") (codes "x") None None) ∷
    by ann 1705314601 (set_default (Some (record { mode = mode.Governance; period = period.Years 1 }))) ∷
    by ann 1709208000 (put (codes "o") (codes "y") None None) ∷
    by ann 1709208000 (get_retention (codes "o") (Some 2)) ∷
    by ann 1709208000 (get_retention (codes "o") (Some 1)) ∷
    by ann 1709208000 (put (codes "o") (codes "z") (compliance 1709251200) None) ∷
    by ann 1709208000 (get_retention (codes "o") None) ∷
    by ann 1709208000 (set_default (Some (record { mode = mode.Governance; period = period.Years 100 }))) ∷
    by ann 251824464000 (put (codes "o") (codes "w") None None) ∷
    by ann 251824464000 (report) ∷ []

by_the_calendar : replies_to start by_the_calendar-script ≡
    Done (answer.Admitted 1) ∷
    Done answer.Nothing ∷
    Done (answer.Admitted 2) ∷
    Done (answer.Retention (governance 1740744000)) ∷
    Done (answer.Retention None) ∷
    Done (answer.Admitted 3) ∷
    Done (answer.Retention (compliance 1709251200)) ∷
    Done answer.Nothing ∷
    Refused refusal.RetentionOutOfRange ∷
    Done (answer.Report (record { dept = records; at = 251824464000; admitted = 3; received = 0; held = 3; removed = 0; handed = 0; byte_days = 8684604 })) ∷ []
unfolding date_of
by_the_calendar = refl
