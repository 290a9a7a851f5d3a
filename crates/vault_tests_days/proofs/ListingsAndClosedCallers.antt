-- Listing, closed callers, retention and hold read.
use Rattle.std.specs.Prelude.{◌≡◌, refl, List, [], ◌∷◌, true, false, Some, None, codes}
use Rattle.sha2.specs.Sha256.{sha256}
use Rattle.vault_base.specs.declared.refusal.Refusal.TheVariants as refusal
use Rattle.vault_base.specs.declared.refusal.Reason.TheVariants as reason
use Rattle.vault_core_model.specs.declared.records.Author.TheVariants as author
use Rattle.vault_core_model.specs.declared.command.Timed.{Timed}
use Rattle.vault_core_model.specs.declared.reply.Answer.TheVariants as answer
use Rattle.vault_core_model.specs.declared.reply.Reply.TheVariants.{Done, Refused}
use Rattle.vault_core_outcome.specs.Outcome.{replies_to}
use Rattle.vault_tests_days.specs.Script.{by, ann, gov, docs, admin_name, start, governance, put, head, delete, delete_version, get_retention, get_hold, list_versions, close_caller}

abbrev listing-script : List Timed
listing-script =
    by ann 1705314600 (put (codes "a") (codes "hello") None None) ∷
    by ann 1705314601 (delete (codes "a")) ∷
    by ann 1705314601 (list_versions [] None 1000) ∷
    by ann 1705314601 (list_versions [] None 1) ∷
    by ann 1705314601 (list_versions (codes "a") (Some 2) 1000) ∷
    by ann 1705314601 (list_versions [] None 0) ∷ []

listing : replies_to start listing-script ≡
    Done (answer.Admitted 1) ∷
    Done (answer.Marked 2) ∷
    Done (answer.Versions (record { entries = (record { entry = record { id = 2; bucket = docs; key = (codes "a"); marker = true; size = 0; digest = None; admitted = 1705314601; by = author.Caller ann; removal = None }; current = true }) ∷ (record { entry = record { id = 1; bucket = docs; key = (codes "a"); marker = false; size = 5; digest = Some (sha256 (codes "hello")); admitted = 1705314600; by = author.Caller ann; removal = None }; current = false }) ∷ []; more = false })) ∷
    Done (answer.Versions (record { entries = (record { entry = record { id = 2; bucket = docs; key = (codes "a"); marker = true; size = 0; digest = None; admitted = 1705314601; by = author.Caller ann; removal = None }; current = true }) ∷ []; more = true })) ∷
    Done (answer.Versions (record { entries = (record { entry = record { id = 1; bucket = docs; key = (codes "a"); marker = false; size = 5; digest = Some (sha256 (codes "hello")); admitted = 1705314600; by = author.Caller ann; removal = None }; current = false }) ∷ []; more = false })) ∷
    Refused refusal.InvalidArgument ∷ []
listing = refl

abbrev closed-script : List Timed
closed-script =
    by admin_name 1705314600 (close_caller gov) ∷
    by gov 1705314600 (delete_version (codes "a") 1 false) ∷
    by admin_name 1705314600 (close_caller gov) ∷ []

closed : replies_to start closed-script ≡
    Done answer.Nothing ∷
    Refused (refusal.AccessDenied reason.UnknownCaller) ∷
    Refused refusal.InvalidArgument ∷ []
closed = refl

abbrev until-script : List Timed
until-script =
    by ann 1705314600 (put (codes "a") (codes "x") (governance 1705314600) None) ∷ []

until : replies_to start until-script ≡
    Refused refusal.InvalidArgument ∷ []
until = refl

abbrev heads-script : List Timed
heads-script =
    by ann 1705314600 (put (codes "a") (codes "hello") (governance 1893456000) None) ∷
    by ann 1705314600 (head (codes "a") None) ∷
    by ann 1705314600 (get_retention (codes "a") None) ∷
    by ann 1705314600 (get_hold (codes "a") None) ∷ []

heads : replies_to start heads-script ≡
    Done (answer.Admitted 1) ∷
    Done (answer.Head (record { entry = record { id = 1; bucket = docs; key = (codes "a"); marker = false; size = 5; digest = Some (sha256 (codes "hello")); admitted = 1705314600; by = author.Caller ann; removal = None }; lock = record { retention = (governance 1893456000); hold = false } })) ∷
    Done (answer.Retention (governance 1893456000)) ∷
    Done (answer.Hold false) ∷ []
heads = refl
