-- A bucket moves: from then on its held content is another department's, and each department is charged for its own days.
use Rattle.std.specs.Prelude.{◌≡◌, refl, ℕ, List, [], ◌∷◌, true, false, Some, None, codes}
use Rattle.sha2.specs.Sha256.{sha256}
use Rattle.vault_base.specs.declared.refusal.Refusal.TheVariants as refusal
use Rattle.vault_base.specs.declared.refusal.Reason.TheVariants as reason
use Rattle.vault_base.specs.declared.right.Right.TheVariants as right
use Rattle.vault_lock.specs.declared.lock.Permit.TheVariants as permit
use Rattle.vault_core_model.specs.declared.records.Author.TheVariants as author
use Rattle.vault_core_model.specs.declared.records.Cause.TheVariants as cause
use Rattle.vault_core_model.specs.declared.command.Command.{Command}
use Rattle.vault_core_model.specs.declared.command.Command.TheVariants as command
use Rattle.vault_core_model.specs.declared.command.Timed.{Timed}
use Rattle.vault_core_model.specs.declared.reply.Answer.TheVariants as answer
use Rattle.vault_core_model.specs.declared.reply.Reply.TheVariants.{Done, Refused}
use Rattle.vault_core_model.specs.Rights.{no_rights}
use Rattle.vault_core_model.specs.Vault.{Vault}
use Rattle.vault_core_outcome.specs.Outcome.{replies_to, vault_after}
use Rattle.vault_tests_days.specs.Script.{by, ann, docs, records, admin_name, start, put, get, delete_version, report, certificate, move_bucket}

abbrev court : List ℕ
court = codes "court"

abbrev cid : List ℕ
cid = codes "cid"

-- a second department, with a caller
abbrev two_departments : Vault
two_departments = vault_after start (
    by admin_name 1388534400 (command.AddDept (record { dept = court })) ∷
    by admin_name 1388534400 (command.AddCaller (record { caller = cid; dept = Some court; rights = record no_rights { get = true; delete_version = true; report = true } })) ∷ [])

abbrev court_report : Command
court_report = command.Report (record { dept = court })

-- 100 bytes at 2024-01-15T10:30:00Z; a move at 2024-01-17T00:00:00Z; reports and the removal at 2024-01-20T00:00:00Z
abbrev days_are_shared-script : List Timed
days_are_shared-script =
    by ann 1705314600 (put (codes "a") (codes "aaaaaaaaaaaaaaaaaaaaaaaaaaaaaaaaaaaaaaaaaaaaaaaaaaaaaaaaaaaaaaaaaaaaaaaaaaaaaaaaaaaaaaaaaaaaaaaaaaaa") None None) ∷
    by admin_name 1705449600 (move_bucket court) ∷
    by ann 1705449600 (get (codes "a") None) ∷
    by admin_name 1705708800 (report) ∷
    by admin_name 1705708800 (court_report) ∷
    by cid 1705708800 (delete_version (codes "a") 1 false) ∷
    by cid 1705708800 (certificate 1) ∷ []

days_are_shared : replies_to two_departments days_are_shared-script ≡
    Done (answer.Admitted 1) ∷
    Done (answer.Moved 100) ∷
    Refused (refusal.AccessDenied reason.Department) ∷
    Done (answer.Report (record { dept = records; at = 1705708800; admitted = 100; received = 0; held = 0; removed = 0; handed = 100; byte_days = 200 })) ∷
    Done (answer.Report (record { dept = court; at = 1705708800; admitted = 0; received = 100; held = 100; removed = 0; handed = 0; byte_days = 300 })) ∷
    Done (answer.Removed (record { id = 1; marker = false; permit = permit.Free })) ∷
    Done (answer.Certificate (record { id = 1; bucket = docs; key = codes "a"; marker = false; size = 100; digest = Some (sha256 (codes "aaaaaaaaaaaaaaaaaaaaaaaaaaaaaaaaaaaaaaaaaaaaaaaaaaaaaaaaaaaaaaaaaaaaaaaaaaaaaaaaaaaaaaaaaaaaaaaaaaaa")); admitted = 1705314600; by = author.Caller ann; removal = Some (record { at = 1705708800; cause = cause.Request cid }) })
    (record { dept = records; from = 1705314600; number = 0 } ∷ record { dept = court; from = 1705449600; number = 1 } ∷ [])) ∷ []
days_are_shared = refl

-- what was removed before stays where it was
abbrev removed_stays-script : List Timed
removed_stays-script =
    by ann 1705314600 (put (codes "p") (codes "aaaaaaaaaa") None None) ∷
    by ann 1705314600 (put (codes "q") (codes "aaaaaaaaaa") None None) ∷
    by ann 1705449600 (delete_version (codes "p") 1 false) ∷
    by admin_name 1705449600 (move_bucket court) ∷
    by admin_name 1705449600 (report) ∷
    by admin_name 1705449600 (court_report) ∷ []

removed_stays : replies_to two_departments removed_stays-script ≡
    Done (answer.Admitted 1) ∷
    Done (answer.Admitted 2) ∷
    Done (answer.Removed (record { id = 1; marker = false; permit = permit.Free })) ∷
    Done (answer.Moved 10) ∷
    Done (answer.Report (record { dept = records; at = 1705449600; admitted = 20; received = 0; held = 0; removed = 10; handed = 10; byte_days = 40 })) ∷
    Done (answer.Report (record { dept = court; at = 1705449600; admitted = 0; received = 10; held = 10; removed = 0; handed = 0; byte_days = 0 })) ∷ []
removed_stays = refl

-- a bucket comes back: its first department has received what it handed over
abbrev comes_back-script : List Timed
comes_back-script =
    by ann 1705314600 (put (codes "q") (codes "aaaaaaaaaa") None None) ∷
    by admin_name 1705449600 (move_bucket court) ∷
    by admin_name 1705708800 (move_bucket records) ∷
    by admin_name 1705795200 (report) ∷
    by admin_name 1705795200 (court_report) ∷ []

comes_back : replies_to two_departments comes_back-script ≡
    Done (answer.Admitted 1) ∷
    Done (answer.Moved 10) ∷
    Done (answer.Moved 10) ∷
    Done (answer.Report (record { dept = records; at = 1705795200; admitted = 10; received = 10; held = 10; removed = 0; handed = 10; byte_days = 30 })) ∷
    Done (answer.Report (record { dept = court; at = 1705795200; admitted = 0; received = 10; held = 0; removed = 0; handed = 10; byte_days = 30 })) ∷ []
comes_back = refl

-- the bucket's own department, a caller who doesn't administer, a department and a bucket that aren't there
abbrev refused-script : List Timed
refused-script =
    by admin_name 1705449600 (move_bucket records) ∷
    by ann 1705449600 (move_bucket court) ∷
    by admin_name 1705449600 (move_bucket (codes "nobody")) ∷
    by admin_name 1705449600 (command.MoveBucket (record { bucket = codes "none"; dept = court })) ∷ []

refused : replies_to two_departments refused-script ≡
    Refused refusal.InvalidArgument ∷
    Refused (refusal.AccessDenied (reason.Right right.Admin)) ∷
    Refused refusal.InvalidArgument ∷
    Refused refusal.NoSuchBucket ∷ []
refused = refl

refused-changes_nothing : vault_after two_departments refused-script ≡ two_departments
refused-changes_nothing = refl

-- the last number is given to a move, and no other is left; an empty bucket moves too
abbrev last_number-script : List Timed
last_number-script =
    by admin_name 1705449600 (move_bucket court) ∷
    by admin_name 1705449600 (move_bucket records) ∷ []

last_number : replies_to (record two_departments { moves = 999999999 }) last_number-script ≡
    Done (answer.Moved 0) ∷
    Refused refusal.VaultFull ∷ []
last_number = refl
