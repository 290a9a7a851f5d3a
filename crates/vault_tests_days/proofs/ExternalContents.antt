-- Contents that are kept outside: registered by size and digest where the vault takes them, and refused elsewhere.
use Rattle.std.specs.Prelude.{◌≡◌, ℕ, refl, List, [], ◌∷◌, true, false, Some, None, codes}
use Rattle.sha2.specs.Sha256.{sha256, digest_bytes, hash_after, compress, rounds, schedule, first_words}
use Rattle.vault_base.specs.declared.refusal.Refusal.TheVariants as refusal
use Rattle.vault_lock.specs.declared.lock.Permit.TheVariants as permit
use Rattle.vault_core_model.specs.declared.command.Timed.{Timed}
use Rattle.vault_core_model.specs.declared.records.Author.TheVariants as author
use Rattle.vault_core_model.specs.declared.reply.Answer.TheVariants as answer
use Rattle.vault_core_model.specs.declared.reply.Reply.TheVariants.{Done, Refused}
use Rattle.vault_core_outcome.specs.Outcome.{replies_to}
use Rattle.vault_tests_days.specs.Script.{by, ann, docs, records, start, start_external, outside, put, put_outside, get, delete_version, report, intake, intake_outside}

-- the digest of "x", as it is registered
abbrev digest_of_x : List ℕ
digest_of_x = sha256 (codes "x")

-- the greatest size is 5 GiB; a quota counts it; a document has no bytes to be read, and is removed as any other
abbrev outside-script : List Timed
outside-script =
    by ann 1705314600 (put_outside (codes "a") 5368709120 digest_of_x) ∷
    by ann 1705314600 (put_outside (codes "a") 5368709121 digest_of_x) ∷
    by ann 1705314600 (get (codes "a") None) ∷
    by ann 1705314600 (delete_version (codes "a") 1 false) ∷
    by ann 1705314600 (put (codes "a") (codes "x") None None) ∷
    by ann 1705314600 (report) ∷ []

registered : replies_to start_external outside-script ≡
    Done (answer.Admitted 1) ∷
    Refused refusal.EntityTooLarge ∷
    Done (answer.Version (record { entry = record { id = 1; bucket = docs; key = codes "a"; marker = false; size = 5368709120; digest = Some digest_of_x; admitted = 1705314600; by = author.Caller ann; removal = None }; lock = record { retention = None; hold = false } }) (outside 5368709120 digest_of_x)) ∷
    Done (answer.Removed (record { id = 1; marker = false; permit = permit.Free })) ∷
    Done (answer.Admitted 2) ∷
    Done (answer.Report (record { dept = records; at = 1705314600; admitted = 5368709121; received = 0; held = 1; removed = 5368709120; handed = 0; byte_days = 0 })) ∷ []
registered = refl

-- a vault that keeps its contents itself takes none, whatever the size: that is looked at first
refused : replies_to start (by ann 1705314600 (put_outside (codes "a") 1 digest_of_x) ∷ by ann 1705314600 (put_outside (codes "a") 5368709121 digest_of_x) ∷ []) ≡
    Refused refusal.InvalidArgument ∷
    Refused refusal.InvalidArgument ∷ []
refused = refl

-- a line is the same whether its bytes are inside or outside, and another where its size or digest is another
abbrev lines-script : List Timed
lines-script =
    by ann 1705314600 (intake 1 (codes "a") (codes "x") None None) ∷
    by ann 1705314600 (intake_outside 1 (codes "a") 1 digest_of_x) ∷
    by ann 1705314600 (intake_outside 1 (codes "a") 2 digest_of_x) ∷
    by ann 1705314600 (intake_outside 1 (codes "a") 1 (sha256 (codes "y"))) ∷
    by ann 1705314600 (intake_outside 2 (codes "b") 1 digest_of_x) ∷
    by ann 1705314600 (intake 2 (codes "b") (codes "x") None None) ∷ []

lines : replies_to start_external lines-script ≡
    Done (answer.TakenIn (record { id = 1; again = false })) ∷
    Done (answer.TakenIn (record { id = 1; again = true })) ∷
    Refused refusal.IntakeConflict ∷
    Refused refusal.IntakeConflict ∷
    Done (answer.TakenIn (record { id = 2; again = false })) ∷
    Done (answer.TakenIn (record { id = 2; again = true })) ∷ []
unfolding sha256 digest_bytes hash_after compress rounds schedule first_words
lines = refl
