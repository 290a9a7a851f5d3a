-- Limits that no script fills a vault up to: at each of them all is well, and one above it is refused.
use Rattle.std.proofs.Common.{ap}
use Rattle.std.specs.Prelude.{◌≡◌, refl, ℕ, ◌+◌, nat_le, List, [], ◌∷◌, ◌++◌, length, false, Ok, Err, None, Some, codes, if◌then◌else◌}
use Rattle.vault_base.specs.declared.content.Content.TheVariants.{Inside}
use Rattle.vault_base.specs.declared.refusal.Refusal.TheVariants as refusal
use Rattle.vault_base.specs.Limits.{most_ids}
use Rattle.vault_core_model.specs.declared.command.Command.TheVariants as command
use Rattle.vault_core_model.specs.declared.command.Timed.{Timed}
use Rattle.vault_core_model.specs.declared.records.Author.TheVariants as author
use Rattle.vault_core_model.specs.declared.records.History.{History}
use Rattle.vault_core_model.specs.declared.reply.Answer.TheVariants as answer
use Rattle.vault_core_model.specs.declared.reply.Reply.{Reply}
use Rattle.vault_core_model.specs.declared.reply.Reply.TheVariants.{Done, Refused}
use Rattle.vault_core_model.specs.Checks.{free_id}
use Rattle.vault_core_model.specs.Plan.{with_ids}
use Rattle.vault_core_model.specs.Vault.{Vault}
use Rattle.vault_core_outcome.specs.Outcome.{replies_to, vault_after}
use Rattle.vault_rules.specs.declared.plan.Step.{Step}
use Rattle.vault_rules.specs.declared.plan.Step.TheVariants as step
use Rattle.vault_rules.specs.KeyPlan.{Planned}
use Rattle.vault_tests_days.specs.Script.{admin_name, ann, ann_rights, by, move_bucket, put, records, start}

-- a version of that id and size, of a department; no vault has one of more than 1,048,576 bytes
abbrev version_of : ℕ → ℕ → List ℕ → History
version_of id size dept = record {
  entry = record { id = id; bucket = codes "other"; key = codes "large"; marker = false; size = size; digest = None; admitted = 1388534400; by = author.Caller ann; removal = None };
  content = None;
  settings = [];
  tenures = record { dept = dept; from = 1388534400; number = 0 } ∷ [];
}

-- ---- a department admits up to 1,000,000,000,000 bytes, and empty versions where it is full

abbrev five_left : Vault
five_left = record start { histories = version_of 1 999999999995 records ∷ [] }

abbrev puts : List Timed
puts =
    by ann 1705314600 (put (codes "a") (codes "hello!") None None)
    ∷ by ann 1705314600 (put (codes "a") (codes "hello") None None)
    ∷ by ann 1705314600 (put (codes "a") (codes "x") None None)
    ∷ by ann 1705314600 (put (codes "a") [] None None) ∷ []

up_to_the_quota : replies_to five_left puts ≡
    Refused refusal.QuotaExceeded ∷ Done (answer.Admitted 2) ∷ Refused refusal.QuotaExceeded ∷ Done (answer.Admitted 3) ∷ []
up_to_the_quota = refl

-- ---- a bucket of five bytes goes to `court`, as far as that department's quota goes, and while moves have numbers

abbrev court : List ℕ
court = codes "court"

abbrev two_departments : Vault
two_departments =
    vault_after start
    (by admin_name 1705314600 (command.AddDept (record { dept = court }))
    ∷ by ann 1705314600 (put (codes "a") (codes "hello") None None) ∷ [])

-- where that many bytes came to it before, and that many moves were made
abbrev before_move : ℕ → ℕ → Vault
before_move size moves =
    record two_departments { histories = two_departments.histories ++ version_of 2 size court ∷ []; moves = moves }

abbrev moved : ℕ → ℕ → List Reply
moved size moves = replies_to (before_move size moves) (by admin_name 1705314600 (move_bucket court) ∷ [])

last_move : moved 999999999995 999999999 ≡ Done (answer.Moved 5) ∷ []
last_move = refl

no_number_left : moved 999999999995 1000000000 ≡ Refused refusal.VaultFull ∷ []
no_number_left = refl

-- the quota is looked at first
no_room_and_no_number : moved 999999999996 1000000000 ≡ Refused refusal.QuotaExceeded ∷ []
no_room_and_no_number = refl

-- what a department received counts as what was admitted to it does, also after it has handed it over
abbrev received_and_handed : Vault
received_and_handed =
    vault_after (before_move 999999999990 0)
    (by admin_name 1705314600 (move_bucket court) ∷ by admin_name 1705314600 (move_bucket records)
    ∷ by admin_name 1705314600 (command.AddBucket (record { bucket = codes "rolls"; dept = court }))
    ∷ by admin_name 1705314600 (command.AddCaller (record { caller = codes "cid"; dept = Some court; rights = ann_rights })) ∷ [])

abbrev put_to_court : List ℕ → Timed
put_to_court content =
    by (codes "cid") 1705314600 (command.Put (record { bucket = codes "rolls"; key = codes "b"; content = Inside content; retention = None; hold = None }))

received_counts : replies_to received_and_handed (put_to_court (codes "hello!") ∷ put_to_court (codes "hello") ∷ []) ≡
    Refused refusal.QuotaExceeded ∷ Done (answer.Admitted 3) ∷ []
received_counts = refl

-- ---- ids end at 1,000,000,000

last_id : (v : Vault) → length v.histories ≡ 999999999 → free_id v ≡ Ok 1000000000
last_id v e = ap (λ n. if nat_le (n + 1) most_ids then Ok (n + 1) else Err refusal.VaultFull) e

no_id_left : (v : Vault) → length v.histories ≡ 1000000000 → free_id v ≡ Err refusal.VaultFull
no_id_left v e = ap (λ n. if nat_le (n + 1) most_ids then Ok (n + 1) else Err refusal.VaultFull) e

abbrev at_a : Step → Planned
at_a s = record { key = codes "a"; step = s }

-- at key `a` a marker and a removal, at `b` a marker, at `c` a removal, and that of a marker alone
abbrev five_steps : List Planned
five_steps =
    at_a (step.Mark 0) ∷ at_a (step.Remove 1 0) ∷ record { key = codes "b"; step = step.Mark 0 }
    ∷ record { key = codes "c"; step = step.Remove 4 0 } ∷ record { key = codes "c"; step = step.RemoveLone 5 0 } ∷ []

-- a run stops at the first marker that finds no id; removals take none
ids_for_all : with_ids 999999998 five_steps ≡ five_steps
ids_for_all = refl

one_id : with_ids 999999999 five_steps ≡ at_a (step.Mark 0) ∷ at_a (step.Remove 1 0) ∷ []
one_id = refl

no_id : with_ids 1000000000 five_steps ≡ []
no_id = refl

no_id_for_removals : with_ids 1000000000 (at_a (step.Remove 1 0) ∷ at_a (step.RemoveLone 2 0) ∷ []) ≡ at_a (step.Remove 1 0) ∷ at_a (step.RemoveLone 2 0) ∷ []
no_id_for_removals = refl
