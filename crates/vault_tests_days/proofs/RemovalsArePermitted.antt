-- Why each removal was permitted, by the law of removals: what its cause is, and what the lock in force left to guard the version.
use Rattle.std.specs.Prelude.{◌≡◌, refl, List, [], ◌∷◌, true, false, Some, None, codes, map}
use Rattle.vault_lock.specs.declared.lock.Denial.TheVariants as denial
use Rattle.vault_lock.specs.declared.lock.Lock.{Lock}
use Rattle.vault_lock.specs.declared.lock.Permit.TheVariants as permit
use Rattle.vault_lock.specs.Lock.{guards}
use Rattle.vault_core_model.specs.declared.command.Timed.{Timed}
use Rattle.vault_core_model.specs.declared.records.Cause.TheVariants as cause
use Rattle.vault_core_model.specs.declared.records.History.{History}
use Rattle.vault_core_model.specs.declared.reply.Answer.TheVariants as answer
use Rattle.vault_core_model.specs.declared.reply.Reply.TheVariants.{Done}
use Rattle.vault_core_model.specs.Vault.{Vault, last_lock}
use Rattle.vault_core_run_laws.specs.Bypass.{MayBypass}
use Rattle.vault_core_run_laws.specs.Removals.{RemovalsWerePermitted}
use Rattle.vault_core_outcome.specs.Outcome.{replies_to, vault_after}
use Rattle.vault_tests_days.specs.Script.{by, ann, gov, start, compliance, governance, rule, put, delete_version, set_rules, run}

-- Version 1, in governance until 2030-01-01, is removed by gov's bypass; 2, which is noncurrent, by a run as its governance ends, not a second before; 4 by request as its compliance ends; 3 is held.
abbrev removed-script : List Timed
removed-script =
    by ann 1388534400 (set_rules (record (rule (codes "r1")) { noncurrent = Some (record { days = 1; newer = None }) } ∷ [])) ∷
    by ann 1705314600 (put (codes "a") (codes "w") (governance 1893456000) None) ∷
    by ann 1705314600 (put (codes "b") (codes "x") (governance 1706745600) None) ∷
    by ann 1705314600 (put (codes "b") (codes "y") None None) ∷
    by ann 1705314600 (put (codes "c") (codes "z") (compliance 1735689600) None) ∷
    by gov 1705314601 (delete_version (codes "a") 1 true) ∷
    by ann 1706745599 run ∷
    by ann 1706745600 run ∷
    by ann 1735689600 (delete_version (codes "c") 4 false) ∷ []

removed-replies : replies_to start removed-script ≡
    Done answer.Nothing ∷
    Done (answer.Admitted 1) ∷
    Done (answer.Admitted 2) ∷
    Done (answer.Admitted 3) ∷
    Done (answer.Admitted 4) ∷
    Done (answer.Removed (record { id = 1; marker = false; permit = permit.Bypass })) ∷
    Done (answer.Ran (record { changes = 0; marked = 0; removed = 0; lone = 0 })) ∷
    Done (answer.Ran (record { changes = 1; marked = 0; removed = 1; lone = 0 })) ∷
    Done (answer.Removed (record { id = 4; marker = false; permit = permit.Free })) ∷ []
removed-replies = refl

abbrev removed : Vault
removed = vault_after start removed-script

removed_by : map (λ (h : History). h.entry.removal) removed.histories ≡
    Some (record { at = 1705314601; cause = cause.Bypass gov }) ∷
    Some (record { at = 1706745600; cause = cause.Rule (codes "r1") }) ∷
    None ∷
    Some (record { at = 1735689600; cause = cause.Request ann }) ∷ []
removed_by = refl

abbrev first_lock : Lock
first_lock = record { retention = governance 1893456000; hold = false }

abbrev second_lock : Lock
second_lock = record { retention = governance 1706745600; hold = false }

abbrev third_lock : Lock
third_lock = record { retention = None; hold = false }

abbrev fourth_lock : Lock
fourth_lock = record { retention = compliance 1735689600; hold = false }

locked_by : map (λ (h : History). last_lock h.settings) removed.histories ≡ first_lock ∷ second_lock ∷ third_lock ∷ fourth_lock ∷ []
locked_by = refl

-- governance alone guarded the first, and gov has the right to bypass it
by_bypass : (guards first_lock 1705314601 ≡ denial.Governance ∷ []) × MayBypass removed gov
by_bypass = (refl, refl)

-- nothing guarded the second any more, as governance had until then
by_rule : guards second_lock 1706745600 ≡ []
by_rule = refl

by_rule-not_before : guards second_lock 1706745599 ≡ denial.Governance ∷ []
by_rule-not_before = refl

-- nor the fourth, as compliance had until then
by_request : guards fourth_lock 1735689600 ≡ []
by_request = refl

by_request-not_before : guards fourth_lock 1735689599 ≡ denial.Compliance ∷ []
by_request-not_before = refl

-- so each removal was permitted, for its own reason
removed_was_permitted : RemovalsWerePermitted removed
removed_was_permitted = (by_bypass, (by_rule, (tt, (by_request, tt))))
