-- How a retention in governance came to be shorter, by the law of retentions: it names the setting, or the removal, that was a permitted bypass.
use Rattle.std.proofs.Common.{arith, inl, inr}
use Rattle.std.specs.Prelude.{◌≡◌, refl, List, [], ◌∷◌, true, false, None, codes, map}
use Rattle.vault_lock.specs.declared.retention.Mode.TheVariants as mode
use Rattle.vault_core_model.specs.declared.command.Timed.{Timed}
use Rattle.vault_core_model.specs.declared.records.History.{History}
use Rattle.vault_core_model.specs.declared.records.Setting.{Setting}
use Rattle.vault_core_model.specs.Vault.{Vault}
use Rattle.vault_core_run_laws.specs.Worm.{IsLowered, Worm}
use Rattle.vault_core_outcome.specs.Outcome.{vault_after}
use Rattle.vault_tests_days.specs.Script.{by, ann, gov, start, governance, put, delete_version, set_retention}

-- until 2030-01-01; shortened to 2025-01-01 by gov on 2024-01-16; removed at that end
abbrev shortened-script : List Timed
shortened-script =
    by ann 1705314600 (put (codes "a") (codes "hello") (governance 1893456000) None) ∷
    by gov 1705363200 (set_retention (codes "a") None (record { mode = mode.Governance; until = 1735689600 }) true) ∷
    by ann 1735689600 (delete_version (codes "a") 1 false) ∷ []

abbrev shortened : Vault
shortened = vault_after start shortened-script

-- the version's settings: ann's, with the put, and gov's, by bypass
abbrev first_setting : Setting
first_setting = record { at = 1705314600; by = ann; lock = record { retention = governance 1893456000; hold = false }; bypass = false }

abbrev lowering_setting : Setting
lowering_setting = record { at = 1705363200; by = gov; lock = record { retention = governance 1735689600; hold = false }; bypass = true }

shortened_by : map (λ (h : History). h.settings) shortened.histories ≡ (first_setting ∷ lowering_setting ∷ []) ∷ []
shortened_by = refl

-- what the law says of the first retention names gov's setting
lowered_by_gov : IsLowered shortened (lowering_setting ∷ [])
lowered_by_gov = inl (refl, refl)

-- it was kept but for that setting, the second one to its end
shortened_is_kept : Worm shortened
shortened_is_kept = (((inr (inr lowered_by_gov), (inl (omega arith), tt)), refl), tt)

-- the law can't hold of this vault for another reason: the removal came before the first end, and wasn't by bypass
lowered_by_gov_alone : Worm shortened → IsLowered shortened (lowering_setting ∷ [])
lowered_by_gov_alone kept =
    elim (kept.0.0.0) [ inl there ↦ absurd (omega (arith, there)) | inr lifted ↦ elim lifted [ inl bypassed ↦ absurd bypassed | inr lowered ↦ lowered ] ]

-- two versions until 2030-01-01: gov removes the first by bypass, long before, and the second at its end
abbrev bypassed-script : List Timed
bypassed-script =
    by ann 1705314600 (put (codes "a") (codes "x") (governance 1893456000) None) ∷
    by ann 1705314600 (put (codes "a") (codes "y") (governance 1893456000) None) ∷
    by gov 1705314601 (delete_version (codes "a") 1 true) ∷
    by gov 1893456000 (delete_version (codes "a") 2 true) ∷ []

abbrev bypassed : Vault
bypassed = vault_after start bypassed-script

-- the first was kept but for its removal, a bypass of a caller who may; the second to its end
bypassed_is_kept : Worm bypassed
bypassed_is_kept = (((inr (inl refl), tt), refl), (((inl (omega arith), tt), refl), tt))
