-- Vaults that no commands make, in each of which a lock rule was broken: the laws of whole runs don't hold of them.
use Rattle.std.proofs.Common.{arith, inl, inr}
use Rattle.std.specs.Prelude.{refl, ℕ, List, [], ◌∷◌, Bool, true, false, Option, Some, None, codes}
use Rattle.sha2.specs.Sha256.{sha256}
use Rattle.vault_lock.specs.declared.retention.Retention.{Retention}
use Rattle.vault_core_model.specs.declared.records.Author.TheVariants as author
use Rattle.vault_core_model.specs.declared.records.Cause.{Cause}
use Rattle.vault_core_model.specs.declared.records.Cause.TheVariants as cause
use Rattle.vault_core_model.specs.declared.records.History.{History}
use Rattle.vault_core_model.specs.declared.records.Setting.{Setting}
use Rattle.vault_core_model.specs.Vault.{Vault}
use Rattle.vault_core_run_laws.specs.Removals.{RemovalsWerePermitted}
use Rattle.vault_core_run_laws.specs.Worm.{Worm}
use Rattle.vault_tests_days.specs.Script.{ann, gov, docs, records, start, compliance, governance}

-- ann's version, with these settings, removed at t
abbrev version : List Setting → ℕ → Cause → History
version settings t why =
    record { entry = record { id = 1; bucket = docs; key = codes "a"; marker = false; size = 1; digest = Some (sha256 (codes "x")); admitted = 1705314600; by = author.Caller ann; removal = Some (record { at = t; cause = why }) }; content = None; settings = settings; tenures = record { dept = records; from = 1705314600; number = 0 } ∷ [] }

-- the vault in which it is the only one
abbrev vault_of : List Setting → ℕ → Cause → Vault
vault_of settings t why = record start { last = t; histories = version settings t why ∷ [] }

-- ann's, with the put
abbrev first_setting : Option Retention → Bool → Setting
first_setting r hold = record { at = 1705314600; by = ann; lock = record { retention = r; hold = hold }; bypass = false }

-- the next one, a day later
abbrev next_setting : List ℕ → Option Retention → Bool → Setting
next_setting who r bypass = record { at = 1705401000; by = who; lock = record { retention = r; hold = false }; bypass = bypass }

-- ---- shortened: no removal broke the lock in force, but the first retention wasn't kept

-- compliance until 2030-01-01: gov, by bypass, made it 2025-01-01, and ann removed the version then
abbrev compliance_shortened : Vault
compliance_shortened =
    vault_of (first_setting (compliance 1893456000) false ∷ next_setting gov (compliance 1735689600) true ∷ []) 1735689600 (cause.Request ann)

compliance_shortened-keeps_removals : RemovalsWerePermitted compliance_shortened
compliance_shortened-keeps_removals = (refl, tt)

compliance_shortened-breaks_worm : Worm compliance_shortened → ⊥
compliance_shortened-breaks_worm kept = absurd (omega (arith, kept.0.0.0))

-- governance, and gov asked for no bypass
abbrev governance_shortened : Vault
governance_shortened =
    vault_of (first_setting (governance 1893456000) false ∷ next_setting gov (governance 1735689600) false ∷ []) 1735689600 (cause.Request ann)

governance_shortened-keeps_removals : RemovalsWerePermitted governance_shortened
governance_shortened-keeps_removals = (refl, tt)

governance_shortened-breaks_worm : Worm governance_shortened → ⊥
governance_shortened-breaks_worm kept =
    elim (kept.0.0.0) [ inl there ↦ absurd (omega (arith, there)) | inr lifted ↦ elim lifted [ inl bypassed ↦ absurd bypassed | inr lowered ↦ elim lowered [ inl made ↦ absurd (cc made.0) | inr later ↦ absurd later ] ] ]

-- governance, by a bypass of ann, who doesn't have the right
abbrev shortened_without_right : Vault
shortened_without_right =
    vault_of (first_setting (governance 1893456000) false ∷ next_setting ann (governance 1735689600) true ∷ []) 1735689600 (cause.Request ann)

shortened_without_right-keeps_removals : RemovalsWerePermitted shortened_without_right
shortened_without_right-keeps_removals = (refl, tt)

shortened_without_right-breaks_worm : Worm shortened_without_right → ⊥
shortened_without_right-breaks_worm kept =
    elim (kept.0.0.0) [ inl there ↦ absurd (omega (arith, there)) | inr lifted ↦ elim lifted [ inl bypassed ↦ absurd bypassed | inr lowered ↦ elim lowered [ inl made ↦ absurd (cc made.1) | inr later ↦ absurd later ] ] ]

-- ---- removed while it was guarded

abbrev removed_under_hold : Vault
removed_under_hold = vault_of (first_setting None true ∷ []) 1735689600 (cause.Request ann)

removed_under_hold-breaks_removals : RemovalsWerePermitted removed_under_hold → ⊥
removed_under_hold-breaks_removals permitted = absurd (cc permitted.0)

removed_under_hold-breaks_worm : Worm removed_under_hold → ⊥
removed_under_hold-breaks_worm kept = absurd (cc kept.0.1)

-- a bypass lifts governance, and not the hold beside it
abbrev hold_bypassed : Vault
hold_bypassed = vault_of (first_setting (governance 1893456000) true ∷ []) 1735689600 (cause.Bypass gov)

hold_bypassed-breaks_removals : RemovalsWerePermitted hold_bypassed → ⊥
hold_bypassed-breaks_removals permitted = absurd (cc permitted.0.0)

hold_bypassed-breaks_worm : Worm hold_bypassed → ⊥
hold_bypassed-breaks_worm kept = absurd (cc kept.0.1)

-- nor does it lift compliance
abbrev compliance_bypassed : Vault
compliance_bypassed = vault_of (first_setting (compliance 1893456000) false ∷ []) 1735689600 (cause.Bypass gov)

compliance_bypassed-breaks_removals : RemovalsWerePermitted compliance_bypassed → ⊥
compliance_bypassed-breaks_removals permitted = absurd (cc permitted.0.0)

compliance_bypassed-breaks_worm : Worm compliance_bypassed → ⊥
compliance_bypassed-breaks_worm kept = absurd (omega (arith, kept.0.0.0))

-- ann doesn't have the right to bypass governance
abbrev bypassed_without_right : Vault
bypassed_without_right = vault_of (first_setting (governance 1893456000) false ∷ []) 1735689600 (cause.Bypass ann)

bypassed_without_right-breaks_removals : RemovalsWerePermitted bypassed_without_right → ⊥
bypassed_without_right-breaks_removals permitted = absurd (cc permitted.0.1)

bypassed_without_right-breaks_worm : Worm bypassed_without_right → ⊥
bypassed_without_right-breaks_worm kept =
    elim (kept.0.0.0) [ inl there ↦ absurd (omega (arith, there)) | inr lifted ↦ elim lifted [ inl bypassed ↦ absurd (cc bypassed) | inr lowered ↦ absurd lowered ] ]

-- a rule doesn't lift governance, nor does a request that asks for no bypass
abbrev removed_by_rule : Vault
removed_by_rule = vault_of (first_setting (governance 1893456000) false ∷ []) 1735689600 (cause.Rule (codes "r1"))

removed_by_rule-breaks_removals : RemovalsWerePermitted removed_by_rule → ⊥
removed_by_rule-breaks_removals permitted = absurd (cc permitted.0)

removed_by_rule-breaks_worm : Worm removed_by_rule → ⊥
removed_by_rule-breaks_worm kept =
    elim (kept.0.0.0) [ inl there ↦ absurd (omega (arith, there)) | inr lifted ↦ elim lifted [ inl bypassed ↦ absurd bypassed | inr lowered ↦ absurd lowered ] ]

abbrev removed_by_request : Vault
removed_by_request = vault_of (first_setting (governance 1893456000) false ∷ []) 1735689600 (cause.Request gov)

removed_by_request-breaks_removals : RemovalsWerePermitted removed_by_request → ⊥
removed_by_request-breaks_removals permitted = absurd (cc permitted.0)

removed_by_request-breaks_worm : Worm removed_by_request → ⊥
removed_by_request-breaks_worm kept =
    elim (kept.0.0.0) [ inl there ↦ absurd (omega (arith, there)) | inr lifted ↦ elim lifted [ inl bypassed ↦ absurd bypassed | inr lowered ↦ absurd lowered ] ]
