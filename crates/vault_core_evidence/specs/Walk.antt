-- What a walk over all entries has found, and seen of the moves and of the departments.
use Rattle.std.specs.Prelude.{◌≡◌, ℕ, ◌++◌, List, [], ◌∷◌, Option, Some, None, if◌then◌else◌}
use Rattle.std.specs.Str.{bytes_eq}
use Rattle.vault_core_model.specs.declared.records.Entry.{Entry}
use Rattle.vault_core_model.specs.declared.records.Setting.{Setting}
use Rattle.vault_core_model.specs.declared.records.Tenure.{Tenure}
use Rattle.vault_core_model.specs.Reads.{entry_of, settings_of, tenures_of}
use Rattle.vault_core_model.specs.Vault.{Vault}
use Rattle.vault_core_evidence.specs.declared.breach.Law.{Law}
use Rattle.vault_core_evidence.specs.declared.breach.Law.TheVariants as law
use Rattle.vault_core_evidence.specs.declared.holders.Holder.{Holder}
use Rattle.vault_core_evidence.specs.declared.holders.Holders.{Holders}
use Rattle.vault_core_evidence.specs.declared.seen_moves.SeenMoves.{SeenMoves}
use Rattle.vault_core_evidence.specs.Departments.{removed_at}
use Rattle.vault_core_evidence.specs.Holders.{fits_holder, holder_of, longer}
use Rattle.vault_core_evidence.specs.Moves.{seen_after, seen_of}
use Rattle.vault_core_evidence.specs.Shown.{shown_by}
use Rattle.vault_core_evidence.specs.Breaches.{Test, broken, move_tests, rule_tests, test}

-- what these tenures break is found; where they break nothing they were seen
abbrev pub FindsMoves : SeenMoves → List ℕ → List Tenure → Option Law → SeenMoves → Type 0
FindsMoves s bucket ts found after =
    (found ≡ broken (move_tests (seen_of s) bucket ts))
    × (found ≡ None → (n : ℕ) → seen_of after n ≡ seen_after (seen_of s) bucket ts n)

-- the test beside the version of its bucket that is held longest
abbrev pub holder_tests : Holders → Entry → List Tenure → List Test
holder_tests k e ts = test (fits_holder (holder_of k e.bucket) ts (removed_at e)) law.Department ∷ []

-- that version, once this one was seen
abbrev pub holder_after : Holders → Entry → List Tenure → List ℕ → Option Holder
holder_after k e ts name = if bytes_eq e.bucket name then longer (holder_of k e.bucket) ts (removed_at e) else holder_of k name

abbrev pub FindsDepartments : Holders → Entry → List Tenure → Option Law → Holders → Type 0
FindsDepartments k e ts found after =
    (found ≡ broken (holder_tests k e ts)) × (found ≡ None → (name : List ℕ) → holder_of after name ≡ holder_after k e ts name)

-- and what an entry breaks, with those settings and tenures
abbrev pub Finds : Vault → SeenMoves → Holders → Option Entry → List Setting → List Tenure → Option Law → SeenMoves → Holders → Type 0
Finds v s k None settings tenures found seen holders = Unit {0}
Finds v s k (Some e) settings tenures found seen holders =
    (found ≡ broken (rule_tests v e settings tenures ++ (move_tests (seen_of s) e.bucket tenures ++ holder_tests k e tenures)))
    × (found ≡ None → (n : ℕ) → seen_of seen n ≡ seen_after (seen_of s) e.bucket tenures n)
    × (found ≡ None → (name : List ℕ) → holder_of holders name ≡ holder_after k e tenures name)

-- the same of the entry of that id, with its settings and tenures
abbrev pub FindsAt : Vault → SeenMoves → Holders → ℕ → Option Law → SeenMoves → Holders → Type 0
FindsAt v s k id found seen holders = Finds v s k (entry_of v id) (settings_of v id) (tenures_of v id) found seen holders

-- the last moment that the entry of that id shows
abbrev pub Shows : Option Entry → List Setting → List Tenure → ℕ → Type 0
Shows None settings tenures shown = Unit {0}
Shows (Some e) settings tenures shown = shown ≡ shown_by e settings tenures

abbrev pub ShowsAt : Vault → ℕ → ℕ → Type 0
ShowsAt v id shown = Shows (entry_of v id) (settings_of v id) (tenures_of v id) shown
