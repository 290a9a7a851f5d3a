-- Words for retention modes, holds, and whether a rule is enabled.
use Rattle.std.specs.Prelude.{ℕ, List, codes, Bool, true, false, if◌then◌else◌, Option, Some, None}
use Rattle.std.specs.Str.{bytes_eq}
use Rattle.vault_lock.specs.declared.retention.Mode.{Mode}
use Rattle.vault_lock.specs.declared.retention.Mode.TheVariants.{Governance, Compliance}

abbrev pub mode_name : Mode → List ℕ
mode_name Governance = codes "GOVERNANCE"
mode_name Compliance = codes "COMPLIANCE"

-- the one of two whose name the text is
abbrev pub named : {A : Type 0} → (A → List ℕ) → A → A → List ℕ → Option A
named name a b text = if bytes_eq text (name a) then Some a else if bytes_eq text (name b) then Some b else None

abbrev pub mode_named : List ℕ → Option Mode
mode_named text = named mode_name Governance Compliance text

abbrev pub hold_name : Bool → List ℕ
hold_name hold = if hold then codes "ON" else codes "OFF"

abbrev pub hold_named : List ℕ → Option Bool
hold_named text = named hold_name true false text

abbrev pub status_name : Bool → List ℕ
status_name enabled = if enabled then codes "Enabled" else codes "Disabled"

abbrev pub status_named : List ℕ → Option Bool
status_named text = named status_name true false text
