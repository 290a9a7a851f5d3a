-- Parts of the entries of a vault, by rising id: each begins after an id, and has 1,000 entries at most.
use Rattle.std.specs.Prelude.{ℕ, ◌+◌, ◌-◌, nat_lt, List, length, take, drop, if◌then◌else◌, Option, Some, None}
use Rattle.std.specs.List.{AllByRecursion}
use Rattle.vault_core_model.specs.declared.records.History.{History}
use Rattle.vault_core_model.specs.Vault.{Vault}
use Rattle.vault_core_evidence.specs.declared.breach.Breach.{Breach}
use Rattle.vault_core_evidence.specs.declared.walk.JudgedPart.{JudgedPart}
use Rattle.vault_core_evidence.specs.Breaches.{breach_of_list}
use Rattle.vault_core_evidence.specs.Lawful.{IsLawful}

-- how many entries the part after an id has: those that are left, and 1,000 at most
abbrev pub most_of : ℕ → ℕ → ℕ
most_of entries after = if nat_lt 1000 (entries - after) then 1000 else entries - after

-- the id after which the next part begins; none where no entry is left
abbrev pub next_of : ℕ → ℕ → Option ℕ
next_of entries after = if nat_lt (after + 1000) entries then Some (after + 1000) else None

-- the first entries after an id
abbrev pub range : Vault → ℕ → ℕ → List History
range v after most = take most (drop after v.histories)

-- the entries of the part after an id
abbrev pub part : ℕ → Vault → List History
part after v = range v after (most_of (length v.histories) after)

-- the first breach of those entries, beside what their own tenures show
abbrev pub range_breach : Vault → ℕ → ℕ → Option Breach
range_breach v after most = breach_of_list v (range v after most)

abbrev pub part_breach : ℕ → Vault → Option Breach
part_breach after v = breach_of_list v (part after v)

-- the judgement of the part after an id, and where the next one begins
abbrev pub judged_part : ℕ → Vault → JudgedPart
judged_part after v = record { breach = part_breach after v; next = next_of (length v.histories) after }

-- every history after an id is lawful
abbrev pub LawfulAfter : ℕ → Vault → Type 0
LawfulAfter after v = AllByRecursion (IsLawful v) (drop after v.histories)
