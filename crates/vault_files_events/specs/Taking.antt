-- What takes the bytes of a text.
use Rattle.std.specs.Prelude.{◌≡◌, ℕ, List, [], ◌++◌}
use Rattle.vault_core_evidence.specs.Events.{Event}
use Rattle.vault_files_events.specs.Counts.{counts}
use Rattle.vault_files_events.specs.declared.counted.Counted.{Counted}

-- what takes bytes, before; the bytes; and afterwards
abbrev pub Took : Type 0 → Type 1
Took S = S → List ℕ → S → Type 0

-- a beginning of these bytes was taken
abbrev pub TookSome : {S : Type 0} → Took S → S → List ℕ → S → Type 0
TookSome took s bytes t = (front : List ℕ) × (back : List ℕ) × (bytes ≡ front ++ back) × took s front t

-- the text of these events was taken, and they were counted
abbrev pub TookCounted : {S : Type 0} → Took S → S → S → (List Event → List ℕ) → List Event → Counted → Type 0
TookCounted took s t text events n = took s (text events) t × (n ≡ counts events)

-- what stays as it is took no byte, and bytes that are taken one after another are taken together
pub record TakesInTurn {S : Type 0} (took : Took S) : Type 0 where
  pub none : (s : S) → took s [] s
  pub more : (s t u : S) (front back : List ℕ) → took s front t → took t back u → took s (front ++ back) u
