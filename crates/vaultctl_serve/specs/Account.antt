-- What the log says of a request or a line.
use Rattle.std.specs.Prelude.{ℕ, ◌≡◌, ◌≤◌, Bool, true, List, [], ◌∷◌, length, Option, Some, None, Result, Ok, Err}
use Rattle.vault_core_model.specs.Vault.{Vault}
use Rattle.vault_core.specs.Hearing.{AtMostOne}
use Rattle.vault_http.specs.declared.fault.ServeFault.{ServeFault}
use Rattle.vault_http.specs.declared.fault.ServeFault.TheVariants as faults
use Rattle.vaultctl_log.specs.declared.entry.Door.{Door}
use Rattle.vaultctl_log.specs.declared.entry.Door.TheVariants as door
use Rattle.vaultctl_log.specs.declared.entry.Facts.{Facts}
use Rattle.vaultctl_log.specs.declared.entry.Trouble.{Trouble}
use Rattle.vaultctl_log.specs.declared.entry.Trouble.TheVariants as trouble

-- what kept a request from its end that was served so
abbrev pub trouble_of : Result (Unit {0}) ServeFault → Option Trouble
trouble_of (Ok done) = None
trouble_of (Err faults.Read) = Some trouble.Late
trouble_of (Err faults.Write) = Some trouble.Untaken
trouble_of (Err faults.Memory) = Some trouble.Memory

-- at most one command was carried out, at this moment, which is the one that is logged, with the door
abbrev pub Accounts : Door → Option ℕ → Facts → Vault → Vault → Type 0
Accounts at moment f old new = (f.door ≡ at) × (f.moment ≡ moment) × AtMostOne moment old new

-- between the two an entry was heard that accounts for what was done; and nothing was carried out of what it calls late
abbrev pub IsAccounted : {D : Type 0} → (D → Facts → List ℕ → List ℕ → Bool → D → Type 0) → D → D → Option ℕ → Vault → Vault → Type 0
IsAccounted logs before after moment old new =
    (f : Facts) × (asked answered : List ℕ) × (whole : Bool) × logs before f asked answered whole after × Accounts door.Requests moment f old new × (f.trouble ≡ Some trouble.Late → new ≡ old)

-- the same of a line, whose bytes are those that are logged, with how many they are and what kept the line from its end
abbrev pub IsLineAccounted : {D : Type 0} → (D → Facts → List ℕ → List ℕ → Bool → D → Type 0) → D → D → Option ℕ → List ℕ → Option Trouble → Vault → Vault → Type 0
IsLineAccounted logs before after moment line kept old new =
    (f : Facts) × (answered : List ℕ) × (whole : Bool) × logs before f line answered whole after × Accounts door.Lines moment f old new × (f.came ≡ length line) × (f.trouble ≡ kept)

-- What is heard of an entry is a relation, and so is that nothing is heard.
module _ {D : Type 0} (silent : D → D → Type 0) (logs : D → Facts → List ℕ → List ℕ → Bool → D → Type 0) where
  -- one entry was heard of, and no other
  abbrev pub LogsOne : Facts → D → D → Type 0
  LogsOne f before after = (mid : D) × (asked answered : List ℕ) × (whole : Bool) × silent before mid × logs mid f asked answered whole after

  -- an entry each of these was heard of, one after another, and no other
  abbrev pub LogsEach : List Facts → D → D → Type 0
  LogsEach [] before after = after ≡ before
  LogsEach (f ∷ fs) before after = (mid : D) × LogsOne f before mid × LogsEach fs mid after

  -- n entries were heard of, one after another, and no other
  abbrev pub LogsExactly : ℕ → D → D → Type 0
  LogsExactly n before after = (fs : List Facts) × (length fs ≡ n) × LogsEach fs before after

  -- the same of n entries, or of fewer where there were to be no more
  abbrev pub LogsWhile : Bool → ℕ → D → D → Type 0
  LogsWhile going most before after = (n : ℕ) × (n ≤ most) × (going ≡ true → n ≡ most) × LogsExactly n before after

-- an entry was heard of a connection that couldn't be taken, at this moment, and no other entry
abbrev pub IsMissLogged : {D : Type 0} → (D → Facts → List ℕ → List ℕ → Bool → D → Type 0) → D → D → Door → Option ℕ → Type 0
IsMissLogged logs before after door moment =
    (f : Facts) × (whole : Bool) × logs before f [] [] whole after × (f.door ≡ door) × (f.moment ≡ moment) × (f.trouble ≡ Some trouble.Connection)
