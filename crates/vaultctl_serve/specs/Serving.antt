-- What connections may do with a vault, and what is reported of them.
use Rattle.std.specs.Prelude.{ℕ, ◌≡◌, ◌≢◌, ◌≤◌, ◌⊎◌, Bool, true, List, [], ◌∷◌, length, Option, Some, None, Result, Ok, Err}
use Rattle.vault_core_model.specs.declared.command.Timed.{Timed}
use Rattle.vault_core_model.specs.declared.reply.Reply.{Reply}
use Rattle.vault_core_model.specs.Step.{IsRun}
use Rattle.vault_core_model.specs.Vault.{Vault}
use Rattle.vault_core.specs.Hearing.{AtMostOne}

-- a run of at most n commands leads from the one vault to the other
abbrev pub Stepped : ℕ → Vault → Vault → Type 0
Stepped most old new = (commands : List Timed) × (replies : List Reply) × (length commands ≤ most) × IsRun old commands replies new

-- ---- tries to take a connection

-- one try: a connection was taken as the clock showed this, a moment or none; or none could be taken
pub data Try : Type 0 where
  Taken : Option ℕ → Try
  Missed : Try

-- for each connection that was taken at most one step was made, at the clock's reading then, one after another
abbrev pub SteppedAt : List Try → Vault → Vault → Type 0
SteppedAt [] old new = new ≡ old
SteppedAt (Taken moment ∷ later) old new = (mid : Vault) × AtMostOne moment old mid × SteppedAt later mid new
SteppedAt (Missed ∷ later) old new = SteppedAt later old new

-- ---- tries that are known before they are made

-- of all known tries these are the next, and then come the later ones; after them all no connection can be taken any more
abbrev pub Next : List Try → List Try → List Try → Type 0
Next all later [] = later ≡ all
Next [] later (try ∷ tries) = (try ≡ Missed) × Next [] later tries
Next (known ∷ all) later (try ∷ tries) = (try ≡ known) × Next all later tries

-- the same where tries are known
abbrev pub Tries : Option (List Try) → Option (List Try) → List Try → Type 0
Tries None new tries = Unit {0}
Tries (Some all) None tries = ⊥
Tries (Some all) (Some later) tries = Next all later tries

-- a try to take a connection, and what the clock shows then
abbrev pub IsTried : {P E : Type 0} → Option (List Try) → Option (List Try) → Option ℕ → Result P E → Type 0
IsTried old new shown (Ok peer) = Tries old new (Taken shown ∷ [])
IsTried old new shown (Err e) = Tries old new (Missed ∷ [])

-- where tries are known, what was read is what the clock shows
abbrev pub ReadsAs : Option (List Try) → Option ℕ → Option ℕ → Type 0
ReadsAs None shown moment = Unit {0}
ReadsAs (Some all) shown moment = moment ≡ shown

-- n tries were made, and each connection that was taken made at most one step, at the clock's reading as it was taken
abbrev pub SteppedOnTime : ℕ → Option (List Try) → Option (List Try) → Vault → Vault → Type 0
SteppedOnTime n before after old new =
    (tries : List Try) × (length tries ≡ n) × Tries before after tries × SteppedAt tries old new

-- the same of n tries, or of fewer where there were to be no more
abbrev pub SteppedWhile : Bool → ℕ → Option (List Try) → Option (List Try) → Vault → Vault → Type 0
SteppedWhile going n before after old new =
    (made : ℕ) × (made ≤ n) × (going ≡ true → made ≡ n) × SteppedOnTime made before after old new

-- ---- reports

-- Where the count of failures is as it was nothing was reported, and where it rose one failure was: what a report does is `fails`.
abbrev pub ReportsOnce : {T : Type 0} → (T → T → Type 0) → ℕ → ℕ → T → T → Type 0
ReportsOnce fails n n' t t' = ((n' ≡ n) × (t' ≡ t)) ⊎ ((n' ≢ n) × fails t t')
