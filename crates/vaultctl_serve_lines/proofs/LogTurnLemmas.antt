-- What is logged in turns, one after another.
use Rattle.std.proofs.Common.{◌≡◌, ◌+◌, ◌≤◌, ℕ, Bool, List, [], ◌∷◌, ◌++◌, length, Option, None, Some, refl, ap, subst, arith}
use Rattle.std.proofs.lemmas.List.{length-append}
use Rattle.vaultctl_log.specs.declared.entry.Facts.{Facts}
use Rattle.vaultctl_serve.specs.Account.{LogsOne}
use Rattle.vaultctl_serve.proofs.LogLemmas.{LogsOne-in}
use Rattle.vaultctl_serve.specs.Serving.{Missed, Taken, Tries, Try}
use Rattle.vaultctl_serve_lines.specs.Doors.{LogsInTurns, LogsTurns, taken_in}
use Rattle.vaultctl_serve_lines.proofs.TurnLemmas.{known-append, taken-append}

tries-none : (known : Option (List Try)) → Tries known known []
tries-none None = tt
tries-none (Some all) = refl

module _ {D : Type 0} (tries : D → Option (List Try)) (silent : D → D → Type 0) (logs : D → Facts → List ℕ → List ℕ → Bool → D → Type 0) where
  logs-append : (made more : List Try) (before mid after : D) → LogsTurns tries silent logs made before mid → LogsTurns tries silent logs more mid after → LogsTurns tries silent logs (made ++ more) before after
  logs-append [] more before mid after first second = let P : D → Type 0 = λ who. LogsTurns tries silent logs more who after in subst P first second
  logs-append (Taken moment ∷ made) more before mid after first second = (first.0, first.1, logs-append made more first.0 mid after first.2 second)
  logs-append (Missed ∷ made) more before mid after first second = (first.0, first.1, logs-append made more first.0 mid after first.2 second)

  -- no turn was made
  pub LogsInTurns-none : (who : D) → LogsInTurns tries silent logs 0 0 who who
  LogsInTurns-none who = ([], refl, refl, tries-none (tries who), refl)

  -- a request or a line was taken, and its entry heard of
  pub LogsInTurns-taken : (before mid after : D) (shown : Option ℕ) → Tries (tries before) (tries after) (Taken shown ∷ []) → silent before mid
      → ((f : Facts) × (asked answered : List ℕ) × (whole : Bool) × logs mid f asked answered whole after) → LogsInTurns tries silent logs 1 1 before after
  LogsInTurns-taken before mid after shown known quiet log = (Taken shown ∷ [], refl, refl, known, (after, (log.0, (mid, log.1, log.2, log.3, quiet, log.4)), refl))

  -- nothing was taken
  pub LogsInTurns-missed : (before after : D) → Tries (tries before) (tries after) (Missed ∷ []) → silent before after → LogsInTurns tries silent logs 1 0 before after
  LogsInTurns-missed before after known quiet = (Missed ∷ [], refl, refl, known, (after, quiet, refl))

  pub LogsInTurns-append : (turns more n m : ℕ) (before mid after : D) → LogsInTurns tries silent logs turns n before mid → LogsInTurns tries silent logs more m mid after → LogsInTurns tries silent logs (turns + more) (n + m) before after
  LogsInTurns-append turns more n m before mid after first second = (
    first.0 ++ second.0,
    omega (arith, length-append first.0 second.0, first.1, second.1),
    omega (arith, taken-append first.0 second.0, first.2, second.2),
    known-append (tries before) (tries mid) (tries after) first.0 second.0 first.3 second.3,
    logs-append first.0 second.0 before mid after first.4 second.4,
  )

-- What has a log hears in turns what the log does.
module _ {D E : Type 0} (log_of : D → E) (silent : E → E → Type 0) (logs : E → Facts → List ℕ → List ℕ → Bool → E → Type 0) where
  abbrev quiet : D → D → Type 0
  quiet before after = silent (log_of before) (log_of after)

  abbrev hears : D → Facts → List ℕ → List ℕ → Bool → D → Type 0
  hears before f asked answered whole after = logs (log_of before) f asked answered whole (log_of after)

  LogsTurns-in : (made : List Try) (before after : D) → LogsTurns (λ _. None) quiet hears made before after → LogsTurns (λ _. None) silent logs made (log_of before) (log_of after)
  LogsTurns-in [] before after same = ap log_of same
  LogsTurns-in (Taken moment ∷ later) before after (mid, (f, one), rest) = (log_of mid, (f, LogsOne-in log_of silent logs f before mid one), LogsTurns-in later mid after rest)
  LogsTurns-in (Missed ∷ later) before after (mid, still, rest) = (log_of mid, still, LogsTurns-in later mid after rest)

  pub LogsInTurns-in : (turns n : ℕ) (before after : D) → LogsInTurns (λ _. None) quiet hears turns n before after → LogsInTurns (λ _. None) silent logs turns n (log_of before) (log_of after)
  LogsInTurns-in turns n before after (made, many, taken, known, each) = (made, many, taken, known, LogsTurns-in made before after each)
