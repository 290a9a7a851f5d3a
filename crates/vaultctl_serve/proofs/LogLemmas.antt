-- Entries of a log, one after another.
use Rattle.std.proofs.Common.{◌≡◌, ◌+◌, ℕ, Bool, List, [], ◌∷◌, ◌++◌, refl, ap, subst, arith}
use Rattle.std.proofs.lemmas.List.{length-append}
use Rattle.vaultctl_log.specs.declared.entry.Facts.{Facts}
use Rattle.vaultctl_serve.specs.Account.{LogsEach, LogsExactly, LogsOne, LogsWhile}

module _ {D : Type 0} (silent : D → D → Type 0) (logs : D → Facts → List ℕ → List ℕ → Bool → D → Type 0) where
  LogsEach-append : (fs more : List Facts) (before mid after : D) → LogsEach silent logs fs before mid → LogsEach silent logs more mid after → LogsEach silent logs (fs ++ more) before after
  LogsEach-append [] more before mid after first second = let P : D → Type 0 = λ who. LogsEach silent logs more who after in subst P first second
  LogsEach-append (f ∷ fs) more before mid after first second = (first.0, first.1, LogsEach-append fs more first.0 mid after first.2 second)

  -- nothing was heard of
  pub Logs-none : (who : D) → LogsExactly silent logs 0 who who
  Logs-none who = ([], refl, refl)

  -- one entry more
  pub Logs-more : (n : ℕ) (before mid after : D) → LogsExactly silent logs n before mid → ((f : Facts) × LogsOne silent logs f mid after) → LogsExactly silent logs (n + 1) before after
  Logs-more n before mid after first (f, one) = (
    first.0 ++ f ∷ [],
    omega (arith, length-append first.0 (f ∷ []), first.1),
    LogsEach-append first.0 (f ∷ []) before mid after first.2 (after, one, refl),
  )

  -- as many as there were to be
  pub Logs-all : (going : Bool) (n most : ℕ) (before after : D) → n ≡ most → LogsExactly silent logs n before after → LogsWhile silent logs going most before after
  Logs-all going n most before after all each = (n, omega (arith, all), λ _. all, each)

-- What has a log hears what the log does.
module _ {D E : Type 0} (log_of : D → E) (silent : E → E → Type 0) (logs : E → Facts → List ℕ → List ℕ → Bool → E → Type 0) where
  abbrev quiet : D → D → Type 0
  quiet before after = silent (log_of before) (log_of after)

  abbrev hears : D → Facts → List ℕ → List ℕ → Bool → D → Type 0
  hears before f asked answered whole after = logs (log_of before) f asked answered whole (log_of after)

  pub LogsOne-in : (f : Facts) (before after : D) → LogsOne quiet hears f before after → LogsOne silent logs f (log_of before) (log_of after)
  LogsOne-in f before after (mid, asked, answered, whole, still, one) = (log_of mid, asked, answered, whole, still, one)

  LogsEach-in : (fs : List Facts) (before after : D) → LogsEach quiet hears fs before after → LogsEach silent logs fs (log_of before) (log_of after)
  LogsEach-in [] before after same = ap log_of same
  LogsEach-in (f ∷ fs) before after (mid, one, each) = (log_of mid, LogsOne-in f before mid one, LogsEach-in fs mid after each)

  pub LogsWhile-in : (going : Bool) (most : ℕ) (before after : D) → LogsWhile quiet hears going most before after → LogsWhile silent logs going most (log_of before) (log_of after)
  LogsWhile-in going most before after (n, low, all, (fs, many, each)) = (n, low, all, (fs, many, LogsEach-in fs before after each))
