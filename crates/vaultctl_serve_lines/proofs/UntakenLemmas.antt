-- What is logged of what couldn't be taken, one trouble after another.
use Rattle.std.proofs.Common.{◌≡◌, ℕ, List, [], ◌∷◌, ◌++◌, Option, None, Some, refl, sym, subst}
use Rattle.vaultctl_log.specs.declared.entry.Door.{Door}
use Rattle.vaultctl_log.specs.declared.entry.Door.TheVariants as door
use Rattle.vaultctl_log.specs.declared.entry.Trouble.{Trouble}
use Rattle.vaultctl_serve_lines.specs.Doors.{HasArrived}
use Rattle.vaultctl_serve_lines.specs.declared.doors.Arrived.{Arrived}
use Rattle.vaultctl_serve_lines.specs.declared.doors.Arrived.TheVariants as arrived
use Rattle.vaultctl_serve_lines.specs.Troubles.{LogsAtMostOne, LogsIf, LogsTrouble, LogsTroubles, LogsUntaken}

module _ {W : Type 0} (contents : W → Option (List ℕ)) where
  troubles-append : (ts more : List (Door × Trouble)) (before mid after : Option W) → LogsTroubles contents ts before mid → LogsTroubles contents more mid after → LogsTroubles contents (ts ++ more) before after
  troubles-append [] more before mid after first second = let P : Option W → Type 0 = λ log. LogsTroubles contents more log after in subst P first second
  troubles-append (t ∷ ts) more before mid after first second = (first.0, first.1, troubles-append ts more first.0 mid after first.2 second)

  pub untaken-none : (before after : Option W) → after ≡ before → LogsUntaken contents before after
  untaken-none before after same = ([], same)

  pub untaken-one : (before after : Option W) (at : Door) (t : Trouble) → LogsTrouble contents before after at t → LogsUntaken contents before after
  untaken-one before after at t one = ((at, t) ∷ [], (after, one, refl))

  pub untaken-if : (before after : Option W) (at : Door) (t : Option Trouble) → LogsIf contents before after at t → LogsUntaken contents before after
  untaken-if before after at None same = untaken-none before after same
  untaken-if before after at (Some t) one = untaken-one before after at t one

  pub untaken-most : (before after : Option W) → LogsAtMostOne contents before after → LogsUntaken contents before after
  untaken-most before after one = untaken-if before after door.Lines one.0 one.1

  pub untaken-then : (before mid after : Option W) → LogsUntaken contents before mid → LogsUntaken contents mid after → LogsUntaken contents before after
  untaken-then before mid after first second = (first.0 ++ second.0, troubles-append first.0 second.0 before mid after first.1 second.1)

-- where turns aren't known, whatever comes comes
pub arrived-any : {P Q : Type 0} (came : Arrived P Q) → HasArrived None None None came
arrived-any (arrived.Request peer) = tt
arrived-any (arrived.Line heard talker) = tt
arrived-any arrived.Nothing = tt
