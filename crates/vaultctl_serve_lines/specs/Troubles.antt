-- What is logged of connections of lines, and of connections that couldn't be taken.
use Rattle.std.specs.Prelude.{ℕ, ◌≡◌, nat_eq, Bool, false, not, List, [], ◌∷◌, length, Option, Some, None}
use Rattle.vaultctl_log.specs.Logging.{IsLogged}
use Rattle.vaultctl_log.specs.declared.entry.Door.{Door}
use Rattle.vaultctl_log.specs.declared.entry.Door.TheVariants as door
use Rattle.vaultctl_log.specs.declared.entry.Facts.{Facts}
use Rattle.vaultctl_log.specs.declared.entry.Trouble.{Trouble}
use Rattle.vaultctl_serve_lines.specs.declared.talk.Talk.{Talk}

-- a part of a line has come on the connection that isn't answered
abbrev pub has_begun : Option Talk → Bool
has_begun None = false
has_begun (Some talk) = not (nat_eq (length talk.unread.items) 0)

module _ {W : Type 0} (contents : W → Option (List ℕ)) where
  -- one entry was logged, of a trouble at a door by which nothing was taken
  abbrev pub LogsTrouble : Option W → Option W → Door → Trouble → Type 0
  LogsTrouble before after at t =
      (f : Facts) × (whole : Bool) × IsLogged contents before f [] [] whole after × (f.door ≡ at) × (f.trouble ≡ Some t)

  -- the same where there was a trouble; else nothing was logged
  abbrev pub LogsIf : Option W → Option W → Door → Option Trouble → Type 0
  LogsIf before after at None = after ≡ before
  LogsIf before after at (Some t) = LogsTrouble before after at t

  -- an entry of each of these troubles was logged, one after another, and no other
  abbrev pub LogsTroubles : List (Door × Trouble) → Option W → Option W → Type 0
  LogsTroubles [] before after = after ≡ before
  LogsTroubles (t ∷ later) before after = (mid : Option W) × LogsTrouble before mid t.0 t.1 × LogsTroubles later mid after

  -- nothing was logged but of what couldn't be taken
  abbrev pub LogsUntaken : Option W → Option W → Type 0
  LogsUntaken before after = (ts : List (Door × Trouble)) × LogsTroubles ts before after

  -- one entry was logged, of a trouble at the door of lines, or nothing was
  abbrev pub LogsAtMostOne : Option W → Option W → Type 0
  LogsAtMostOne before after = (t : Option Trouble) × LogsIf before after door.Lines t
