-- Who gets the lines of the log.
use Rattle.std.specs.Prelude.{ℕ, ◌≡◌, Bool, true, false, List, Option, Some, None}
use Rattle.std.specs.Io.KnownBytes.{Appends}
use Rattle.vault_io.specs.Begins.{Begins}
use Rattle.vaultctl_log.specs.Line.{IsWritten}
use Rattle.vaultctl_log.specs.declared.entry.Facts.{Facts}

-- the text was written whole; or, where writing failed, a beginning of it
abbrev pub Puts : Bool → Option (List ℕ) → Option (List ℕ) → List ℕ → Type 0
Puts true before after text = Appends before after text
Puts false before after text = Begins before after text

-- where somebody gets the lines of the log, the line of the entry was written, whole or where writing failed a beginning of it; where nobody does, nothing failed
abbrev pub IsLogged : {W : Type 0} → (W → Option (List ℕ)) → Option W → Facts → List ℕ → List ℕ → Bool → Option W → Type 0
IsLogged contents None f asked answered whole None = whole ≡ true
IsLogged contents None f asked answered whole (Some w') = ⊥
IsLogged contents (Some w) f asked answered whole None = ⊥
IsLogged contents (Some w) f asked answered whole (Some w') =
    (text : List ℕ) × IsWritten f asked answered text × Puts whole (contents w) (contents w') text
