-- What a server's journal has.
use Rattle.std.specs.Prelude.{◌≡◌, ◌++◌, ℕ, List, Some}
use Rattle.std.specs.declared.io.Write.{Ghosts as Writing}
use Rattle.vault_core_model.specs.Vault.{Vault}
use Rattle.vault_core_model.specs.declared.kept.Kept.{Ghosts}
use Rattle.vaultctl_replay.specs.Journal.{Lacks, LeadTo}
use Rattle.vaultctl_replay.specs.declared.journal.Journal.{Journal}
use Rattle.vaultctl_replay.specs.declared.state.JournalState.TheVariants.{Open}

-- What was appended to a journal that was open are lines by which a copy of the vault of then, which a keeper of this kind keeps, becomes the vault of now; where the journal isn't open any more, that or the one before the last command. So it is where one knows what its writer got.
abbrev pub IsNoted : {W K : Type 0} → Writing W → Ghosts K → Journal W → Journal W → Vault → Vault → Type 0
IsNoted g k j j' v v' =
    (old : List ℕ) (new : List ℕ) → j.state ≡ Open → g.contents j.writer ≡ Some old → g.contents j'.writer ≡ Some new
    → (text : List ℕ) × (new ≡ old ++ text) × (there : Vault) × Lacks j'.state there v' × LeadTo k j'.state text v there
