-- What a journal of a run has, and where its lines lead.
use Rattle.std.specs.Prelude.{◌≡◌, ◌≢◌, ◌≤◌, ◌⊎◌, ◌++◌, ◌&&◌, ℕ, false, List, [], ◌∷◌, length, take, drop, Option}
use Rattle.std.specs.List.{list_any}
use Rattle.std.specs.declared.io.Write.{Ghosts as Writing}
use Rattle.vault_core_outcome.specs.Outcome.{reports_fault}
use Rattle.vault_core_model.specs.Vault.{Vault}
use Rattle.vault_core_model.specs.declared.command.Timed.{Timed}
use Rattle.vault_core_model.specs.declared.kept.Kept.{Ghosts}
use Rattle.vault_core_model.specs.declared.reply.Reply.{Reply}
use Rattle.vault_core.specs.Hearing.{AtMostOne}
use Rattle.vault_lines_read.specs.declared.read_line.Line.{Line}
use Rattle.vaultctl_replay.specs.Changes.{changing, is_change, is_cut}
use Rattle.vaultctl_replay.specs.Entries.{Hearing, IsRecord, end_line, is_open}
use Rattle.vaultctl_replay.specs.declared.journal.Journal.{Journal}
use Rattle.vaultctl_replay.specs.declared.state.JournalState.{JournalState}
use Rattle.vaultctl_replay.specs.declared.state.JournalState.TheVariants.{Open, Ended, Lost}
use Rattle.vaultctl_replay.specs.Lines.{AskSoFar, HasNoLf, ended}
use Rattle.vaultctl_replay.specs.Runs.{Runs}

-- A journal heard of a command and its reply: a change is noted while the journal is open, and nothing else is.
abbrev pub Hears : {W : Type 0} → Writing W → Journal W → Timed → Reply → Journal W → Type 0
Hears g j t reply j' = Hearing (is_open j.state && is_change reply) j.state j'.state (is_cut reply) t (g.contents j.writer) (g.contents j'.writer)

-- ---- the lines of a run

-- the bytes are a line for each of these commands
abbrev pub Records : List ℕ → List Timed → Type 0
Records bytes [] = bytes ≡ []
Records bytes (c ∷ cs) = (first : List ℕ) × (later : List ℕ) × IsRecord c first × (bytes ≡ first ++ later) × Records later cs

-- the bytes are a line for each change of a run, none of which a fault cut
abbrev pub AreRecords : List ℕ → List Timed → List Reply → Type 0
AreRecords bytes cs replies = Records bytes (changing cs replies) × (list_any is_cut replies ≡ false)

-- What comes after the lines. An open journal has a line for each change, and nothing after them. One that ended has them up to the last command, and then the last line. One that was lost lacks at most the last command's, of which it may have a part, or the last line in its place.
abbrev pub IsRest : JournalState → List ℕ → List Timed → Type 0
IsRest Open rest unheard = (rest ≡ []) × (unheard ≡ [])
IsRest Ended rest unheard = (rest ≡ ended end_line) × (length unheard ≡ 1)
IsRest Lost rest unheard = (HasNoLf rest ⊎ (rest ≡ ended end_line)) × (length unheard ≤ 1)

-- the bytes are a line for each change of the first n commands of a run, and a rest
pub record IsJournal (state : JournalState) (bytes : List ℕ) (cs : List Timed) (replies : List Reply) : Type 0 where
  pub lines : List ℕ
  pub rest : List ℕ
  pub n : ℕ
  pub whole : bytes ≡ lines ++ rest
  pub records : AreRecords lines (take n cs) (take n replies)
  pub ends : IsRest state rest (drop n cs)

-- ---- where they lead

-- the vault is the one to which the lines lead; or, where the journal isn't open, the one after the step of one command more
abbrev pub Lacks : JournalState → Vault → Vault → Type 0
Lacks Open there now = now ≡ there
Lacks Ended there now = (moment : Option ℕ) × AtMostOne moment there now
Lacks Lost there now = (moment : Option ℕ) × AtMostOne moment there now

-- A copy of v that carries out the lines, one after another, keeps the other vault then, where no reply reports a fault. What comes after the last LF of a lost journal is no line.
abbrev pub LeadTo : {K : Type 0} → Ghosts K → JournalState → List ℕ → Vault → Vault → Type 0
LeadTo {K} g state bytes v there =
    (copy copy' : K) (asked : List Line) (replies : List Reply) → g.is_honest copy' → g.vault copy ≡ v → AskSoFar (state ≢ Lost) bytes asked
    → Runs (g.is_honest copy') (g.vault copy) (g.count copy) asked replies (g.vault copy') (g.count copy') → list_any reports_fault replies ≡ false → g.vault copy' ≡ there
