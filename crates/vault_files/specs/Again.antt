-- A list that is taken in again.
use Rattle.std.specs.Prelude.{◌≡◌, ◌≤◌, ℕ, Bool, true, false, IsTrue, List, [], ◌∷◌, Option, Some, None, IsSome}
use Rattle.std.specs.List.{AllByRecursion}
use Rattle.vault_base.specs.Days.{last_moment}
use Rattle.vault_base.specs.declared.refusal.Refusal.{Refusal}
use Rattle.vault_base.specs.declared.refusal.Refusal.TheVariants.{ClockBack}
use Rattle.vault_core_model.specs.declared.command.Command.{Command}
use Rattle.vault_core_model.specs.declared.command.Command.TheVariants as command
use Rattle.vault_core_model.specs.declared.command.Timed.{Timed}
use Rattle.vault_core_model.specs.declared.reply.Answer.TheVariants as answer
use Rattle.vault_core_model.specs.declared.reply.Reply.{Reply}
use Rattle.vault_core_model.specs.declared.reply.Reply.TheVariants.{Done, Refused}
use Rattle.vault_core_model.specs.Step.{IsRun}
use Rattle.vault_core_model.specs.Vault.{Vault}
use Rattle.vault_files_intake.specs.declared.folder.File.{File}
use Rattle.vault_files_intake.specs.declared.report.RowReply.{RowReply}
use Rattle.vault_files_intake.specs.TakenIn.{TakesIn}

-- a removal of a version
abbrev pub is_removal : Command → Bool
is_removal (command.DeleteVersion c) = true
is_removal _ = false

abbrev pub AreRemovals : List Timed → Type 0
AreRemovals commands = AllByRecursion (λ c. IsTrue (is_removal c.command)) commands

-- The same caller took the same list in twice, by the same files: rows and stop are what the first intake answered, later and cut what the second did, which led from v to v'. Between them nothing but versions were removed. The second reading is before neither the first one nor the last moment.
pub record IsGivenAgain (rows : List RowReply) (stop : Option Refusal) (v : Vault) (later : List RowReply) (cut : Option Refusal) (v' : Vault) : Type 0 where
  pub files : List File
  pub who : List ℕ
  pub bucket : List ℕ
  pub batch : List ℕ
  pub list : List ℕ
  pub first : ℕ
  pub second : ℕ
  pub before : Vault
  pub between : Vault
  pub removals : List Timed
  pub replies : List Reply
  pub taken : TakesIn (Some files) first who bucket batch list before rows stop between
  pub removed : IsRun between removals replies v
  pub only : AreRemovals removals
  pub again : TakesIn (Some files) second who bucket batch list v later cut v'
  pub goes_on : first ≤ second
  pub in_time : v.last ≤ second
  pub is_moment : second ≤ last_moment

-- a row that had an id is answered by that id, as one that was accepted before
abbrev pub IsAnsweredAgain : Reply → Reply → Type 0
IsAnsweredAgain (Done (answer.TakenIn x)) again = again ≡ Done (answer.TakenIn (record { id = x.id; again = true }))
IsAnsweredAgain _ again = Unit {0}

-- so is each of these rows that had an id, one after another; there are fewer only where a stop cut them off
abbrev pub AreAnsweredAgain : List RowReply → List RowReply → Option Refusal → Type 0
AreAnsweredAgain [] later cut = Unit {0}
AreAnsweredAgain (row ∷ rows) [] cut = IsSome cut
AreAnsweredAgain (row ∷ rows) (again ∷ later) cut =
    (again.line ≡ row.line) × IsAnsweredAgain row.reply again.reply × AreAnsweredAgain rows later cut

-- a row that was refused for a reading before the last moment
abbrev pub is_clock_back : Reply → Bool
is_clock_back (Refused ClockBack) = true
is_clock_back _ = false

-- no row was
abbrev pub MeetNoClockBack : List RowReply → Type 0
MeetNoClockBack rows = AllByRecursion (λ row. is_clock_back row.reply ≡ false) rows

-- each row that had an id is answered by that id, up to a stop
abbrev pub IdsAreAnsweredAgain : Type 0
IdsAreAnsweredAgain =
    (rows later : List RowReply) (stop cut : Option Refusal) (v v' : Vault)
    → IsGivenAgain rows stop v later cut v' → AreAnsweredAgain rows later cut

-- where the first intake came to its end and no row of it met a clock that went back, the second one changes nothing
abbrev pub NothingIsAdmittedAgain : Type 0
NothingIsAdmittedAgain =
    (rows later : List RowReply) (stop cut : Option Refusal) (v v' : Vault)
    → IsGivenAgain rows stop v later cut v' → stop ≡ None → MeetNoClockBack rows → v' ≡ v
