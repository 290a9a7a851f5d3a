-- The command of a record, step by step.
use Rattle.std.proofs.Common.{◌≡◌, ℕ, List, refl, sym}
use Rattle.std.specs.Prelude.{false, Option, Some, None, Ok, Err}
use Rattle.vault_base.specs.declared.content.Content.{Content}
use Rattle.vault_core_model.specs.declared.command.Intake.{Intake}
use Rattle.vault_core_model.specs.declared.halt.Halt.{Halt}
use Rattle.vault_core_model.specs.declared.halt.Halt.TheVariants as halt
use Rattle.vault_core_model.specs.declared.command.Command.TheVariants as command
use Rattle.vault_core_model.specs.declared.reply.Reply.{Reply}
use Rattle.vault_core_model.specs.Halts.{HaltsAs}
use Rattle.vault_core_model.specs.Step.{IsStep}
use Rattle.vault_core_model.specs.Vault.{Vault}
use Rattle.vault_files_intake.specs.Row.{row_of}
use Rattle.vault_files_intake.specs.declared.row.Row.{Row}
use Rattle.vault_files_intake.specs.declared.folder.File.{File}
use Rattle.vault_files_intake.specs.Folder.{Holds, file_in}
use Rattle.vault_files_intake.specs.TakenIn.{content_of, command_of, intake_of, is_fault_reply, AnswersRow, Asks, MayAnswer}

-- the answers of a folder that gave this one
answers : (files : Option (List File)) (name : List ℕ) (found : Option (List ℕ)) → Holds files name found → (folder : List ℕ → Option (List ℕ)) × MayAnswer files folder × (folder name ≡ found)
answers None name found h = (λ _. found, λ _. tt, refl)
answers (Some files) name found h = (file_in files, λ _. refl, sym h)

-- any answers of a folder
some_answers : (files : Option (List File)) → (folder : List ℕ → Option (List ℕ)) × MayAnswer files folder
some_answers None = (λ _. None, λ _. tt)
some_answers (Some files) = (file_in files, λ _. refl)

-- a cell is at fault
pub row_failed : (files : Option (List File)) (bucket batch : List ℕ) (line : ℕ) (cells : List (List ℕ)) (e : Halt) → HaltsAs e (row_of cells) → Asks files bucket batch line cells (Err e)
unfolding command_of
row_failed files bucket batch line cells (halt.Fault f) h = tt
row_failed files bucket batch line cells (halt.Refused r) h = let any = some_answers files in (any.0, any.1, rw h refl)

-- the file is at fault
pub content_failed : (files : Option (List File)) (bucket batch : List ℕ) (line : ℕ) (cells : List (List ℕ)) (row : Row) (found : Option (List ℕ)) (e : Halt) → row_of cells ≡ Ok row → Holds files row.file found → HaltsAs e (content_of found) → Asks files bucket batch line cells (Err e)
unfolding command_of
content_failed files bucket batch line cells row found (halt.Fault f) read held h = tt
content_failed files bucket batch line cells row found (halt.Refused r) read held h = let given = answers files row.file found held in (given.0, given.1, rw (read, given.2, h) refl)

-- neither is
pub command_made : (files : Option (List File)) (bucket batch : List ℕ) (line : ℕ) (cells : List (List ℕ)) (row : Row) (found : Option (List ℕ)) (content : Content) (c : Intake) → row_of cells ≡ Ok row → Holds files row.file found → content_of found ≡ Ok content → c ≡ intake_of bucket batch line row content → Asks files bucket batch line cells (Ok c)
unfolding command_of
command_made files bucket batch line cells row found content c read held small made = let given = answers files row.file found held in (given.0, given.1, rw (read, given.2, small, made) refl)

-- the command of a row is carried out
pub command_judged : (files : Option (List File)) (t : ℕ) (who bucket batch : List ℕ) (line : ℕ) (cells : List (List ℕ)) (c : Intake) (v : Vault) (answer : Reply) (v' : Vault) → Asks files bucket batch line cells (Ok c) → (is_fault_reply answer ≡ false) × IsStep v t who (command.Intake c) answer v' → AnswersRow files t who bucket batch line cells v answer v'
command_judged files t who bucket batch line cells c v answer v' asked done = (asked.0, asked.1, rw (asked.2) done)
