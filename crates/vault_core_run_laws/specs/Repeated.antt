-- A lifecycle run that is given again until it is done.
use Rattle.std.specs.Prelude.{◌≡◌, ◌≤◌, ℕ, List, [], ◌∷◌, ◌++◌, sum_by}
use Rattle.vault_core_model.specs.declared.command.Command.{Command}
use Rattle.vault_core_model.specs.declared.command.Timed.{Timed}
use Rattle.vault_core_model.specs.declared.reply.Answer.{Answer}
use Rattle.vault_core_model.specs.declared.reply.Reply.{Reply}
use Rattle.vault_core_model.specs.declared.reply.Reply.TheVariants.{Done}
use Rattle.vault_core_model.specs.Vault.{Vault}
use Rattle.vault_core_run_laws.specs.Repeats.{AreCut, IsBegun, IsCompleted, changes_reported, runs_by}

-- a command alone
abbrev pub one_command : ℕ → List ℕ → Command → List Timed
one_command t who c = record { at = t; who = who; command = c } ∷ []

-- where these commands ask for runs over one bucket at one moment, and a fault cut each of them: they are a beginning of one run, and the rest of it is what is left to do
abbrev pub BeginRun : Vault → List Timed → List Reply → Vault → Type 0
BeginRun v commands replies after =
    (bucket : List ℕ) (t : ℕ) (callers : List (List ℕ))
    → v.last ≤ t → commands ≡ runs_by bucket t callers → AreCut replies
    → IsBegun v after bucket t (sum_by changes_reported replies)

-- where a fault cut each of them but the last one, which was done: together they are one run that nothing stopped
abbrev pub CompleteRun : Vault → List Timed → List Reply → Vault → Type 0
CompleteRun v commands replies after =
    (bucket : List ℕ) (t : ℕ) (callers : List (List ℕ)) (cut : List Reply) (last : Answer)
    → v.last ≤ t → commands ≡ runs_by bucket t callers → AreCut cut → replies ≡ cut ++ Done last ∷ []
    → IsCompleted v after bucket t (sum_by changes_reported replies)
