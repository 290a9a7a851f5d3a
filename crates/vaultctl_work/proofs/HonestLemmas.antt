-- What a script comes to, where the device has returned what was written; a list is always honest.
use Rattle.std.proofs.Common.{◌≡◌, ℕ, List, [], ◌∷◌, Option, Result, Ok, Err, refl}
use Rattle.std.specs.Prelude.{OnOk, OnErr}
use Rattle.std.specs.Io.KnownBytes.{Consumes, IsAtEnd}
use Rattle.vault_core_model.specs.Vault.{Vault}
use Rattle.vault_core_model.specs.declared.reply.Reply.{Reply}
use Rattle.vault_lines_read.specs.declared.read_line.Line.TheVariants.{Command, Refused, Skip}
use Rattle.vault_lines_read.specs.declared.read_line.Line.{Line}
use Rattle.vaultctl_replay.specs.Runs.{Answers, Runs, Began, Finished, AnswersAll, AnswersEnded, AnswersSome}
use Rattle.vaultctl_replay.specs.declared.fault.ReplayFault.{ReplayFault}
use Rattle.vaultctl_replay.specs.declared.fault.ReplayFault.TheVariants.{Memory, Read, Write}
use Rattle.vaultctl_work.specs.Done.{IsScriptAnswered}
use Rattle.vaultctl_work.specs.Outcomes.{replayed}
use Rattle.vaultctl_work.specs.Scene.{Scene}

answers_of : (H : Type 0) (h : H) (v v' : Vault) (n n' : ℕ) (asked : Line) (out : List Reply) → Answers H v n asked out v' n' → Answers (Unit {0}) v n asked out v' n'
answers_of H h v v' n n' Skip out a = a
answers_of H h v v' n n' (Refused r) out a = a
answers_of H h v v' n n' (Command c) out a = (a.0, λ _. a.1 h, a.2, a.3)

runs_of : (H : Type 0) (h : H) (v v' : Vault) (n n' : ℕ) (asked : List Line) (out : List Reply) → Runs H v n asked out v' n' → Runs (Unit {0}) v n asked out v' n'
runs_of H h v v' n n' [] out r = r
runs_of H h v v' n n' (line ∷ asked) out r = (r.0, r.1, r.2, r.3, answers_of H h v r.0 n r.1 line r.2 r.4, runs_of H h r.0 v' r.1 n' asked r.3 r.5, r.6)

finished_of : (H : Type 0) (h : H) (a b : Vault) (i j : ℕ) (u v : Option (List ℕ)) (ls : List Line) → Finished H a i u ls b j v → Finished (Unit {0}) a i u ls b j v
finished_of H h a b i j u v ls r = (r.0, runs_of H h a b i j ls r.0 r.1, r.2)

began_of : (H : Type 0) (h : H) (a b : Vault) (i j : ℕ) (u v : Option (List ℕ)) (ls : List Line) → Began H a i u ls b j v → Began (Unit {0}) a i u ls b j v
began_of H h a b i j u v ls r =
    (r.0, r.1, r.2, r.3, r.4, r.5, r.6, r.7, r.8, r.9, r.10, runs_of H h a r.5 i r.6 r.0 r.7 r.11, runs_of H h r.5 b r.6 j r.1 r.8 r.12, r.13, r.14)

-- the replies are those of the machine
module _ (H : Type 0) (h : H) (old new : Scene) (n n' : ℕ) where
  pub answered_by : (answered : Result (Unit {0}) ReplayFault)
      → OnOk answered ((input : List ℕ) × Consumes old.input new.input input × IsAtEnd new.input × AnswersAll H old.vault n old.output input new.vault n' new.output)
      → OnErr answered ((taken : List ℕ) × Consumes old.input new.input taken × AnswersSome H (IsAtEnd new.input) old.vault n old.output taken new.vault n' new.output)
      → (answered ≡ Err Read → (taken : List ℕ) × Consumes old.input new.input taken × AnswersEnded H old.vault n old.output taken new.vault n' new.output)
      → IsScriptAnswered n n' (replayed answered) old new
  answered_by (Ok t) r some ended = (r.0, r.1, r.2, (r.3.0, r.3.1, finished_of H h _ _ _ _ _ _ r.3.0 r.3.2))
  answered_by (Err Read) all some ended = let r = ended refl in (r.0, r.1, (r.2.0, r.2.1, finished_of H h _ _ _ _ _ _ r.2.0 r.2.2))
  answered_by (Err Write) all r ended = (r.0, r.1, (r.2.0, r.2.1, began_of H h _ _ _ _ _ _ r.2.0 r.2.2))
  answered_by (Err Memory) all r ended = (r.0, r.1, (r.2.0, r.2.1, began_of H h _ _ _ _ _ _ r.2.0 r.2.2))
