-- Lines that are carried out one after another, and what is written of their replies.
use Rattle.std.specs.Prelude.{◌≡◌, ◌≤◌, ℕ, List, [], ◌∷◌, ◌++◌, length, Option, false, Result, MatchResult}
use Rattle.std.specs.Io.KnownBytes.{Appends}
use Rattle.std.specs.List.{flat_map, list_any}
use Rattle.std.specs.declared.io.Write.{Ghosts as Writing}
use Rattle.vault_core_model.specs.Leaves.{count_after}
use Rattle.vault_core_model.specs.Halts.{is_device_reply}
use Rattle.vault_core_model.specs.Step.{IsStep}
use Rattle.vault_core_model.specs.Vault.{Vault}
use Rattle.vault_core_model.specs.declared.command.Timed.{Timed}
use Rattle.vault_core_model.specs.declared.kept.Kept.{Ghosts}
use Rattle.vault_core_model.specs.declared.reply.Reply.{Reply}
use Rattle.vault_core_model.specs.declared.reply.Reply.TheVariants as reply
use Rattle.vault_lines_reply.specs.ReplyLine.{reply_text}
use Rattle.vault_lines_read.specs.declared.read_line.Line.{Line}
use Rattle.vault_lines_read.specs.declared.read_line.Line.TheVariants.{Skip, Command, Refused}
use Rattle.vault_io.specs.Begins.{Begins}
use Rattle.vaultctl_replay.specs.Lines.{AskFor, AskSoFar, EndedAskFor}
use Rattle.vaultctl_replay.specs.declared.fault.ReplayFault.{ReplayFault}
use Rattle.vaultctl_replay.specs.declared.fault.ReplayFault.TheVariants as faults

-- what is to be written of the replies
abbrev pub lines_of : List Reply → List ℕ
lines_of replies = flat_map reply_text replies

-- A line that asks for this may have these replies, and lead from v to v': an empty one has none, and a command that to its step. The keeper's count of failures goes from n to n', which is one more, up to its greatest value, exactly where the reply reports that the device failed. Here and below Honest says that the device has returned what was written; what is said of a step holds then.
abbrev pub Answers : Type 0 → Vault → ℕ → Line → List Reply → Vault → ℕ → Type 0
Answers Honest v n Skip replies v' n' = (replies ≡ []) × (v' ≡ v) × (n' ≡ n)
Answers Honest v n (Refused r) replies v' n' = (replies ≡ reply.Refused r ∷ []) × (v' ≡ v) × (n' ≡ n)
Answers Honest v n (Command c) replies v' n' =
    (r : Reply) × (Honest → IsStep v c.at c.who c.command r v') × (replies ≡ r ∷ []) × (n' ≡ count_after n (is_device_reply r))

-- the lines lead from v to v', one after another, and these are their replies
abbrev pub Runs : Type 0 → Vault → ℕ → List Line → List Reply → Vault → ℕ → Type 0
Runs Honest v n [] replies v' n' = (replies ≡ []) × (v' ≡ v) × (n' ≡ n)
Runs Honest v n (asked ∷ later) replies v' n' =
    (mid : Vault) × (between : ℕ) × (first : List Reply) × (others : List Reply) × Answers Honest v n asked first mid between × Runs Honest mid between later others v' n' × (replies ≡ first ++ others)

-- the lines were carried out, and their replies written
abbrev pub Finished : Type 0 → Vault → ℕ → Option (List ℕ) → List Line → Vault → ℕ → Option (List ℕ) → Type 0
Finished Honest v n w asked v' n' w' = (replies : List Reply) × Runs Honest v n asked replies v' n' × Appends w w' (lines_of replies)

-- The first lines were carried out and their replies written; of one line more, or of none, a beginning of its reply. Those after it weren't begun.
abbrev pub Began : Type 0 → Vault → ℕ → Option (List ℕ) → List Line → Vault → ℕ → Option (List ℕ) → Type 0
Began Honest v n w asked v' n' w' =
    (answered : List Line) × (begun : List Line) × (later : List Line) × (asked ≡ answered ++ begun ++ later) × (length begun ≤ 1)
    × (mid : Vault) × (between : ℕ) × (replies : List Reply) × (last : List Reply) × (sent : List ℕ) × (unsent : List ℕ)
    × Runs Honest v n answered replies mid between × Runs Honest mid between begun last v' n' × (lines_of last ≡ sent ++ unsent) × Appends w w' (lines_of replies ++ sent)

-- all lines of the input were carried out, and their replies written
abbrev pub AnswersAll : Type 0 → Vault → ℕ → Option (List ℕ) → List ℕ → Vault → ℕ → Option (List ℕ) → Type 0
AnswersAll Honest v n w input v' n' w' = (asked : List Line) × AskFor input asked × Finished Honest v n w asked v' n' w'

-- each line that ends in these bytes was carried out, and their replies written
abbrev pub AnswersEnded : Type 0 → Vault → ℕ → Option (List ℕ) → List ℕ → Vault → ℕ → Option (List ℕ) → Type 0
AnswersEnded Honest v n w taken v' n' w' = (asked : List Line) × EndedAskFor taken asked × Finished Honest v n w asked v' n' w'

-- the first lines were answered, and at most one more was begun
abbrev pub AnswersSome : Type 0 → Type 0 → Vault → ℕ → Option (List ℕ) → List ℕ → Vault → ℕ → Option (List ℕ) → Type 0
AnswersSome Honest AtEnd v n w taken v' n' w' = (asked : List Line) × AskSoFar AtEnd taken asked × Began Honest v n w asked v' n' w'

-- The first lines were carried out, and these are their replies, whatever is known of the writer; what is written is their lines, or a beginning of those. Where none of them says that the device failed, the count of failures is as it was.
abbrev pub Steady : Type 0 → Type 0 → Vault → ℕ → Option (List ℕ) → List ℕ → Vault → ℕ → Option (List ℕ) → Type 0
Steady Honest AtEnd v n w taken v' n' w' =
    (made : List Line) × (later : List Line) × (replies : List Reply) × AskSoFar AtEnd taken (made ++ later) × Runs Honest v n made replies v' n'
    × Begins w w' (lines_of replies) × (list_any is_device_reply replies ≡ false → n' ≡ n)

-- ---- the same, of the keeper and the writer of a call before it and after it

module _ {K : Type 0} (g : Ghosts K) (old new : K) {W : Type 0} (w : Writing W) (before after : W) where
  -- the keeper carried the lines out, and their replies were written
  abbrev pub FinishedBy : List Line → Type 0
  FinishedBy asked = Finished (g.is_honest new) (g.vault old) (g.count old) (w.contents before) asked (g.vault new) (g.count new) (w.contents after)

  -- the keeper carried the first lines out, and their replies were written; of one line more, or of none, a beginning of its reply
  abbrev pub BeganBy : List Line → Type 0
  BeganBy asked = Began (g.is_honest new) (g.vault old) (g.count old) (w.contents before) asked (g.vault new) (g.count new) (w.contents after)

-- ---- one line, and what is heard of it

-- what a fault leaves written of a reply: a beginning where the writer failed, nothing where there was no room
abbrev pub SentBefore : ReplayFault → Option (List ℕ) → Option (List ℕ) → List ℕ → Type 0
SentBefore faults.Read w w' out = ⊥
SentBefore faults.Write w w' out = Begins w w' out
SentBefore faults.Memory w w' out = w' ≡ w

-- the reply was written, or what a fault leaves of it
abbrev pub Sent : {T : Type 0} → Result T ReplayFault → Option (List ℕ) → Option (List ℕ) → List ℕ → Type 0
Sent result w w' out = MatchResult result (λ _. Appends w w' out) (λ fault. SentBefore fault w w' out)

module _ {K : Type 0} (g : Ghosts K) (old new : K) {J : Type 0} (hears : J → Timed → Reply → J → Type 0) (j j' : J) where
  -- The line was carried out, and so much is said of what is to be written of its reply. Its command was heard of, with that reply; where it asks for none, nothing was.
  abbrev pub HeardBy : (List ℕ → Type 0) → Line → Type 0
  HeardBy Writes Skip = (g.vault new ≡ g.vault old) × (g.count new ≡ g.count old) × (j' ≡ j) × Writes []
  HeardBy Writes (Refused r) = (g.vault new ≡ g.vault old) × (g.count new ≡ g.count old) × (j' ≡ j) × Writes (reply_text (reply.Refused r))
  HeardBy Writes (Command c) =
      (r : Reply) × (g.is_honest new → IsStep (g.vault old) c.at c.who c.command r (g.vault new)) × (g.count new ≡ count_after (g.count old) (is_device_reply r)) × hears j c r j' × Writes (reply_text r)
