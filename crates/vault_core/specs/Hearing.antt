-- What is heard of commands that are carried out.
use Rattle.std.specs.Prelude.{ℕ, ◌≡◌, ◌⊎◌, Bool, true, List, [], ◌∷◌, Option, Some}
use Rattle.vault_core_model.specs.Step.{IsRun, IsStep}
use Rattle.vault_core_model.specs.Vault.{Vault}
use Rattle.vault_core_model.specs.declared.command.Command.{Command}
use Rattle.vault_core_model.specs.declared.command.Timed.{Timed}
use Rattle.vault_core_model.specs.declared.reply.Reply.{Reply}

-- a command with its reading and the caller who gives it
abbrev pub timed : ℕ → List ℕ → Command → Timed
timed at who c = record { at = at; who = who; command = c }

-- at most one step was made, at the reading
abbrev pub AtMostOne : Option ℕ → Vault → Vault → Type 0
AtMostOne moment old new =
    (new ≡ old) ⊎ ((at : ℕ) × (who : List ℕ) × (c : Command) × (reply : Reply) × (moment ≡ Some at) × IsStep old at who c reply new)

-- What is heard of a command is a relation: who hears, the command, its reply, who heard.
module _ {J : Type 0} (hears : J → Timed → Reply → J → Type 0) where
  -- nothing was carried out and nothing heard; or one command was, at the moment, and it was heard of with its reply
  abbrev pub HearsOnce : J → J → Option ℕ → Vault → Vault → Type 0
  HearsOnce before after moment old new =
      ((new ≡ old) × (after ≡ before))
      ⊎ ((c : Timed) × (reply : Reply) × (moment ≡ Some c.at) × IsStep old c.at c.who c.command reply new × hears before c reply after)

  -- the same at some moment
  abbrev pub HearsSome : J → J → Vault → Vault → Type 0
  HearsSome before after old new = (moment : Option ℕ) × HearsOnce before after moment old new

-- And whether more commands may be carried out.
module _ {J : Type 0} (going : J → Bool) (hears : J → Timed → Reply → J → Type 0) where
  -- these commands were heard of with these replies, one after another, each while it might be carried out
  abbrev pub AreHeard : J → J → List Timed → List Reply → Type 0
  AreHeard before after [] [] = after ≡ before
  AreHeard before after (c ∷ cs) (reply ∷ replies) =
      (going before ≡ true) × (mid : J) × hears before c reply mid × AreHeard mid after cs replies
  AreHeard before after [] (reply ∷ replies) = ⊥
  AreHeard before after (c ∷ cs) [] = ⊥

  -- commands lead from the one vault to the other, and each was heard of with its reply, while it might be carried out
  abbrev pub HearsAll : J → J → Vault → Vault → Type 0
  HearsAll before after old new = (cs : List Timed) × (replies : List Reply) × IsRun old cs replies new × AreHeard before after cs replies
