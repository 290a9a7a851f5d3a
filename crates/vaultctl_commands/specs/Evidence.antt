-- What is printed of a seal, and of whether a vault is lawful.
use Rattle.std.specs.Prelude.{◌≡◌, ◌≤◌, ℕ, ◌∷◌, ◌++◌, [], List, Option, None, Some, codes}
use Rattle.std.specs.Fmt.{decimal}
use Rattle.std.specs.Io.KnownBytes.{Appends}
use Rattle.vault_core_evidence.specs.Breaches.{law_name}
use Rattle.vault_core_evidence.specs.declared.breach.Breach.{Breach}
use Rattle.vault_base.specs.declared.refusal.Refusal.TheVariants.{InvalidArgument}
use Rattle.vault_core_model.specs.Vault.{Vault}
use Rattle.vault_core_model.specs.declared.reply.Reply.TheVariants as reply
use Rattle.vault_files_events.specs.Seal.{IsAhead, moment_asked, seal_of, seal_text}
use Rattle.vault_files_events.specs.declared.seal_lines.Seal.{Seal}
use Rattle.vaultctl_commands.specs.Printed.{PrintsReply, printed}
use Rattle.vaultctl_commands.specs.declared.outcome.Outcome.{Outcome}
use Rattle.vaultctl_commands.specs.declared.outcome.Outcome.TheVariants.{Done, Refused}

-- the four lines of a seal are printed, or the reply that refuses one
abbrev pub PrintsSeal : Outcome → Option (List ℕ) → Option (List ℕ) → Type 0
PrintsSeal Done before after = (seal : Seal) × Appends before after (seal_text seal)
PrintsSeal Refused before after = PrintsReply Refused before after

-- it is the seal of the moment that is given, or of the last one; refused is a moment that the vault hasn't reached
abbrev pub IsSealed : Option ℕ → Vault → Outcome → Option (List ℕ) → Option (List ℕ) → Type 0
IsSealed given v Done before after =
    (moment_asked given v ≤ v.last) × Appends before after (seal_text (seal_of (moment_asked given v) v))
IsSealed given v Refused before after = IsAhead given v × Appends before after (printed (reply.Refused InvalidArgument))

-- each setting and each removal keeps the rules
abbrev pub lawful_line : List ℕ
lawful_line = codes "lawful" ++ 10 ∷ []

-- an entry breaks a rule
abbrev pub unlawful_line : Breach → List ℕ
unlawful_line breach = codes "unlawful " ++ decimal breach.id ++ codes " " ++ law_name breach.law ++ 10 ∷ []

-- the line that says so is printed
abbrev pub PrintsLawful : Outcome → Option (List ℕ) → Option (List ℕ) → Type 0
PrintsLawful Done before after = Appends before after lawful_line
PrintsLawful Refused before after = (breach : Breach) × Appends before after (unlawful_line breach)

-- so it is of a vault whose first breach this is
abbrev pub IsJudged : Option Breach → Outcome → Option (List ℕ) → Option (List ℕ) → Type 0
IsJudged None stated before after = (stated ≡ Done) × Appends before after lawful_line
IsJudged (Some breach) stated before after = (stated ≡ Refused) × Appends before after (unlawful_line breach)
