-- What is printed of a reply, and what came of its command.
use Rattle.std.specs.Prelude.{◌≡◌, ℕ, List, Option}
use Rattle.std.specs.Io.KnownBytes.{Appends}
use Rattle.vault_core_model.specs.declared.reply.Answer.TheVariants as answer
use Rattle.vault_core_model.specs.declared.reply.Reply.{Reply}
use Rattle.vault_core_model.specs.declared.reply.Reply.TheVariants.{Done, Refused, Stopped}
use Rattle.vault_files.specs.Certificate.{certificate_text}
use Rattle.vault_files.specs.ReportText.{report_text}
use Rattle.vault_lines_reply.specs.ReplyLine.{reply_text}
use Rattle.vaultctl_commands.specs.declared.outcome.Outcome.{Outcome}
use Rattle.vaultctl_commands.specs.declared.outcome.Outcome.TheVariants as outcome

-- a report and a certificate as text, and any other reply as its line
abbrev pub printed : Reply → List ℕ
printed (Done (answer.Report report)) = report_text report
printed (Done (answer.Certificate entry tenures)) = certificate_text entry tenures
printed reply = reply_text reply

abbrev pub outcome_of : Reply → Outcome
outcome_of (Done answer) = outcome.Done
outcome_of (Refused refusal) = outcome.Refused
outcome_of (Stopped changes stop) = outcome.Refused

-- a reply is printed, and that came of its command
abbrev pub PrintsReply : Outcome → Option (List ℕ) → Option (List ℕ) → Type 0
PrintsReply stated before after = (reply : Reply) × (stated ≡ outcome_of reply) × Appends before after (printed reply)
