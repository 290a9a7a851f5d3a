use Rattle.std.proofs.Common.{rules, ◌≡◌, ◌<◌, true, false, length, string_bytes, Result, Ok, Err, IfOk, inr}
use Rattle.vault_base.specs.Limits.{longest_line}
use Rattle.vault_core_model.specs.declared.command.Timed.{Timed}
use Rattle.vault_lines_print.specs.Lines.{SpellsTimed}
use Rattle.vault_lines_print.specs.Members.{timed}
use Rattle.vaultctl_replay.specs.Entries.{IsEntry, IsTooLong, end_line}
use Rattle.vaultctl_replay.specs.Lines.{ended}
use Rattle.vaultctl_replay.specs.declared.entry.Entry.{Entry}
use Rattle.vaultctl_replay.proofs.entry.record_of.Goals as goal

last_line : {E : Type 0} (r : Result Entry E) (t : Timed) → IsTooLong t → IfOk r (λ made. made.is_last ≡ true) → IfOk r (λ made. string_bytes made.text ≡ ended end_line)
    → IfOk r (λ made. IsEntry made.is_last false t (string_bytes made.text))
last_line (Ok made) t long last text = rw last (inr long, text)
last_line (Err e) t long last text = tt

pub returns-then-len-gt-LONGEST_LINE : goal.returns-then-len-gt-LONGEST_LINE
returns-then-len-gt-LONGEST_LINE c =
    let text = string_bytes c.in_ok-text.text in
    let more : longest_line < length text = search rules in
    last_line c.last_entry.result (timed c.args.at c.args.who.now c.args.command.now) (text, more, c.in_ok-text.ensures.spelled) c.last_entry.ensures.last c.last_entry.ensures.text
