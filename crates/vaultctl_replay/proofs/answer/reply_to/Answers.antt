use Rattle.std.proofs.Common.{◌≡◌, ℕ, List, refl, sym, subst}
use Rattle.std.specs.Prelude.{IfOk, string_bytes}
use Rattle.vault_lines_read.specs.declared.read_line.Line.{Line}
use Rattle.vaultctl_replay.specs.Runs.{HeardBy}
use Rattle.vaultctl_replay.proofs.answer.reply_to.Goals as goal

pub returns-in-Refused-clause-heard : goal.returns-in-Refused-clause-heard
returns-in-Refused-clause-heard g c =
    let now = c.args.keeper.now in
    let who = c.args.hears.now in
    let P : Line → Type 0 = λ a. HeardBy g.K.Kept now now g.H.Hears.hears who who (λ out. IfOk c.stated.result (λ text. string_bytes text ≡ out)) a in
    subst P (sym c.in-Refused.is) (refl, refl, refl, c.stated.ensures)

pub returns-in-Command-clause-heard : goal.returns-in-Command-clause-heard
returns-in-Command-clause-heard g c =
    let P : Line → Type 0 = λ a. HeardBy g.K.Kept c.args.keeper.now c.carried_out.new.keeper g.H.Hears.hears c.args.hears.now c.carried_out.new.hears (λ out. IfOk c.carried_out.result (λ text. string_bytes text ≡ out)) a in
    subst P (sym c.in-Command.is) c.carried_out.ensures.heard
