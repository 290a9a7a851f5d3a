use Rattle.std.proofs.Common.{ℕ, List}
use Rattle.vaultctl_log.specs.Line.{IsWritten}
use Rattle.vaultctl_log.proofs.Shown.{puts}
use Rattle.vaultctl_log.proofs.entry.log_entry.Goals as goal

-- the line, or a beginning of it, goes to the writer
pub returns-in-Some : goal.returns-in-Some
returns-in-Some g c =
    let entry = c.args.entry.now in
    let P : List ℕ → Type 0 = λ text. IsWritten entry.facts entry.asked.now entry.answered.now text in
    rw c.in-Some.is (puts P _ _ c.write_entry.result c.write_entry.ensures.ok c.write_entry.ensures.err)
