use Rattle.vaultctl_serve_lines_answers.proofs.StatusLemmas.{status_text-is}
use Rattle.vaultctl_serve_lines_answers.proofs.status_line.status_line.Goals as goal

pub returns : goal.returns
returns c = status_text-is _ _ c.args.version.now _ _ c.args.status.now c.in_ok-push_str.ensures.bytes c.in_ok-line.ensures.text c.in_ok-value.ensures c.in_ok-stated.ensures
