use Rattle.vaultctl_serve_lines_answers.proofs.LawfulLemmas.{breach_text-is}
use Rattle.vaultctl_serve_lines_answers.proofs.lawful_line.breach_line.Goals as goal

pub returns : goal.returns
returns c = breach_text-is _ _ c.args.law.now c.args.id c.args.next _ _ _ c.in_ok-push_str.ensures.bytes c.in_ok-line.ensures.text c.in_ok-value.ensures c.in_ok-stated.ensures c.in_ok-breach.ensures
