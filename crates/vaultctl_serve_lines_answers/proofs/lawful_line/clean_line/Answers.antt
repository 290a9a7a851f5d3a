use Rattle.vaultctl_serve_lines_answers.proofs.LawfulLemmas.{clean_text-is}
use Rattle.vaultctl_serve_lines_answers.proofs.lawful_line.clean_line.Goals as goal

pub returns : goal.returns
returns c = clean_text-is _ _ c.args.next _ _ _ c.in_ok-push_str.ensures.bytes c.in_ok-line.ensures.text c.in_ok-value.ensures c.in_ok-stated.ensures c.no_breach.ensures
