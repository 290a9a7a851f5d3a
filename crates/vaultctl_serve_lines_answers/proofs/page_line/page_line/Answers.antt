use Rattle.vaultctl_serve_lines_answers.proofs.PageLemmas.{page_line_text-is}
use Rattle.vaultctl_serve_lines_answers.proofs.page_line.page_line.Goals as goal

pub returns : goal.returns
returns c = page_line_text-is _ _ c.args.text.now c.args.next _ _ c.in_ok-push_str.ensures.bytes c.in_ok-line.ensures.text c.in_ok-value.ensures c.in_ok-stated.ensures
