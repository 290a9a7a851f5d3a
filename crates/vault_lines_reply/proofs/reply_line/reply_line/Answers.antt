use Rattle.vault_lines_reply.proofs.ReplyLemmas.{reply_text-is}
use Rattle.vault_lines_reply.proofs.reply_line.reply_line.Goals as goal

pub returns : goal.returns
returns c = reply_text-is _ _ _ c.args.reply.now c.in_ok-push_str.ensures.bytes c.in_ok-line.ensures.text c.in_ok-value.ensures
