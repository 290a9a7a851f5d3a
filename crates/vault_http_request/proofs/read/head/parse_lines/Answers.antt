use Rattle.std.proofs.Common.{sym, subst}
use Rattle.std.proofs.Math.Seq.{take-length}
use Rattle.vault_http_request.specs.Head.{IsBlank}
use Rattle.vault_http_request.proofs.Blank.{one_more, no_head, head_may_come}
use Rattle.vault_http_request.proofs.read.head.parse_lines.Goals as goal

pub returns-then-is_blank_line-clause-blank : goal.returns-then-is_blank_line-clause-blank
returns-then-is_blank_line-clause-blank c =
    subst IsBlank (sym (take-length c.args.buf.now)) (one_more c.args.buf.now c.args.blank.now c.requires.blank (c.is_blank_line.ensures c.if-is_blank_line.true))

pub returns-then-is_blank_line-clause-partial : goal.returns-then-is_blank_line-clause-partial
returns-then-is_blank_line-clause-partial c =
    no_head c.args.buf.now (one_more c.args.buf.now c.args.blank.now c.requires.blank (c.is_blank_line.ensures c.if-is_blank_line.true))

pub returns-then-is_blank_line-clause-unfinished : goal.returns-then-is_blank_line-clause-unfinished
returns-then-is_blank_line-clause-unfinished c =
    head_may_come c.args.buf.now (one_more c.args.buf.now c.args.blank.now c.requires.blank (c.is_blank_line.ensures c.if-is_blank_line.true))
