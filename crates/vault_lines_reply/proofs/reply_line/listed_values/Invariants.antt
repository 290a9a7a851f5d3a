use Rattle.std.proofs.Common.{◌≡◌, map, take}
use Rattle.serde_json.specs.View.{view}
use Rattle.vault_lines_reply.specs.ReplyLine.{listed_value}
use Rattle.vault_lines_reply.proofs.reply_line.listed_values.Given as goal

-- the entries so far
abbrev pub invariant-loop-listed : goal.invariant-loop-listed
invariant-loop-listed l = map view l.list.items ≡ map listed_value (take l.listed-index l.entries)
