use Rattle.std.proofs.Common.{◌≡◌, take}
use Rattle.std.specs.List.{fold}
use Rattle.serde_json.specs.Data.{put as with_member}
use Rattle.serde_json.specs.View.{members_view}
use Rattle.vault_lines_reply.specs.Object.{plain_data}
use Rattle.vault_lines_reply.proofs.object.put_plain.Given as goal

-- the members so far
abbrev pub invariant-loop-name : goal.invariant-loop-name
invariant-loop-name l = members_view l.members.entries ≡ fold (λ ms m. with_member m.0.now (plain_data m.1) ms) (members_view l.fn.members.entries) (take l.name-index l.plain)
