use Rattle.std.proofs.Common.{◌≡◌, ◌++◌, map, take}
use Rattle.std.specs.List.{flat_map}
use Rattle.serde_json.specs.View.{view}
use Rattle.vault_lines_print.specs.Members.{right_if}
use Rattle.vault_lines_print.proofs.record_members.push_rights.Given as goal

-- the names so far
abbrev pub invariant-loop-right : goal.invariant-loop-right
invariant-loop-right l = map view l.names.items ≡ map view l.fn.names.items ++ flat_map (right_if l.rights) (take l.right-index l.all)
