use Rattle.std.proofs.Common.{◌≡◌, map, take}
use Rattle.vault_core_model.specs.Change.{closed_if}
use Rattle.vault_core_list.proofs.change.closed.Given as goal

-- the callers so far
abbrev pub invariant-loop-caller : goal.invariant-loop-caller
invariant-loop-caller l = l.list.items ≡ map (closed_if l.name) (take l.caller-index l.callers)
